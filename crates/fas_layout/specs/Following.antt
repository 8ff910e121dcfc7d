-- Lists of neighbours in the neighbour places.
use Rattle.std.specs.Prelude.{◌≡◌, ℕ, suc, ◌+◌, ◌-◌, ◌<◌, ◌≤◌, true, cond, List, [], ◌∷◌, length, Some, None, Option, ◌==◌, nat_lt, slice_index, slice_index_or}
use Rattle.network.specs.Counting.{one, has}
use Rattle.greedy_order.specs.Part3Order.{to_front, all_to_front}
use Rattle.network.specs.Directions.{opposite}
use Rattle.network.specs.declared.direction.CompactDirection.{CompactDirection}
use Rattle.network.specs.declared.direction.CompactDirection.TheVariants.{Outgoing, Incoming}
use Rattle.fas_layout.specs.Columns.{Columns, Neighbours, SameLinks}
use Rattle.fas_layout.specs.Classes.{Sorted}

-- a next place counts if it lies later: places rise along a list
abbrev pub later_of : ℕ → Option ℕ → Option ℕ
later_of p None = None
later_of p (Some q) = cond (nat_lt p q) (Some q) None

-- from the place at on stand the nodes l, at places that rise from lo
abbrev pub Follows : Neighbours → ℕ → Option ℕ → List ℕ → Type 0
Follows P lo at [] = at ≡ None
Follows P lo at (y ∷ l) = (p : ℕ) × ((at ≡ Some p) × (lo ≤ p) × (p < length P.nodes) × (slice_index P.nodes p ≡ y) × Follows P (suc p) (slice_index_or P.nexts p None) l)

-- how often z stands in a list
abbrev pub occurrences : List ℕ → ℕ → ℕ
occurrences [] z = 0
occurrences (y ∷ l) z = one (y == z) + occurrences l z

-- how many places can come from here on
abbrev pub places_left : ℕ → Option ℕ → ℕ
places_left n None = 0
places_left n (Some p) = suc (n - p)

-- of the neighbours of a taken node, which are all, those in left have yet to lose an arc; S says what the tables are for the nodes that are untaken now.
-- were are the degrees in question as they were, are as they are now
pub record Lowering (P : Neighbours) (all untaken₀ : List ℕ) (at : Option ℕ) (S : List ℕ → Type 0) (were are : List ℕ) : Type 0 where
  pub low : ℕ
  pub left : List ℕ
  pub untaken : List ℕ
  pub follows : Follows P low at left
  pub state : S untaken
  pub same : (z : ℕ) → has untaken z ≡ has untaken₀ z
  pub comes : all_to_front left untaken ≡ all_to_front all untaken₀
  pub falls : (z : ℕ) → has untaken₀ z ≡ true → slice_index are z - occurrences left z ≡ slice_index were z - occurrences all z

abbrev pub degrees : CompactDirection → Columns → List ℕ
degrees Outgoing t = t.out_degrees
degrees Incoming t = t.in_degrees

-- where the lists of neighbours begin
abbrev pub firsts : CompactDirection → Columns → List (Option ℕ)
firsts Outgoing t = t.first_outs
firsts Incoming t = t.first_ins

-- the node y, if it is not taken, has lost an arc, and stands at the front of its class
pub record LostOne (d : CompactDirection) (m : ℕ) (t : Columns) (s : List (Option ℕ)) (t' : Columns) (s' : List (Option ℕ)) (y : ℕ) : Type 0 where
  pub sorted : (untaken : List ℕ) → Sorted m t s untaken → Sorted m t' s' (to_front y untaken)
  pub falls : (untaken : List ℕ) → Sorted m t s untaken → (z : ℕ) → has untaken z ≡ true → slice_index (degrees d t') z ≡ slice_index (degrees d t) z - one (y == z)
  pub other : degrees (opposite d) t' ≡ degrees (opposite d) t
  pub links : SameLinks t' t

-- so have the neighbours from the place at on, one after the other
pub record LostAll (d : CompactDirection) (m : ℕ) (P : Neighbours) (t : Columns) (s : List (Option ℕ)) (t' : Columns) (s' : List (Option ℕ)) (at : Option ℕ) : Type 0 where
  pub sorted : (all untaken : List ℕ) → Follows P 0 at all → Sorted m t s untaken → Sorted m t' s' (all_to_front all untaken)
  pub falls : (all untaken : List ℕ) → Follows P 0 at all → Sorted m t s untaken → (z : ℕ) → has untaken z ≡ true → slice_index (degrees d t') z ≡ slice_index (degrees d t) z - occurrences all z
  pub other : degrees (opposite d) t' ≡ degrees (opposite d) t
  pub links : SameLinks t' t

-- the out neighbours of x, whose lists begin at the two places, have lost an arc that comes in, then its in neighbours one that goes out
pub record Updated (m : ℕ) (P : Neighbours) (t : Columns) (s : List (Option ℕ)) (t' : Columns) (s' : List (Option ℕ)) (firstOut firstIn : Option ℕ) : Type 0 where
  pub sorted : (outs ins untaken : List ℕ) → Follows P 0 firstOut outs → Follows P 0 firstIn ins → Sorted m t s untaken → Sorted m t' s' (all_to_front ins (all_to_front outs untaken))
  pub ins : (outs ins untaken : List ℕ) → Follows P 0 firstOut outs → Follows P 0 firstIn ins → Sorted m t s untaken → (z : ℕ) → has untaken z ≡ true → slice_index t'.in_degrees z ≡ slice_index t.in_degrees z - occurrences outs z
  pub outs : (outs ins untaken : List ℕ) → Follows P 0 firstOut outs → Follows P 0 firstIn ins → Sorted m t s untaken → (z : ℕ) → has untaken z ≡ true → slice_index t'.out_degrees z ≡ slice_index t.out_degrees z - occurrences ins z
  pub links : SameLinks t' t
