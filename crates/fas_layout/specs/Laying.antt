-- The tables as they are built: the nodes are entered in order of first sight, then the arcs are laid out, the last one first.
use Rattle.std.specs.Prelude.{◌≡◌, ℕ, zero, suc, ◌+◌, ◌*◌, ◌<◌, List, [], ◌∷◌, length, get_or, take, Some, None, Option, nat_eq, slice_index, slice_index_or, slice_set}
use Rattle.network.specs.Counting.{count}
use Rattle.network.specs.Network.{Link, meet_all}
use Rattle.greedy_order.specs.Part3Order.{out_neighbours, in_neighbours}
use Rattle.fas_layout.specs.Columns.{Columns, Neighbours}
use Rattle.network.specs.declared.direction.CompactDirection.{CompactDirection}
use Rattle.network.specs.Directions.{opposite}
use Rattle.fas_layout.specs.Following.{Follows, degrees, firsts}

-- the entry numbers below n, the last first
abbrev pub down : ℕ → List ℕ
down zero = []
down (suc n) = n ∷ down n

-- every column has n items
pub record Sized (t : Columns) (n : ℕ) : Type 0 where
  pub positions : length t.positions ≡ n
  pub out_degrees : length t.out_degrees ≡ n
  pub in_degrees : length t.in_degrees ≡ n
  pub first_outs : length t.first_outs ≡ n
  pub first_ins : length t.first_ins ≡ n
  pub places : length t.places ≡ n

-- the arc at position i has the neighbour places 2i, where its target stands for its source, and 2i + 1, where its source stands for its target
abbrev pub link_at : List ℕ → ℕ → Link
link_at nodes i = (slice_index nodes (2 * i + 1), slice_index nodes (2 * i))

-- the k arcs from position i on, by entry numbers
abbrev pub links_from : List ℕ → ℕ → ℕ → List Link
links_from nodes i zero = []
links_from nodes i (suc k) = link_at nodes i ∷ links_from nodes (suc i) k

-- the ends of the first m arcs are entries below n
abbrev pub EndsBelow : List ℕ → ℕ → ℕ → Type 0
EndsBelow nodes m n = (i : ℕ) → i < m → ((link_at nodes i).0 < n) × ((link_at nodes i).1 < n)

-- how many arcs leave the entry z, and how many come to it
abbrev pub leaving : List Link → ℕ → ℕ
leaving arcs z = count (λ a. nat_eq a.0 z) arcs

abbrev pub coming : List Link → ℕ → ℕ
coming arcs z = count (λ a. nat_eq a.1 z) arcs

-- these arcs are laid out at the places from lo on: the entries below n have their neighbours and degrees by them
pub record Laid (P : Neighbours) (t : Columns) (n lo : ℕ) (arcs : List Link) : Type 0 where
  pub targets : (z : ℕ) → z < n → Follows P lo (slice_index_or t.first_outs z None) (out_neighbours arcs z)
  pub sources : (z : ℕ) → z < n → Follows P lo (slice_index_or t.first_ins z None) (in_neighbours arcs z)
  pub outs : (z : ℕ) → z < n → slice_index t.out_degrees z ≡ leaving arcs z
  pub ins : (z : ℕ) → z < n → slice_index t.in_degrees z ≡ coming arcs z

-- the entry x has one arc more, whose neighbour stands at the place p
pub record Led (d : CompactDirection) (t t' : Columns) (x p : ℕ) : Type 0 where
  pub positions : t'.positions ≡ t.positions
  pub begins : firsts d t' ≡ slice_set (firsts d t) x (Some p)
  pub rises : degrees d t' ≡ slice_set (degrees d t) x (slice_index (degrees d t) x + 1)
  pub other_begins : firsts (opposite d) t' ≡ firsts (opposite d) t
  pub other_rises : degrees (opposite d) t' ≡ degrees (opposite d) t
  pub places : t'.places ≡ t.places

-- the place p leads on to q
pub record LeadsTo (P P' : Neighbours) (p : ℕ) (q : Option ℕ) : Type 0 where
  pub nodes : P'.nodes ≡ P.nodes
  pub nexts : P'.nexts ≡ slice_set P.nexts p q

-- the entry e is that of the node x; met are the nodes of the entries
abbrev pub Names : List ℕ → ℕ → ℕ → Type 0
Names met e x = (e < length met) × (slice_index met e ≡ x)

-- the first i arcs are entered: met are their nodes in order of first sight, and the neighbour places name their ends
pub record Entered (links : List Link) (i : ℕ) (met nodes : List ℕ) : Type 0 where
  pub nodes_met : met ≡ meet_all (take i links) []
  pub ends : (j : ℕ) → j < i → Names met (link_at nodes j).0 (get_or links j (0, 0)).0 × Names met (link_at nodes j).1 (get_or links j (0, 0)).1
