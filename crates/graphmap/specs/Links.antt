-- What a cursor over the links of a node has still to show.
use Rattle.std.specs.Prelude.{◌≡◌, ℕ, zero, suc, ◌+◌, ◌≤◌, true, List, [], ◌∷◌, length, is_some, Some, None, Option}
use Rattle.linked_list.specs.Places.{Position}
use Rattle.linked_list.specs.Places.{at, prev_of}
use Rattle.network.specs.declared.direction.CompactDirection.{CompactDirection}
use Rattle.map_model.specs.Lists.{kept}
use Rattle.map_model.specs.Model.{Link, Arc}
use Rattle.map_model.specs.Shown.{shows, edge_of}
use Rattle.map_layout.specs.Layout.{State, links_in}
use Rattle.map_layout.specs.declared.records.IndexedKey.{IndexedKey}

-- the places from s on, from older links to newer ones
abbrev pub Ahead : List Position → Option ℕ → List ℕ → Type 0
Ahead L s [] = s ≡ None
Ahead L s (p ∷ l) = (s ≡ Some p) × Ahead L (prev_of (at L p)) l

-- a cursor at the place s, over what a direction shows of the links of the node i, has the links ks still to show, and n places behind it
pub record ToCome {N E : Type 0} (st : State N E) (i : ℕ) (d : CompactDirection) (s : Option ℕ) (n : ℕ) (ks : List (Link N)) : Type 0 where
  pub places : List ℕ
  pub ahead : Ahead st.positions s places
  pub few : length places + n ≤ length st.positions
  pub shown : ks ≡ kept (shows i d) (links_in st.neighbors places)

-- the places from s on, n of them at most
abbrev pub places_from : List Position → ℕ → Option ℕ → List ℕ
places_from L zero s = []
places_from L (suc n) None = []
places_from L (suc n) (Some p) = p ∷ places_from L n (prev_of (at L p))

abbrev pub places_left : {N E : Type 0} → State N E → Option ℕ → List ℕ
places_left st s = places_from st.positions (suc (length st.positions)) s

-- the walk from s on comes to its end
abbrev pub WalkEnds : {N E : Type 0} → State N E → Option ℕ → Type 0
WalkEnds st s = length (places_left st s) ≤ length st.positions

-- the links that a direction shows of those from the place s on
abbrev pub links_left : {N E : Type 0} → State N E → ℕ → CompactDirection → Option ℕ → List (Link N)
links_left st i d s = kept (shows i d) (links_in st.neighbors (places_left st s))

-- the first of the links ks, if there is one, has the other end n, and the links ls come after it
abbrev pub LeadsTo : {N : Type 0} → List (Link N) → Option (IndexedKey N) → List (Link N) → Type 0
LeadsTo ks None ls = (ks ≡ []) × (ls ≡ [])
LeadsTo ks (Some n) ls = (own : CompactDirection) × (ks ≡ record { key = n.key; index = n.index.value; direction = own } ∷ ls)

abbrev pub first_of : {X : Type 0} → List X → Option X
first_of [] = None
first_of (x ∷ l) = Some x

abbrev pub rest_of : {X : Type 0} → List X → List X
rest_of [] = []
rest_of (x ∷ l) = l

-- the edge that the first of the links to come stands for
abbrev pub edge_first : {N E : Type 0} → N → ℕ → CompactDirection → List (Arc N E) → Option (Link N) → Option (N × N × E)
edge_first a i d arcs None = None
edge_first a i d arcs (Some k) = edge_of a i d arcs k

-- a link of the node a stands for an arc
abbrev pub HasArc : {N E : Type 0} → N → ℕ → CompactDirection → List (Arc N E) → Link N → Type 0
HasArc a i d arcs k = is_some (edge_of a i d arcs k) ≡ true
