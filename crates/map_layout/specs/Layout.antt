-- What the tables of a map hold, the map that they stand for, and what every edit keeps of them.
use Rattle.std.specs.Prelude.{◌≡◌, ℕ, suc, ◌+◌, ◌-◌, ◌*◌, ◌/◌, ◌%◌, ◌^◌, ◌<◌, ◌≤◌, Bool, true, cond, ◌⊎◌, List, [], ◌∷◌, ◌++◌, map, reverse, length, get_or, Some, None, Option, ◌==◌, ◌≢◌, slice_index_or}
use Rattle.keys.specs.declared.ends.Ends.{Ends}
use Rattle.keys.specs.declared.node_index.NodeIndex.{NodeIndex}
use Rattle.keyed_table.specs.declared.slots.Item.{Item}
use Rattle.linked_list.specs.Places.{Position}
use Rattle.linked_list.specs.Places.{at}
use Rattle.linked_list.specs.Chains.{has, last, Holds, Other, entries_of}
use Rattle.network.specs.declared.direction.CompactDirection.{CompactDirection}
use Rattle.network.specs.declared.direction.CompactDirection.TheVariants.{Outgoing, Incoming}
use Rattle.map_model.specs.Lists.{count}
use Rattle.map_model.specs.Model.{Link, Node, Arc, Model}
use Rattle.map_layout.specs.declared.records.NodeRecord.{NodeRecord}
use Rattle.map_layout.specs.declared.records.ArcRecord.{ArcRecord}
use Rattle.map_layout.specs.declared.records.IndexedKey.{IndexedKey}

-- ---- what the tables hold
abbrev pub NodeItem : Type 0 → Type 0
NodeItem N = Item NodeIndex (NodeRecord N)

abbrev pub ArcItem : Type 0 → Type 0 → Type 0
ArcItem N E = Item (Ends NodeIndex) (ArcRecord N E)

-- The link places have a neighbour and a position each. The places before `fresh` were used before; those of them
-- that no arc has are listed from `unused` on, two to an arc, the first of the two standing for both.
pub record State (N E : Type 0) : Type 0 where
  pub nodes : List (NodeItem N)
  pub arcs : List (ArcItem N E)
  pub neighbors : List (Option (IndexedKey N))
  pub positions : List Position
  pub unused : Option ℕ
  pub fresh : ℕ
  pub node_places : ℕ
  pub arc_places : ℕ

-- ---- the map that they stand for

-- an even place holds an outgoing link, an odd one an incoming link
abbrev pub direction_at : ℕ → CompactDirection
direction_at p = cond (p % 2 == 0) Outgoing Incoming

-- the place of the other link of the same arc
abbrev pub partner : ℕ → ℕ
partner p = cond (p % 2 == 0) (p + 1) (p - 1)

abbrev pub link_to : {N : Type 0} → ℕ → IndexedKey N → Link N
link_to p o = record { key = o.key; index = o.index.value; direction = direction_at p }

abbrev pub link_at : {N : Type 0} → ℕ → Option (IndexedKey N) → List (Link N)
link_at p None = []
link_at p (Some o) = link_to p o ∷ []

-- the links at a list of places
abbrev pub links_in : {N : Type 0} → List (Option (IndexedKey N)) → List ℕ → List (Link N)
links_in cs [] = []
links_in cs (p ∷ l) = link_at p (slice_index_or cs p None) ++ links_in cs l

-- the places of a node's links, the newest first
abbrev pub places_of : {N : Type 0} → List Position → NodeItem N → List ℕ
places_of L x = entries_of L x.value.newest

abbrev pub node_of : {N : Type 0} → List (Option (IndexedKey N)) → List Position → NodeItem N → Node N
node_of cs L x = record { key = x.value.key; index = x.number; links = reverse (links_in cs (places_of L x)) }

abbrev pub source_of : {N E : Type 0} → ArcItem N E → ℕ
source_of y = y.number / 2 ^ 32

abbrev pub target_of : {N E : Type 0} → ArcItem N E → ℕ
target_of y = y.number % 2 ^ 32

abbrev pub arc_in : {N E : Type 0} → ArcItem N E → Arc N E
arc_in y = record { source = y.value.source; source_index = source_of y; target = y.value.target; target_index = target_of y; weight = y.value.weight }

abbrev pub model : {N E : Type 0} → State N E → Model N E
model st = record {
  nodes = map (node_of st.neighbors st.positions) st.nodes;
  arcs = map arc_in st.arcs;
  node_places = st.node_places;
  arc_places = st.arc_places;
}

-- ---- what every edit keeps
abbrev pub Among : {X : Type 0} → X → List X → Type 0
Among x [] = ⊥
Among x (y ∷ l) = (x ≡ y) ⊎ Among x l

abbrev pub numbered : {K V : Type 0} → ℕ → Item K V → Bool
numbered i x = x.number == i

-- the lists of places: 0 names that of the unused ones, suc i that of the links of the node i; the list k begins at s
pub data Begins {N : Type 0} (unused : Option ℕ) (nodes : List (NodeItem N)) (k : ℕ) (s : Option ℕ) : Type 0 where
  of_unused : k ≡ 0 → s ≡ unused → Begins unused nodes k s
  of_node : (x : NodeItem N) → Among x nodes → k ≡ suc x.number → s ≡ x.value.newest → Begins unused nodes k s

-- each list is one, and no two are the same
pub record Held (B : ℕ → Option ℕ → Type 0) (L : List Position) : Type 0 where
  pub each : (k : ℕ) (s : Option ℕ) → B k s → Holds L s (entries_of L s)
  pub apart : (j k : ℕ) (s t : Option ℕ) → B j s → B k t → (j ≢ k) → Other s t

-- the place p is in the list k
pub record Owns (B : ℕ → Option ℕ → Type 0) (L : List Position) (k p : ℕ) : Type 0 where
  pub start : Option ℕ
  pub begins : B k start
  pub has_it : has (entries_of L start) p ≡ true

abbrev pub Idle : List Position → ℕ → Type 0
Idle L p = at L p ≡ None

-- the place p names the node j as neighbour
pub record Names {N : Type 0} (cs : List (Option (IndexedKey N))) (p j : ℕ) : Type 0 where
  pub neighbor : IndexedKey N
  pub there : get_or cs p None ≡ Some neighbor
  pub named : neighbor.index.value ≡ j

-- a link of the node i: the other end has the other link of its arc, a loop has no other
pub record Paired {N : Type 0} (O : ℕ → ℕ → Type 0) (L : List Position) (cs : List (Option (IndexedKey N))) (i p : ℕ) : Type 0 where
  pub other : ℕ
  pub names : Names cs p other
  pub loop : other ≡ i → (p % 2 ≡ 0) × Idle L (p + 1)
  pub back : (other ≢ i) → O other (partner p) × Names cs (partner p) i

-- an arc has its outgoing link at its own place
pub record Seated {N E : Type 0} (O : ℕ → ℕ → Type 0) (cs : List (Option (IndexedKey N))) (y : ArcItem N E) : Type 0 where
  pub even : y.value.place % 2 ≡ 0
  pub owned : O (source_of y) y.value.place
  pub names : Names cs y.value.place (target_of y)

-- an unused place stands for itself and the next one
pub record Spare (L : List Position) (fresh p : ℕ) : Type 0 where
  pub even : p % 2 ≡ 0
  pub used : p < fresh
  pub next : Idle L (p + 1)

abbrev pub Lists : {N E : Type 0} → State N E → ℕ → Option ℕ → Type 0
Lists st = Begins st.unused st.nodes

-- the place p is in the list of the node i
abbrev pub Linked : {N E : Type 0} → State N E → ℕ → ℕ → Type 0
Linked st i p = Owns (Lists st) st.positions (suc i) p

pub record Rep {N E : Type 0} (st : State N E) : Type 0 where
  pub one_item : (i : ℕ) → count (numbered i) st.nodes ≤ 1
  pub held : Held (Lists st) st.positions
  pub oldest : (x : NodeItem N) → Among x st.nodes → x.value.oldest ≡ last (places_of st.positions x)
  pub paired : (i p : ℕ) → Linked st i p → Paired (Linked st) st.positions st.neighbors i p
  pub seated : (y : ArcItem N E) → Among y st.arcs → Seated (Linked st) st.neighbors y
  pub spare : (p : ℕ) → has (entries_of st.positions st.unused) p ≡ true → Spare st.positions st.fresh p
  pub idle : (p : ℕ) → st.fresh ≤ p → Idle st.positions p
  pub places : 2 * (length st.arcs + length (entries_of st.positions st.unused)) ≡ st.fresh
  pub enough : st.fresh ≤ 2 * st.arc_places
  pub roomy : 2 * st.arc_places ≤ length st.positions
  pub level : length st.neighbors ≡ length st.positions
