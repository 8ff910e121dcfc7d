-- The edits of a map, as steps on its tables.
use Rattle.std.specs.Prelude.{◌≡◌, ℕ, ◌+◌, ◌-◌, ◌%◌, Bool, cond, List, [], length, Some, None, Ok, Err, Option, Result, ◌==◌, nat_le, nat_lt, slice_index_or}
use Rattle.fault.specs.declared.Fault.{Fault}
use Rattle.fault.specs.declared.Fault.TheVariants.{NodesFull, ArcsFull}
use Rattle.keys.specs.declared.ends.Ends.{Ends}
use Rattle.keys.specs.declared.node_index.NodeIndex.{NodeIndex}
use Rattle.keys.specs.Numbers.{pair_number}
use Rattle.keyed_table.specs.Listing.{without}
use Rattle.linked_list.specs.Places.{Position}
use Rattle.map_model.specs.Lists.{taken}
use Rattle.map_model.specs.Model.{new_keys, named, links_at, all_unlinked, all_taken}
use Rattle.map_model.specs.Sound.{Sound}
use Rattle.map_layout.specs.declared.records.NodeRecord.{NodeRecord}
use Rattle.map_layout.specs.declared.records.ArcRecord.{ArcRecord}
use Rattle.map_layout.specs.declared.records.IndexedKey.{IndexedKey}
use Rattle.map_layout.specs.Layout.{State, Rep, partner, model}
use Rattle.map_layout.specs.Steps.{with_nodes, node_at, linked_at, swapped_out_of, dropped_out_of, new_place, place_taken, place_given, arc_at, arc_put, arc_gone}

-- the tables stand for a map, and the links of its nodes are its arcs
pub record Good {N E : Type 0} (st : State N E) : Type 0 where
  pub rep : Rep st
  pub sound : Sound (model st)

abbrev pub ends_number : NodeIndex → NodeIndex → ℕ
ends_number i j = pair_number i.value j.value

abbrev pub ends_of : NodeIndex → NodeIndex → Ends NodeIndex
ends_of i j = record { source = i; target = j }

abbrev pub neighbor : {N : Type 0} → N → NodeIndex → IndexedKey N
neighbor n i = record { key = n; index = i }

-- ---- a weight is replaced
abbrev pub reweighed : {N E : Type 0} → E → ArcRecord N E → ArcRecord N E
reweighed w r = record { source = r.source; target = r.target; weight = w; place = r.place }

abbrev pub arc_weighed : {N E : Type 0} → NodeIndex → NodeIndex → E → ArcRecord N E → State N E → State N E
arc_weighed i j w r st = arc_put (ends_number i j) (ends_of i j) (reweighed w r) st

-- ---- an arc comes
abbrev pub both_linked_at : {N E : Type 0} → N → NodeIndex → N → NodeIndex → ℕ → State N E → State N E
both_linked_at a i b j p st =
    cond (i.value == j.value)
    (linked_at a i p (neighbor b j) st)
    (linked_at b j (partner p) (neighbor a i) (linked_at a i p (neighbor b j) st))

abbrev pub laid : {N E : Type 0} → N → NodeIndex → N → NodeIndex → E → State N E → State N E
laid a i b j w st =
    arc_put (ends_number i j) (ends_of i j) (record { source = a; target = b; weight = w; place = new_place st })
    (both_linked_at a i b j (new_place st) (place_taken st))

-- the new ones of the two ends outnumber the free node places
abbrev pub lacks_nodes : {N E : Type 0} → NodeIndex → NodeIndex → State N E → Bool
lacks_nodes i j st = nat_lt st.node_places (length st.nodes + new_keys i.value j.value (model st).nodes)

-- no arc place is free
abbrev pub lacks_arc : {N E : Type 0} → State N E → Bool
lacks_arc st = nat_le st.arc_places (length st.arcs)

-- why a new arc finds no place
abbrev pub refusal : {N E : Type 0} → NodeIndex → NodeIndex → State N E → Option Fault
refusal i j st = cond (lacks_nodes i j st) (Some NodesFull) (cond (lacks_arc st) (Some ArcsFull) None)

abbrev pub laid_answer : {E : Type 0} → Option Fault → Result (Option E) Fault
laid_answer None = Ok None
laid_answer (Some f) = Err f

abbrev pub laid_or_same : {X : Type 0} → Option Fault → X → X → X
laid_or_same None new old = new
laid_or_same (Some f) new old = old

-- an arc that is not there: the answer r, and what is left
pub record ArcLaid {N E : Type 0} (a : N) (i : NodeIndex) (b : N) (j : NodeIndex) (w : E) (st : State N E) (r : Result (Option E) Fault) (st' : State N E) : Type 0 where
  pub answer : r ≡ laid_answer (refusal i j st)
  pub left : st' ≡ laid_or_same (refusal i j st) (laid a i b j w st) st

-- an arc that is there gets another weight
pub record ArcPut {N E : Type 0} (a : N) (i : NodeIndex) (b : N) (j : NodeIndex) (w : E) (st : State N E) (r : Result (Option E) Fault) (st' : State N E) : Type 0 where
  pub there : (old : ArcRecord N E) → arc_at (ends_number i j) st ≡ Some old → (r ≡ Ok (Some old.weight)) × (st' ≡ arc_weighed i j w old st)
  pub absent : arc_at (ends_number i j) st ≡ None → ArcLaid a i b j w st r st'

-- ---- an arc goes
abbrev pub both_swapped_out : {N E : Type 0} → NodeIndex → NodeIndex → ℕ → State N E → State N E
both_swapped_out i j p st =
    cond (i.value == j.value)
    (swapped_out_of i p st)
    (swapped_out_of j (partner p) (swapped_out_of i p st))

-- the links of an arc that stood at p go, and its place is unused
abbrev pub unlaid : {N E : Type 0} → NodeIndex → NodeIndex → ℕ → State N E → State N E
unlaid i j p st = place_given p (both_swapped_out i j p st)

-- what is removed, by whether the arc is there
pub record ArcRemoved {N E : Type 0} (i j : NodeIndex) (st : State N E) (r : Option E) (st' : State N E) : Type 0 where
  pub there : (old : ArcRecord N E) → arc_at (ends_number i j) st ≡ Some old → (r ≡ Some old.weight) × (st' ≡ unlaid i j old.place (arc_gone (ends_number i j) st))
  pub absent : arc_at (ends_number i j) st ≡ None → (r ≡ None) × (st' ≡ arc_gone (ends_number i j) st)

-- ---- the oldest arc of a node goes
abbrev pub oldest_of : {N : Type 0} → Option (NodeRecord N) → Option ℕ
oldest_of None = None
oldest_of (Some r) = r.oldest

abbrev pub oldest_at : {N E : Type 0} → ℕ → State N E → Option ℕ
oldest_at i st = oldest_of (node_at i st)

abbrev pub neighbor_at : {N E : Type 0} → ℕ → State N E → Option (IndexedKey N)
neighbor_at p st = slice_index_or st.neighbors p None

-- the number of the arc that the link at p, of the node i to j, stands for
abbrev pub number_at : ℕ → NodeIndex → NodeIndex → ℕ
number_at p i j = cond (p % 2 == 0) (ends_number i j) (ends_number j i)

-- the link at p, of the node i, and the one at the other end j go
abbrev pub unlinked_at : {N E : Type 0} → NodeIndex → NodeIndex → ℕ → State N E → State N E
unlinked_at i j p st = cond (j.value == i.value) (dropped_out_of i p st) (swapped_out_of j (partner p) (dropped_out_of i p st))

-- the link at p, of the node i to j, goes with its arc
abbrev pub cut : {N E : Type 0} → NodeIndex → NodeIndex → ℕ → State N E → State N E
cut i j p st = place_given (p - p % 2) (unlinked_at i j p (arc_gone (number_at p i j) st))

-- arcs of the node i went in the sequence of its links: the tables are good, and the removals that are left come to the same
pub record Cut {N E : Type 0} (i : ℕ) (st st' : State N E) : Type 0 where
  pub good : Good st'
  pub nodes : all_unlinked i (links_at i (model st').nodes) (taken (named i) (model st').nodes) ≡ all_unlinked i (links_at i (model st).nodes) (taken (named i) (model st).nodes)
  pub arcs : all_taken i (links_at i (model st').nodes) (model st').arcs ≡ all_taken i (links_at i (model st).nodes) (model st).arcs
  pub node_places : st'.node_places ≡ st.node_places
  pub arc_places : st'.arc_places ≡ st.arc_places

-- a node without links goes
abbrev pub node_gone : {N E : Type 0} → NodeIndex → State N E → State N E
node_gone i st = with_nodes st (without i.value st.nodes)

-- ---- no node and no arc
abbrev pub empty : {N E : Type 0} → List (Option (IndexedKey N)) → List Position → ℕ → ℕ → State N E
empty cs L n m = record { nodes = []; arcs = []; neighbors = cs; positions = L; unused = None; fresh = 0; node_places = n; arc_places = m }
