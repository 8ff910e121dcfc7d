-- One step on the tables.
use Rattle.std.specs.Prelude.{ℕ, ◌+◌, Bool, true, false, cond, List, Some, None, Option, slice_set}
use Rattle.std.specs.Option.{unwrap_or, option_or}
use Rattle.keys.specs.declared.ends.Ends.{Ends}
use Rattle.keys.specs.declared.node_index.NodeIndex.{NodeIndex}
use Rattle.keyed_table.specs.Listing.{value_at, inserted, without}
use Rattle.linked_list.specs.Places.{Position}
use Rattle.linked_list.specs.Places.{names, prev_of, at}
use Rattle.linked_list.specs.Chains.{can_push, after_push, can_remove, after_remove, start_after_remove, can_pop, after_pop, start_after_pop, can_swap, after_swap, start_after_swap}
use Rattle.map_layout.specs.declared.records.NodeRecord.{NodeRecord}
use Rattle.map_layout.specs.declared.records.ArcRecord.{ArcRecord}
use Rattle.map_layout.specs.declared.records.IndexedKey.{IndexedKey}
use Rattle.map_layout.specs.Layout.{State, NodeItem, ArcItem}

abbrev pub with_links : {N E : Type 0} → State N E → List (NodeItem N) → List (Option (IndexedKey N)) → List Position → State N E
with_links st nodes cs L = record {
  nodes = nodes;
  arcs = st.arcs;
  neighbors = cs;
  positions = L;
  unused = st.unused;
  fresh = st.fresh;
  node_places = st.node_places;
  arc_places = st.arc_places;
}

abbrev pub with_nodes : {N E : Type 0} → State N E → List (NodeItem N) → State N E
with_nodes st nodes = with_links st nodes st.neighbors st.positions

abbrev pub with_arcs : {N E : Type 0} → State N E → List (ArcItem N E) → State N E
with_arcs st arcs = record {
  nodes = st.nodes;
  arcs = arcs;
  neighbors = st.neighbors;
  positions = st.positions;
  unused = st.unused;
  fresh = st.fresh;
  node_places = st.node_places;
  arc_places = st.arc_places;
}

abbrev pub with_unused : {N E : Type 0} → State N E → List Position → Option ℕ → ℕ → State N E
with_unused st L unused fresh = record {
  nodes = st.nodes;
  arcs = st.arcs;
  neighbors = st.neighbors;
  positions = L;
  unused = unused;
  fresh = fresh;
  node_places = st.node_places;
  arc_places = st.arc_places;
}

-- ---- nodes
-- a node without links
abbrev pub lone : {N : Type 0} → N → NodeRecord N
lone n = record { key = n; newest = None; oldest = None }

abbrev pub node_at : {N E : Type 0} → ℕ → State N E → Option (NodeRecord N)
node_at i st = value_at i st.nodes

abbrev pub node_put : {N E : Type 0} → NodeIndex → NodeRecord N → State N E → List (NodeItem N)
node_put i r st = inserted st.node_places i.value i r st.nodes

-- a node that is not there is put last, without links
abbrev pub entered_by : {N E : Type 0} → Option (NodeRecord N) → N → NodeIndex → State N E → State N E
entered_by (Some r) n i st = st
entered_by None n i st = with_nodes st (node_put i (lone n) st)

abbrev pub entered : {N E : Type 0} → N → NodeIndex → State N E → State N E
entered n i st = entered_by (node_at i.value st) n i st

-- ---- links
-- a node with the record r gets a link at the place p, to o
abbrev pub linked_to : {N E : Type 0} → NodeRecord N → NodeIndex → ℕ → IndexedKey N → State N E → State N E
linked_to r i p o st =
    with_links st
    (node_put i (record { key = r.key; newest = cond (can_push st.positions r.newest p) (Some p) r.newest; oldest = option_or r.oldest (Some p) }) st)
    (slice_set st.neighbors p (Some o))
    (cond (can_push st.positions r.newest p) (after_push st.positions r.newest p) st.positions)

-- the node i, which is put last where it is not there, gets a link
abbrev pub linked_at : {N E : Type 0} → N → NodeIndex → ℕ → IndexedKey N → State N E → State N E
linked_at n i p o st = linked_to (unwrap_or (node_at i.value st) (lone n)) i p o st

-- what comes last once the first of a list has taken the place of p
abbrev pub last_swapped : Option ℕ → Option ℕ → ℕ → Option ℕ
last_swapped newest oldest p = cond (names oldest p) (cond (names newest p) None newest) oldest

-- the link at the place p goes from the node i, whose newest link comes in its place
abbrev pub swapped_from : {N E : Type 0} → Option (NodeRecord N) → NodeIndex → ℕ → State N E → State N E
swapped_from None i p st = st
swapped_from (Some r) i p st =
    with_links st
    (node_put i (record { key = r.key; newest = cond (can_swap st.positions r.newest p) (start_after_swap st.positions r.newest p) r.newest; oldest = last_swapped r.newest r.oldest p }) st)
    st.neighbors
    (cond (can_swap st.positions r.newest p) (after_swap st.positions r.newest p) st.positions)

abbrev pub swapped_out_of : {N E : Type 0} → NodeIndex → ℕ → State N E → State N E
swapped_out_of i p st = swapped_from (node_at i.value st) i p st

-- the oldest link of the node i, at the place p, goes
abbrev pub dropped_from : {N E : Type 0} → Option (NodeRecord N) → NodeIndex → ℕ → State N E → State N E
dropped_from None i p st = st
dropped_from (Some r) i p st =
    with_links st
    (node_put i (record { key = r.key; newest = cond (can_remove st.positions r.newest p) (start_after_remove st.positions r.newest p) r.newest; oldest = prev_of (at st.positions p) }) st)
    st.neighbors
    (cond (can_remove st.positions r.newest p) (after_remove st.positions p) st.positions)

abbrev pub dropped_out_of : {N E : Type 0} → NodeIndex → ℕ → State N E → State N E
dropped_out_of i p st = dropped_from (node_at i.value st) i p st

-- ---- places of arcs
-- the place that a new arc gets: an unused one, else a fresh one
abbrev pub unused_place : {N E : Type 0} → State N E → Option ℕ
unused_place st = cond (can_pop st.positions st.unused) st.unused None

abbrev pub new_place : {N E : Type 0} → State N E → ℕ
new_place st = unwrap_or (unused_place st) st.fresh

abbrev pub taken_from : {N E : Type 0} → Bool → State N E → State N E
taken_from true st = with_unused st (after_pop st.positions st.unused) (start_after_pop st.positions st.unused) st.fresh
taken_from false st = with_unused st st.positions st.unused (st.fresh + 2)

abbrev pub place_taken : {N E : Type 0} → State N E → State N E
place_taken st = taken_from (can_pop st.positions st.unused) st

-- the place p, of an arc that goes, is unused
abbrev pub place_given : {N E : Type 0} → ℕ → State N E → State N E
place_given p st =
    with_unused st
    (cond (can_push st.positions st.unused p) (after_push st.positions st.unused p) st.positions)
    (cond (can_push st.positions st.unused p) (Some p) st.unused)
    st.fresh

-- ---- arcs
abbrev pub arc_at : {N E : Type 0} → ℕ → State N E → Option (ArcRecord N E)
arc_at k st = value_at k st.arcs

abbrev pub arc_put : {N E : Type 0} → ℕ → Ends NodeIndex → ArcRecord N E → State N E → State N E
arc_put k e r st = with_arcs st (inserted st.arc_places k e r st.arcs)

abbrev pub arc_gone : {N E : Type 0} → ℕ → State N E → State N E
arc_gone k st = with_arcs st (without k st.arcs)
