-- What the tables of a map hold.
use Rattle.std.specs.Prelude.{ℕ}
use Rattle.keyed_table.specs.Tables.{listing, room}
use Rattle.map_layout.specs.Layout.{State}
use Rattle.map_layout.specs.Edits.{empty}
use Rattle.graphmap.specs.declared.tables.Tables.{Tables}
use Rattle.graphmap.specs.Places.{blank_places, neighbors, positions_of}

abbrev pub state : {N E : Type 0} → Tables N E → State N E
state t = record {
  nodes = listing t.nodes;
  arcs = listing t.arcs;
  neighbors = neighbors t.links.slots.now;
  positions = positions_of t.links.slots.now;
  unused = t.unused.start;
  fresh = t.fresh;
  node_places = room t.nodes;
  arc_places = room t.arcs;
}

-- no node and no arc, with n node places, m arc places and k link places
abbrev pub emptied : (N E : Type 0) → ℕ → ℕ → ℕ → State N E
emptied N E n m k = empty (neighbors {N = N} (blank_places k)) (positions_of {N = N} (blank_places k)) n m
