-- The arcs that an open map answers for as an arc source: what all edges show.
use Rattle.std.specs.Prelude.{List, map}
use Rattle.map_model.specs.Model.{Model}
use Rattle.map_model.specs.Shown.{all_edges_shown}
use Rattle.network.specs.declared.arc.Arc.{Arc}

abbrev pub shown_arc : {N E : Type 0} → N × N × E → Arc N E
shown_arc t = record { source = t.0; target = t.1; weight = t.2 }

abbrev pub arcs_shown : {N E : Type 0} → Model N E → List (Arc N E)
arcs_shown m = map shown_arc (all_edges_shown m)
