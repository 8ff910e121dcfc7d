use Rattle.std.proofs.Common.{◌≡◌}
use Rattle.graphmap.specs.Cursors.{all_edges_left}
use Rattle.edit_records.specs.Showing.{counted, after_edge}
use Rattle.edit_records.proofs.map.after_arcs.Given as goal

abbrev pub invariant-loop-edge : goal.invariant-loop-edge
invariant-loop-edge g l = counted after_edge l.count (all_edges_left l.edge-iterator) (g.W.RecordWords.words l.rest) ≡ counted after_edge l.initial.count (all_edges_left l.initial.edge-iterator) (g.W.RecordWords.words l.initial.rest)
