use Rattle.std.proofs.Common.{◌≡◌}
use Rattle.graphmap.specs.Cursors.{edges_left}
use Rattle.graphmap.specs.Maps.{map_model}
use Rattle.edit_records.specs.Showing.{counted, after_edge, after_edges}
use Rattle.edit_records.proofs.map.after_edges.Given as goal

abbrev pub invariant-loop-edge : goal.invariant-loop-edge
invariant-loop-edge g l = counted after_edge l.count (edges_left l.edge-iterator) (g.W.RecordWords.words l.rest) ≡ after_edges (map_model l.fn.map.map.now) l.fn.node l.fn.direction (g.W.RecordWords.words l.fn.words)
