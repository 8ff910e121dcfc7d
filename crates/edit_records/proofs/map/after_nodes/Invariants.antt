use Rattle.std.proofs.Common.{◌≡◌}
use Rattle.graphmap.specs.Cursors.{nodes_left}
use Rattle.graphmap.specs.Maps.{map_model}
use Rattle.edit_records.specs.Showing.{counted, after_node}
use Rattle.edit_records.proofs.map.after_nodes.Given as goal

abbrev pub invariant-loop-node : goal.invariant-loop-node
invariant-loop-node g l = counted (after_node (map_model l.map.map.now)) l.count (nodes_left l.node-iterator) (g.W.RecordWords.words l.rest) ≡ counted (after_node (map_model l.map.map.now)) l.initial.count (nodes_left l.initial.node-iterator) (g.W.RecordWords.words l.initial.rest)
