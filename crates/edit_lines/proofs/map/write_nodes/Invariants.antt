use Rattle.std.proofs.Common.{◌≡◌, ◌++◌, string_bytes}
use Rattle.std.specs.List.{flat_map}
use Rattle.graphmap.specs.Cursors.{nodes_left}
use Rattle.graphmap.specs.Maps.{map_model}
use Rattle.edit_lines.specs.Maps.{node_text}
use Rattle.edit_lines.proofs.map.write_nodes.Given as goal

abbrev pub invariant-loop-node : goal.invariant-loop-node
invariant-loop-node l = string_bytes l.out ++ flat_map (node_text (map_model l.map.map.now)) (nodes_left l.node-iterator) ≡ string_bytes l.initial.out ++ flat_map (node_text (map_model l.map.map.now)) (nodes_left l.initial.node-iterator)
