use Rattle.std.proofs.Common.{◌≡◌, ◌++◌, [], ◌∷◌, string_bytes}
use Rattle.std.specs.List.{flat_map}
use Rattle.graphmap.specs.Cursors.{all_edges_left}
use Rattle.edit_lines.specs.Maps.{arc_line}
use Rattle.edit_lines.proofs.map.write_all_edges.Given as goal

abbrev pub invariant-loop-edge : goal.invariant-loop-edge
invariant-loop-edge l = string_bytes l.out ++ flat_map (arc_line (97 ∷ 114 ∷ 99 ∷ [])) (all_edges_left l.edge-iterator) ≡ string_bytes l.initial.out ++ flat_map (arc_line (97 ∷ 114 ∷ 99 ∷ [])) (all_edges_left l.initial.edge-iterator)
