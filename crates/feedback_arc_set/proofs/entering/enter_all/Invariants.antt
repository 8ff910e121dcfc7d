use Rattle.std.proofs.Common.{◌≡◌, ◌*◌, ◌≤◌, length}
use Rattle.network.specs.Sources.{links}
use Rattle.fas_layout.specs.Laying.{Entered}
use Rattle.feedback_arc_set.specs.Containers.{AllBlank, OwnNames, met_of, slots_of}
use Rattle.feedback_arc_set.specs.Nodes.{neighbours_of, BlankFrom}
use Rattle.feedback_arc_set.proofs.entering.enter_all.Given as goal

abbrev pub invariant-loop-i : goal.invariant-loop-i
invariant-loop-i g l =
    Entered (links g.S.Node.NodeKey.index (g.S.ArcSource.arcs l.source)) (length l.yielded) (met_of l.nodes) (neighbours_of l.neighbours).nodes
    × (length (met_of l.nodes) ≤ l.most) × AllBlank l.nodes × OwnNames l.nodes
    × (slots_of l.nodes ≡ slots_of l.initial.nodes)
    × (BlankFrom l.initial.neighbours (2 * length (g.S.ArcSource.arcs l.source)) → BlankFrom l.neighbours (2 * length (g.S.ArcSource.arcs l.source)))
