use Rattle.std.proofs.Common.{◌≡◌, ◌-◌, ◌*◌, length}
use Rattle.fas_layout.specs.Laying.{Laid, links_from}
use Rattle.feedback_arc_set.specs.Containers.{columns, nodes_of, SameNames}
use Rattle.feedback_arc_set.specs.Nodes.{neighbours_of, BlankFrom}
use Rattle.feedback_arc_set.proofs.laying.lay_all.Given as goal

abbrev pub invariant-loop-i : goal.invariant-loop-i
invariant-loop-i l =
    Laid (neighbours_of l.neighbours) (columns l.nodes) (length (nodes_of l.initial.nodes)) (2 * l.i) (links_from (neighbours_of l.neighbours).nodes l.i (l.arcs - l.i))
    × ((neighbours_of l.neighbours).nodes ≡ (neighbours_of l.initial.neighbours).nodes)
    × ((columns l.nodes).positions ≡ (columns l.initial.nodes).positions)
    × SameNames l.nodes l.initial.nodes
    × (BlankFrom l.initial.neighbours (2 * l.arcs) → BlankFrom l.neighbours (2 * l.arcs))
