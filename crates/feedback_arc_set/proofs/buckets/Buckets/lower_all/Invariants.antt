use Rattle.std.proofs.Common.{length}
use Rattle.fas_layout.specs.Following.{places_left}
use Rattle.fas_layout.proofs.Followed.{Walked}
use Rattle.feedback_arc_set.specs.Containers.{columns, SameNames}
use Rattle.feedback_arc_set.specs.Listed.{starts, SameSizes}
use Rattle.feedback_arc_set.specs.Nodes.{neighbours_of}
use Rattle.feedback_arc_set.proofs.buckets.Buckets.lower_all.Given as goal

abbrev pub invariant-loop-at : goal.invariant-loop-at
invariant-loop-at l =
    Walked l.direction l.initial.self.arcs (neighbours_of l.neighbours) (columns l.initial.nodes) (starts l.initial.self) (columns l.nodes) (starts l.self) l.initial.at l.at
    × SameNames l.nodes l.initial.nodes × SameSizes l.self l.initial.self

abbrev pub decreases-loop-at : goal.decreases-loop-at
decreases-loop-at l = places_left (length (neighbours_of l.neighbours).nodes) l.at
