use Rattle.std.proofs.Common.{◌≡◌, ℕ, ◌<◌, false, length, get_or, None}
use Rattle.linked_list.specs.Places.{is_in, at}
use Rattle.fas_layout.specs.Classes.{Filed}
use Rattle.fas_layout.specs.Columns.{SameButPositions, class_at}
use Rattle.fas_layout.specs.Laying.{down}
use Rattle.feedback_arc_set.specs.Containers.{columns, nodes_of, SameNames}
use Rattle.feedback_arc_set.specs.Listed.{SameSizes, starts}
use Rattle.feedback_arc_set.proofs.laying.file_all.Given as goal

abbrev pub invariant-loop-i : goal.invariant-loop-i
invariant-loop-i l =
    (((z : ℕ) → is_in (at (columns l.initial.nodes).positions z) ≡ false) → ((k : ℕ) → get_or (starts l.initial.buckets) k None ≡ None)
    → ((z : ℕ) → z < length (nodes_of l.initial.nodes) → class_at l.initial.buckets.arcs (columns l.initial.nodes) z < length (starts l.initial.buckets))
    → Filed (columns l.nodes).positions (class_at l.initial.buckets.arcs (columns l.initial.nodes)) (starts l.buckets) (down l.i))
    × SameButPositions (columns l.nodes) (columns l.initial.nodes)
    × SameNames l.nodes l.initial.nodes
    × SameSizes l.buckets l.initial.buckets
