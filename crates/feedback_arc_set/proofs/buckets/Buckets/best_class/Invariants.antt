use Rattle.std.proofs.Common.{◌≡◌, ℕ, ◌<◌, ◌≤◌, get_or, None}
use Rattle.feedback_arc_set.specs.Listed.{starts}
use Rattle.feedback_arc_set.proofs.buckets.Buckets.best_class.Given as goal

abbrev pub invariant-loop-class : goal.invariant-loop-class
invariant-loop-class l = (k : ℕ) → l.class < k → k ≤ l.self.top → get_or (starts l.self) k None ≡ None

abbrev pub decreases-loop-class : goal.decreases-loop-class
decreases-loop-class l = l.class
