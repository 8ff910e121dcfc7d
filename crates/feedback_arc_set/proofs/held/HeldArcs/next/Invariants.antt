use Rattle.std.proofs.Common.{◌≡◌, ◌≤◌, max, length}
use Rattle.feedback_arc_set.specs.Cursors.{first_held}
use Rattle.feedback_arc_set.specs.Verdicts.{order_of}
use Rattle.feedback_arc_set.proofs.held.HeldArcs.next.Given as goal

abbrev pub invariant-loop-position : goal.invariant-loop-position
invariant-loop-position g l =
    (l.self.ordering ≡ l.initial.self.ordering)
    × (l.self.position ≡ l.position)
    × (l.initial.self.position ≤ l.position)
    × (l.position ≤ max l.initial.self.position (length (g.S.ArcSource.arcs l.source)))
    × (first_held g.S.Node.NodeKey.index (order_of l.initial.self.ordering.now) l.initial.self.position (g.S.ArcSource.arcs l.source)
    ≡ first_held g.S.Node.NodeKey.index (order_of l.initial.self.ordering.now) l.position (g.S.ArcSource.arcs l.source))
