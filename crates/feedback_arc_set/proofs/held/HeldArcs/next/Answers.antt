use Rattle.std.proofs.Common.{length, sym, refl, ap, ◌∙◌, arith}
use Rattle.feedback_arc_set.specs.Cursors.{position_after, shown, shows}
use Rattle.feedback_arc_set.specs.Verdicts.{order_of}
use Rattle.feedback_arc_set.proofs.Seeking.{first_here, first_later}
use Rattle.feedback_arc_set.proofs.held.HeldArcs.next.Goals as goal

pub returns-then-holds-clause-shows : goal.returns-then-holds-clause-shows
returns-then-holds-clause-shows g c =
    let index = g.S.Node.NodeKey.index in
    let order = order_of c.args.self.now.ordering.now in
    let arcs = g.S.ArcSource.arcs c.args.source.now in
    let told = sym (c.holds.ensures ∙ ap (λ o. shows g.S.Node.NodeKey.index (order_of o.now) c.in_ok-arc.arc) c.loop-position.invariant.0) ∙ c.if-holds.true in
    let here = c.loop-position.invariant.4 ∙ first_here (shows index order) arcs c.loop-position.position c.in_ok-arc.arc (sym c.in_ok-arc.was ∙ c.arc_at.ensures) told in
    ap shown (sym here)

pub returns-then-holds-clause-stands : goal.returns-then-holds-clause-stands
returns-then-holds-clause-stands g c =
    let index = g.S.Node.NodeKey.index in
    let order = order_of c.args.self.now.ordering.now in
    let arcs = g.S.ArcSource.arcs c.args.source.now in
    let told = sym (c.holds.ensures ∙ ap (λ o. shows g.S.Node.NodeKey.index (order_of o.now) c.in_ok-arc.arc) c.loop-position.invariant.0) ∙ c.if-holds.true in
    let here = c.loop-position.invariant.4 ∙ first_here (shows index order) arcs c.loop-position.position c.in_ok-arc.arc (sym c.in_ok-arc.was ∙ c.arc_at.ensures) told in
    ap (λ o. position_after o c.args.self.now.position (length arcs)) (sym here)

pub loop-position-preserved : goal.loop-position-preserved
loop-position-preserved g c =
    let index = g.S.Node.NodeKey.index in
    let order = order_of c.args.self.now.ordering.now in
    let arcs = g.S.ArcSource.arcs c.args.source.now in
    let count = c.arc_count-position-end.ensures in
    let low = c.loop-position.invariant.2 in
    let more = c.loop-position-test.true in
    let told = sym (c.holds.ensures ∙ ap (λ o. shows g.S.Node.NodeKey.index (order_of o.now) c.in_ok-arc.arc) c.loop-position.invariant.0) ∙ c.if-holds.false in (
      c.loop-position.invariant.0,
      refl,
      omega arith,
      omega arith,
      c.loop-position.invariant.4 ∙ first_later (shows index order) arcs c.loop-position.position c.in_ok-arc.arc (sym c.in_ok-arc.was ∙ c.arc_at.ensures) told,
    )
