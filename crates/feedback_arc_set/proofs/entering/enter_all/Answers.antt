use Rattle.std.proofs.Common.{◌*◌, [], length, get_or, take, drop, sym, refl, ap, ◌∙◌, subst, arith}
use Rattle.std.proofs.lemmas.List.{length_push}
use Rattle.std.proofs.lemmas.List.FromFn.{length-enumerate_from}
use Rattle.std.proofs.lemmas.Iterator.Consumers.{YieldsList-from_enumerate, YieldsList-from_first, YieldsList-turn, YieldsList-end}
use Rattle.network.specs.Network.{meet_all}
use Rattle.network.specs.Sources.{links}
use Rattle.fas_layout.specs.Laying.{Entered}
use Rattle.feedback_arc_set.specs.Containers.{met_of}
use Rattle.feedback_arc_set.specs.Nodes.{neighbours_of}
use Rattle.feedback_arc_set.proofs.Sourced.{arc_counted, links_long}
use Rattle.feedback_arc_set.proofs.entering.enter_all.Goals as goal

pub returns-in_err-enter_arc-clause-entered : goal.returns-in_err-enter_arc-clause-entered
returns-in_err-enter_arc-clause-entered g c =
    let index = g.S.Node.NodeKey.index in
    let arcs = g.S.ArcSource.arcs c.args.source.now in
    let inv = c.loop-i.invariant in
    let p = c.in_err-enter_arc.ensures in
    let t = arc_counted g.S.Node.NodeKey.index (g.S.ArcSource.arcs c.args.source.now) (length c.loop-i.yielded) c.in-Some.i c.in-Some.arc (YieldsList-turn (YieldsList-from_enumerate (YieldsList-from_first (λ a. a) (λ s. drop s.positions.start (g.S.ArcSource.arcs s.source.now)) (g.S.ArcSource.arcs c.args.source.now) (grind arith)) (cc)) c.loop-i.yielded c.loop-i.i-iterator c.loop-i.yielded_by c.next.result c.next.new.self (c.in-Some.i, c.in-Some.arc) c.in-Some.is c.next.ensures.steps) in
    let ends = ap (λ v. get_or (links g.S.Node.NodeKey.index (g.S.ArcSource.arcs c.args.source.now)) v (0, 0)) t.0 ∙ t.2 ∙ sym (λ j. (c.node_index.ensures j, c.node_index-in-loop-i.ensures j)) in
    let i = t.0 in
    let l = t.1 in
    let n = links_long index arcs in
    rw c.from_residual.ensures (p.refused refl (links index arcs) (omega arith) ends (inv.0.nodes_met ∙ ap (λ v. meet_all (take v (links g.S.Node.NodeKey.index (g.S.ArcSource.arcs c.args.source.now))) []) (sym t.0)))

pub returns-in_err-enter_arc-clause-blank : goal.returns-in_err-enter_arc-clause-blank
returns-in_err-enter_arc-clause-blank g c =
    let inv = c.loop-i.invariant in
    let p = c.in_err-enter_arc.ensures in
    let t = arc_counted g.S.Node.NodeKey.index (g.S.ArcSource.arcs c.args.source.now) (length c.loop-i.yielded) c.in-Some.i c.in-Some.arc (YieldsList-turn (YieldsList-from_enumerate (YieldsList-from_first (λ a. a) (λ s. drop s.positions.start (g.S.ArcSource.arcs s.source.now)) (g.S.ArcSource.arcs c.args.source.now) (grind arith)) (cc)) c.loop-i.yielded c.loop-i.i-iterator c.loop-i.yielded_by c.next.result c.next.new.self (c.in-Some.i, c.in-Some.arc) c.in-Some.is c.next.ensures.steps) in
    let i = t.0 in
    let l = t.1 in
    λ h. p.blank (2 * length (g.S.ArcSource.arcs c.args.source.now)) (omega arith) (inv.5 h)

pub loop-i-preserved : goal.loop-i-preserved
loop-i-preserved g c =
    let index = g.S.Node.NodeKey.index in
    let arcs = g.S.ArcSource.arcs c.args.source.now in
    let inv = c.loop-i.invariant in
    let p = c.in_ok-enter_arc.ensures in
    let t = arc_counted g.S.Node.NodeKey.index (g.S.ArcSource.arcs c.args.source.now) (length c.loop-i.yielded) c.in-Some.i c.in-Some.arc (YieldsList-turn (YieldsList-from_enumerate (YieldsList-from_first (λ a. a) (λ s. drop s.positions.start (g.S.ArcSource.arcs s.source.now)) (g.S.ArcSource.arcs c.args.source.now) (grind arith)) (cc)) c.loop-i.yielded c.loop-i.i-iterator c.loop-i.yielded_by c.next.result c.next.new.self (c.in-Some.i, c.in-Some.arc) c.in-Some.is c.next.ensures.steps) in
    let i = t.0 in
    let l = t.1 in
    let n = links_long index arcs in
    let more = length_push c.loop-i.yielded (c.in-Some.i, c.in-Some.arc) in
    let ends = ap (λ v. get_or (links g.S.Node.NodeKey.index (g.S.ArcSource.arcs c.args.source.now)) v (0, 0)) t.0 ∙ t.2 ∙ sym (λ j. (c.node_index.ensures j, c.node_index-in-loop-i.ensures j)) in
    let here = subst (λ v. Entered (links g.S.Node.NodeKey.index (g.S.ArcSource.arcs c.args.source.now)) v (met_of c.loop-i.nodes) (neighbours_of c.loop-i.neighbours).nodes) (sym t.0) inv.0 in (
      subst (λ v. Entered (links g.S.Node.NodeKey.index (g.S.ArcSource.arcs c.args.source.now)) v (met_of c.enter_arc.new.nodes) (neighbours_of c.enter_arc.new.neighbours).nodes) (omega arith) (p.entered (links index arcs) (omega arith) ends here),
      p.few inv.1,
      p.kept.0 inv.2,
      p.kept.1 inv.3,
      p.slots ∙ inv.4,
      λ h. p.blank (2 * length (g.S.ArcSource.arcs c.args.source.now)) (omega arith) (inv.5 h),
    )

pub returns-clause-entered : goal.returns-clause-entered
returns-clause-entered g c =
    let arcs = g.S.ArcSource.arcs c.args.source.now in
    let inv = c.loop-i.invariant in
    let n = links_long g.S.Node.NodeKey.index arcs in
    let e = (YieldsList-end (YieldsList-from_enumerate (YieldsList-from_first (λ a. a) (λ s. drop s.positions.start (g.S.ArcSource.arcs s.source.now)) (g.S.ArcSource.arcs c.args.source.now) (grind arith)) (cc)) c.loop-i.yielded c.loop-i.i-iterator c.loop-i.yielded_by c.next.result c.next.new.self c.in-None.is c.next.ensures.steps).1 in
    let k = length-enumerate_from 0 arcs in
    record {
      entered = subst (λ v. Entered (links g.S.Node.NodeKey.index (g.S.ArcSource.arcs c.args.source.now)) v (met_of c.loop-i.nodes) (neighbours_of c.loop-i.neighbours).nodes) (omega arith) inv.0;
      few = inv.1;
      blank = inv.2;
      own = inv.3;
    }
