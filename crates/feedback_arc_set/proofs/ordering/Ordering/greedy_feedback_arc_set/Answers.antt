use Rattle.std.proofs.Common.{◌≡◌, ◌+◌, ◌*◌, ◌≤◌, false, ◌||◌, ltb, length, sym, ◌∙◌, subst, arith}
use Rattle.std.proofs.lemmas.Bool.{not-true}
use Rattle.network.specs.Sources.{links}
use Rattle.keyed_table.specs.Tables.{listing}
use Rattle.feedback_arc_set.specs.Orders.{Placed, neighbour_places, class_places, order_places, order_in}
use Rattle.feedback_arc_set.proofs.Codes.{clean_known}
use Rattle.feedback_arc_set.proofs.Sourced.{links_long}
use Rattle.feedback_arc_set.proofs.Judging.{still_clean, still_fits, still_placed, clean_blank, judged}
use Rattle.feedback_arc_set.proofs.ordering.Ordering.greedy_feedback_arc_set.Goals as goal

pub order_source-touched-requires-clause-clean : goal.order_source-touched-requires-clause-clean
order_source-touched-requires-clause-clean g c = clean_known c.args.self.now.tables c.args.self.now.clean

pub invariant_of-self : goal.invariant_of-self
invariant_of-self g c =
    let net = links g.S.Node.NodeKey.index (g.S.ArcSource.arcs c.args.source.now) in
    let e = c.order_source-touched.ensures in
    let u = sym c.unwrap_or-self.ensures in
    record {
      fits = subst (λ t. t ≤ length (order_places c.order_source-touched.new.self)) u (still_fits net c.args.self.now.tables c.order_source-touched.new.self c.order_source-touched.result e.ordered);
      clean = ∣ still_clean c.args.self.now.tables c.order_source-touched.new.self e.neighbours e.classes (clean_known c.args.self.now.tables c.args.self.now.clean) ∣₁;
      placed = ∣ subst (λ t. Placed (listing c.order_source-touched.new.self.nodes.table) (order_in (order_places c.order_source-touched.new.self) t)) u (still_placed net c.args.self.now.tables c.order_source-touched.new.self c.order_source-touched.result e.ordered) ∣₁;
    }

pub returns-clause-leaves : goal.returns-clause-leaves
returns-clause-leaves g c =
    let net = links g.S.Node.NodeKey.index (g.S.ArcSource.arcs c.args.source.now) in
    let n : c.arc_count-arcs.result ≡ length (links g.S.Node.NodeKey.index (g.S.ArcSource.arcs c.args.source.now)) = c.arc_count-arcs.ensures ∙ sym (links_long g.S.Node.NodeKey.index (g.S.ArcSource.arcs c.args.source.now)) in
    let long = not-true (ltb (length (neighbour_places c.args.self.now.tables)) (2 * c.arc_count-arcs.result) || ltb (length (class_places c.args.self.now.tables)) (2 * c.arc_count-arcs.result + 1)) (sym c.if-not-fit.ensures) in
    let e = c.order_source-touched.ensures in
    let k = clean_known c.args.self.now.tables c.args.self.now.clean in
    let j = judged net c.args.self.now _ c.order_source-touched.result (let b = c.if-arcs-gt16384.false in omega arith)
    (subst (λ k. (ltb (length (neighbour_places c.args.self.now.tables)) (2 * k) || ltb (length (class_places c.args.self.now.tables)) (2 * k + 1)) ≡ false) n long)
    e.ordered c.unwrap_or-self.ensures e.slots (clean_blank c.args.self.now.tables c.order_source-touched.new.self e.neighbours e.classes k) in
    j.1
