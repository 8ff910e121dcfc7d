use Rattle.std.proofs.Common.{drop, sym, ap, ◌∙◌, rules, tests, arith}
use Rattle.std.proofs.lemmas.Iterator.Adapters.{position_from-zero}
use Rattle.std.proofs.lemmas.Iterator.Consumers.{YieldsList-from_first}
use Rattle.std.proofs.lemmas.Iterator.Search.{position_from_yields_List}
use Rattle.feedback_arc_set.specs.Cursors.{unplaced}
use Rattle.feedback_arc_set.specs.Verdicts.{order_of}
use Rattle.feedback_arc_set.proofs.Seeking.{opened_at, opened_by}
use Rattle.feedback_arc_set.proofs.ordering.Ordering.held.Goals as goal

pub returns-in-Some : goal.returns-in-Some
returns-in-Some g c =
    let arcs = g.S.ArcSource.arcs c.args.source.now in
    let test = unplaced g.S.Node.NodeKey.index (order_of c.args.self.now) in
    let found = position_from_yields_List test c.position.new.self _ c.position.result c.position.ensures.ran (YieldsList-from_first (λ a. a) (λ s. drop s.positions.start (g.S.ArcSource.arcs s.source.now)) arcs (grind arith)) (λ x r q k. search (rules, tests)) ∙ position_from-zero test arcs in
    ap (opened_by c.args.self) (sym c.in-Some.is ∙ found) ∙ opened_at c.args.self test 0 arcs

pub returns-in-None : goal.returns-in-None
returns-in-None g c =
    let arcs = g.S.ArcSource.arcs c.args.source.now in
    let test = unplaced g.S.Node.NodeKey.index (order_of c.args.self.now) in
    let found = position_from_yields_List test c.position.new.self _ c.position.result c.position.ensures.ran (YieldsList-from_first (λ a. a) (λ s. drop s.positions.start (g.S.ArcSource.arcs s.source.now)) arcs (grind arith)) (λ x r q k. search (rules, tests)) ∙ position_from-zero test arcs in
    ap (opened_by c.args.self) (sym c.in-None.is ∙ found) ∙ opened_at c.args.self test 0 arcs
