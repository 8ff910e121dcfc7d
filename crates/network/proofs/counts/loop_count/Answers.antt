use Rattle.std.proofs.Common.{drop, rules, tests, arith, ◌∙◌}
use Rattle.std.proofs.lemmas.Iterator.Consumers.{count_from_yields_List, YieldsList-from_filter, YieldsList-from_first, YieldsList-at}
use Rattle.network.specs.Network.{loop}
use Rattle.network.proofs.Sources.{loops_kept}
use Rattle.network.proofs.counts.loop_count.Goals as goal

pub returns : goal.returns
returns g c =
    let index = g.S.Node.NodeKey.index in
    let arcs = g.S.ArcSource.arcs c.args.source.now in
    count_from_yields_List c.filter.result _ c.count-loops.ensures.ran (YieldsList-from_filter _ (λ a. loop (index a.source, index a.target)) (YieldsList-at c.filter.ensures.source (YieldsList-from_first (λ a. a) (λ s. drop s.positions.start (g.S.ArcSource.arcs s.source.now)) arcs (grind arith))) c.filter.ensures.closure (λ x r q k. search (rules, tests)))
    ∙ loops_kept index arcs
