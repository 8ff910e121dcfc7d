use Rattle.std.proofs.Common.{drop, rules, tests, arith, ◌∙◌}
use Rattle.std.proofs.lemmas.Iterator.Consumers.{count_from_yields_List, YieldsList-from_filter, YieldsList-from_first, YieldsList-at}
use Rattle.graphmap.specs.Maps.{map_model}
use Rattle.graphmap.specs.Sources.{arcs_shown}
use Rattle.most_held.specs.Bounds.{opposed}
use Rattle.network.proofs.Sources.{kept_counted}
use Rattle.most_held.proofs.opposite_count.Goals as goal

pub returns : goal.returns
returns g c =
    let m = map_model c.args.map.now.map.now in
    let test = opposed g.N.NodeKey.index m in
    count_from_yields_List c.filter.result _ c.count-opposites.ensures.ran (YieldsList-from_filter _ test (YieldsList-at c.filter.ensures.source (YieldsList-from_first (λ a. a) (λ s. drop s.positions.start (arcs_shown (map_model s.source.now.map.now))) (arcs_shown m) (grind arith))) c.filter.ensures.closure (λ x r q k. search (rules, tests)))
    ∙ kept_counted test (arcs_shown m)
