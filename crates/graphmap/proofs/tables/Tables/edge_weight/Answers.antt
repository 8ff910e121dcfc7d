use Rattle.std.proofs.Common.{sym, ap, ◌∙◌, rules, tests}
use Rattle.std.specs.Option.{option_map}
use Rattle.graphmap.specs.States.{state}
use Rattle.graphmap.proofs.Reading.{mapped}
use Rattle.graphmap.proofs.Weights.{weight_in, weight_here}
use Rattle.graphmap.proofs.tables.Tables.edge_weight.Goals as goal

pub returns : goal.returns
returns g c = mapped weight_in c.get.result c.map.result c.map.ensures.cases (λ x y q. search (rules, tests)) ∙ ap (option_map weight_in) c.get.ensures ∙ sym (weight_here (state c.args.self.now) c.args.ends.source c.args.ends.target)
