use Rattle.std.proofs.Common.{ap, ◌∙◌}
use Rattle.keyed_table.specs.Chains.{value_in}
use Rattle.keyed_table.proofs.Calls.{value_there, value_missing}
use Rattle.keyed_table.proofs.table.KeyedTable.get.Goals as goal

pub returns-in_err-i : goal.returns-in_err-i
returns-in_err-i g c = c.from_residual.ensures ∙ value_missing c.args.self.now (g.K.Key.code c.args.key.now) c.in_err-i.ensures

pub returns : goal.returns
returns g c = c.value_in.ensures ∙ ap value_in c.at.ensures ∙ value_there c.args.self.now (g.K.Key.code c.args.key.now) c.in_ok-i.i c.in_ok-i.ensures
