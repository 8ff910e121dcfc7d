use Rattle.std.proofs.Common.{◌∙◌}
use Rattle.keyed_table.proofs.Calls.{item_is}
use Rattle.keyed_table.proofs.table.KeyedTable.at.Goals as goal

pub returns : goal.returns
returns g c = c.item_at.ensures ∙ item_is c.args.self.now c.args.i
