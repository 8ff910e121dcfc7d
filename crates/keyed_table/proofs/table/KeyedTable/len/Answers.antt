use Rattle.keyed_table.proofs.Calls.{count, different}
use Rattle.keyed_table.proofs.table.KeyedTable.len.Goals as goal

pub returns : goal.returns
returns g c = record { count = count c.args.self.now; differ = different c.args.self.now }
