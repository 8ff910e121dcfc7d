use Rattle.std.proofs.Common.{arith}
use Rattle.keyed_table.proofs.Calls.{count}
use Rattle.keyed_table.proofs.table.KeyedTable.free.Goals as goal

pub returns : goal.returns
returns g c =
    let l = count c.args.self.now in
    let r = c.room_of.ensures in
    omega arith
