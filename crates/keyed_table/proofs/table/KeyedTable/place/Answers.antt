use Rattle.keyed_table.proofs.Calls.{chains, found_by}
use Rattle.keyed_table.proofs.table.KeyedTable.place.Goals as goal

pub returns : goal.returns
returns g c = let t = c.args.self.now in found_by t c.args.number c.find.result (c.find.ensures (chains t))
