use Rattle.std.proofs.Common.{length}
use Rattle.keyed_table.proofs.Calls.{kept_blank}
use Rattle.keyed_table.proofs.table.KeyedTable.clear.Goals as goal

pub invariant_of-self : goal.invariant_of-self
invariant_of-self g c = record { kept = kept_blank c.blank_all.new.slots (length c.args.self.now.slots.now) c.blank_all.ensures }
