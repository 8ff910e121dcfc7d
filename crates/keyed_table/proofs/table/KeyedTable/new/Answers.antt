use Rattle.std.proofs.Common.{length}
use Rattle.keyed_table.proofs.Calls.{kept_blank}
use Rattle.keyed_table.proofs.table.KeyedTable.new.Goals as goal

pub invariant_of-result : goal.invariant_of-result
invariant_of-result g c = record { kept = kept_blank c.blank_all.new.slots (length c.args.slots.now) c.blank_all.ensures }
