use Rattle.std.proofs.Common.{length, sym, ap, arith, rules}
use Rattle.std.proofs.lemmas.Option.{slice_get_within}
use Rattle.keyed_table.specs.Tables.{listing}
use Rattle.keyed_table.proofs.Calls.{count, left_none, left_some}
use Rattle.keyed_table.proofs.table.items.ItemsIterator.next.Goals as goal

pub returns-in_err-item-clause-steps : goal.returns-in_err-item-clause-steps
returns-in_err-item-clause-steps g c =
    let s = c.args.self.now in
    let none = left_none (listing s.table.now) s.position c.in_err-item.ensures in
    rw c.from_residual.ensures (none, none)

pub overflow_add-self : goal.overflow_add-self
overflow_add-self g c =
    let s = c.args.self.now in
    let t = s.table.now in
    let n = count t in
    let h = slice_get_within (listing t) s.position c.in_ok-item.item (sym c.in_ok-item.ensures) in
    let k = t.kept.0 in
    omega arith

pub returns-clause-steps : goal.returns-clause-steps
returns-clause-steps g c = let s = c.args.self.now in left_some (listing s.table.now) s.position c.in_ok-item.item c.in_ok-item.ensures

pub returns-clause-goes : goal.returns-clause-goes
returns-clause-goes g c =
    let s = c.args.self.now in
    let shorter = ap length (left_some (listing s.table.now) s.position c.in_ok-item.item c.in_ok-item.ensures) in
    search rules
