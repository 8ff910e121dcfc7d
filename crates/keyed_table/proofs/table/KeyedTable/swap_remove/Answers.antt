use Rattle.std.proofs.Common.{ap, ◌∙◌, arith}
use Rattle.keyed_table.specs.Chains.{value_in}
use Rattle.keyed_table.proofs.Calls.{chains, value_there, value_missing, within, out_filled, out_range, out_kept, out_listing}
use Rattle.keyed_table.proofs.table.KeyedTable.swap_remove.Goals as goal

pub returns-in_err-i-clause-answer : goal.returns-in_err-i-clause-answer
returns-in_err-i-clause-answer g c = c.from_residual.ensures ∙ value_missing c.args.self.now (g.K.Key.code c.args.key.now) c.in_err-i.ensures

pub take_out-requires : goal.take_out-requires
take_out-requires g c = let l = within c.args.self.now (g.K.Key.code c.args.key.now) c.in_ok-i.i c.in_ok-i.ensures in omega arith

pub invariant_of-self : goal.invariant_of-self
invariant_of-self g c =
    let t = c.args.self.now in
    let u = c.take_out.new.slots in
    let k = g.K.Key.code c.args.key.now in
    let i = c.in_ok-i.i in
    let old = c.in_ok-i.ensures in
    let r = out_range t u k i old in
    record { kept = out_kept t u k i old c.take_out.auto.slots (c.take_out.ensures.items (out_filled t u k i old) r) (c.take_out.ensures.linked (chains t) r) }

pub returns : goal.returns
returns g c =
    let t = c.args.self.now in
    let u = c.take_out.new.slots in
    let k = g.K.Key.code c.args.key.now in
    let i = c.in_ok-i.i in
    let old = c.in_ok-i.ensures in
    record {
      answer = c.value_in-value.ensures ∙ ap value_in c.at.ensures ∙ value_there t k i old;
      listing = out_listing t u k i old c.take_out.auto.slots (c.take_out.ensures.items (out_filled t u k i old) (out_range t u k i old));
      size = c.take_out.auto.slots;
    }
