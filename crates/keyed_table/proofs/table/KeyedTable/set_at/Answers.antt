use Rattle.std.proofs.Common.{sym, arith}
use Rattle.std.proofs.lemmas.Bool.{lt-ltb, le-ltb}
use Rattle.keyed_table.proofs.Calls.{chains, count, put_kept, put_at, past_at, same_size}
use Rattle.keyed_table.proofs.table.KeyedTable.set_at.Goals as goal

pub invariant_of-self : goal.invariant_of-self
invariant_of-self g c =
    let t = c.args.self.now in
    record { kept = put_kept t c.replace.new.slots c.args.i c.args.value c.replace.ensures.items (c.replace.ensures.linked (chains t)) }

pub returns-then-i-self : goal.returns-then-i-self
returns-then-i-self g c =
    let t = c.args.self.now in
    let l = count t in
    let e = c.if-i-self.true in
    record {
      answer = sym (lt-ltb c.args.i _ (omega arith));
      listing = put_at t c.replace.new.slots c.args.i c.args.value c.replace.ensures.items e;
      size = same_size t.slots.now c.replace.new.slots c.args.i _ c.replace.ensures.items;
    }

pub returns-else-i-self-clause-answer : goal.returns-else-i-self-clause-answer
returns-else-i-self-clause-answer g c = let l = count c.args.self.now in let e = c.if-i-self.false in sym (le-ltb c.args.i _ (omega arith))

pub returns-else-i-self-clause-listing : goal.returns-else-i-self-clause-listing
returns-else-i-self-clause-listing g c = past_at c.args.self.now c.args.i c.args.value c.if-i-self.false
