use Rattle.std.proofs.Common.{get_or, set, Some, None, sym, ap, ◌∙◌, arith}
use Rattle.keyed_table.specs.Chains.{items}
use Rattle.keyed_table.proofs.Mending.{out_low, out_end, mid_range, end_range, end_free}
use Rattle.keyed_table.proofs.rows.take_out.Goals as goal

pub returns-in-Some : goal.returns-in-Some
returns-in-Some g c =
    let es = items c.args.slots.now in
    let ds = items c.unlink.new.slots in
    let fs = items c.unlink-in-Some.new.slots in
    let i = c.args.i in
    let m = c.args.last in
    let low = c.requires in
    record {
      linked = λ l r.
          let d = c.unlink.ensures.linked l (omega arith) in
          let f = c.unlink-in-Some.ensures.linked d (mid_range es ds ds i m c.if-i-last.true r c.unlink.ensures.items) in
          c.link.ensures.linked f
          (end_range es ds fs i m c.if-i-last.true r c.unlink.ensures.items c.unlink-in-Some.ensures.items)
          (end_free es ds fs i m c.if-i-last.true r c.unlink.ensures.items c.unlink-in-Some.ensures.items);
      items = λ filled r j. ap (λ z. get_or z j None) (c.link.ensures.items ∙ ap (λ z. set z i (Some c.in-Some.item)) (c.unlink-in-Some.ensures.items ∙ ap (λ z. set z m None) c.unlink.ensures.items))
          ∙ out_low es i m filled low r (Some c.in-Some.item) (sym c.in-Some.is ∙ c.item_at-moved.ensures) c.if-i-last.true j;
    }

pub returns-in_default-clause-linked : goal.returns-in_default-clause-linked
returns-in_default-clause-linked g c = λ l r. c.unlink.ensures.linked l (let low = c.requires in omega arith)

pub returns-else-i-last : goal.returns-else-i-last
returns-else-i-last g c =
    let es = items c.args.slots.now in
    let low = c.requires in
    record {
      linked = λ l r. c.unlink.ensures.linked l (omega arith);
      items = λ filled r j. ap (λ z. get_or z j None) c.unlink.ensures.items ∙ out_end es c.args.i c.args.last filled low r c.if-i-last.false j;
    }
