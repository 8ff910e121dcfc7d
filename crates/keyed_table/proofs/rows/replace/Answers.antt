use Rattle.std.proofs.Common.{set, ap, ◌∙◌}
use Rattle.keyed_table.specs.Chains.{items, revalued}
use Rattle.keyed_table.proofs.Mending.{revalue}
use Rattle.keyed_table.proofs.rows.replace.Goals as goal

pub returns-clause-linked : goal.returns-clause-linked
returns-clause-linked g c =
    let es = items c.args.slots.now in
    λ l.
    revalue c.args.slots.now c.set_item.new.slots c.args.i c.args.value l
    (c.set_item.ensures.items ∙ ap (set es c.args.i) (c.with_value.ensures ∙ ap (revalued c.args.value) c.item_at-old.ensures)) c.set_item.ensures.heads c.set_item.ensures.nexts
