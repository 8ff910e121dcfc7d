use Rattle.std.proofs.Common.{suc, length, set, ap, ◌∙◌, arith}
use Rattle.std.proofs.lemmas.List.{length-map}
use Rattle.keyed_table.specs.Chains.{items, height, heads_to, nexts_to}
use Rattle.keyed_table.proofs.Mending.{bucket_in, link_in, bucket_lt}
use Rattle.keyed_table.proofs.chains.link.Goals as goal

pub returns-clause-linked : goal.returns-clause-linked
returns-clause-linked g c =
    let s = c.args.slots.now in
    let n = length-map s (λ s. s.item) in
    let b = c.bucket_of-b.result in
    let q = height c.gap_at-gap.result.over in
    let x = height c.gap_at-gap.result.at in
    let i = c.args.i in
    let bk = bucket_in s c.args.item.number b c.bucket_of-b.ensures in
    λ l r free.
    let lt = bucket_lt (length (items s)) c.args.item.number (omega arith) in
    link_in s c.lead.new.slots i b q x l r c.args.item bk free (c.gap_at-gap.ensures l (omega arith) r) (c.lead.ensures.items ∙ c.set_next.ensures.items ∙ c.set_item.ensures.items)
    (c.lead.ensures.heads ∙ ap (heads_to b q (suc i)) (c.set_next.ensures.heads ∙ c.set_item.ensures.heads))
    (c.lead.ensures.nexts ∙ ap (nexts_to q (suc i)) (c.set_next.ensures.nexts ∙ ap (λ z. set z i x) c.set_item.ensures.nexts))
