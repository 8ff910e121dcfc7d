use Rattle.std.proofs.Common.{refl, ap, ◌∙◌, arith}
use Rattle.keyed_table.specs.Listing.{found}
use Rattle.keyed_table.specs.Tables.{listing}
use Rattle.keyed_table.proofs.Calls.{chains, has_room, put_kept, put_inserted, add_linked, add_kept, add_inserted, full, same_size}
use Rattle.keyed_table.proofs.table.KeyedTable.insert.Goals as goal

pub invariant_of-self : goal.invariant_of-self
invariant_of-self g c =
    let t = c.args.self.now in
    record { kept = put_kept t c.replace.new.slots c.in-Some.i c.args.value c.replace.ensures.items (c.replace.ensures.linked (chains t)) }

pub returns-in-Some : goal.returns-in-Some
returns-in-Some g c =
    let t = c.args.self.now in
    let u = c.replace.new.slots in
    let old = c.in-Some.ensures ∙ ap (λ k. found k (listing t)) c.number-number.ensures in
    let p = put_inserted t u c.in-Some.i c.args.value c.replace.ensures.items (g.K.Key.code c.args.key) c.args.key c.replace.result old c.replace.ensures.answer in
    record { answer = p.0; listing = p.1; size = same_size t.slots.now u c.in-Some.i _ c.replace.ensures.items }

pub returns-then-free-eq0 : goal.returns-then-free-eq0
returns-then-free-eq0 g c =
    let t = c.args.self.now in
    let new = c.in_default.ensures ∙ ap (λ k. found k (listing t)) c.number-number.ensures in
    let p = full t (g.K.Key.code c.args.key) c.args.key c.args.value new c.free.result c.free.ensures c.if-free-eq0.true in
    record { answer = p.0; listing = p.1; size = refl }

pub overflow_add-self : goal.overflow_add-self
overflow_add-self g c = let m = has_room c.args.self.now c.free.result c.free.ensures c.if-free-eq0.false in omega arith

pub invariant_of-self-2 : goal.invariant_of-self-2
invariant_of-self-2 g c =
    let t = c.args.self.now in
    let u = c.link.new.slots in
    let k = g.K.Key.code c.args.key in
    let is_k = c.number-number.ensures in
    let new = c.in_default.ensures ∙ ap (λ k. found k (listing t)) is_k in
    let m = has_room t c.free.result c.free.ensures c.if-free-eq0.false in
    record { kept = add_kept t u _ k is_k m c.link.ensures.items new (add_linked t u _ k is_k m c.link.ensures.items new c.link.ensures.linked) }

pub returns : goal.returns
returns g c =
    let t = c.args.self.now in
    let u = c.link.new.slots in
    let new = c.in_default.ensures ∙ ap (λ k. found k (listing t)) c.number-number.ensures in
    let m = has_room t c.free.result c.free.ensures c.if-free-eq0.false in
    let p = add_inserted t u _ (g.K.Key.code c.args.key) c.number-number.ensures m c.link.ensures.items new c.args.key c.args.value refl refl in
    record { answer = p.0; listing = p.1; size = same_size t.slots.now u t.len _ c.link.ensures.items }
