use Rattle.std.proofs.Common.{ℕ, List, eqb, sym, ap, ◌∙◌}
use Rattle.std.specs.Int.{from_le_bytes, w32}
use Rattle.std.specs.List.{list_any}
use Rattle.std.proofs.lemmas.Bool.{eq-eqb}
use Rattle.std.proofs.lemmas.List.{take_all}
use Rattle.std.proofs.lemmas.List.Folds.{list_any_at}
use Rattle.network_file.proofs.Walks.{searched}
use Rattle.network_file.proofs.fields.has_field.Goals as goal

pub returns-then-from_le_bytes-number : goal.returns-then-from_le_bytes-number
returns-then-from_le_bytes-number c =
    let is = λ (y : List ℕ). eqb (from_le_bytes w32 y) c.args.number in
    let found = list_any_at is c.as_chunks.result.0.now c.loop-field.field-index _ c.loop-field-test.true (eq-eqb _ _ (sym c.from_le_bytes.ensures ∙ c.if-from_le_bytes-number.true)) in
    sym found ∙ searched c.args.bytes.now _ _ (λ i. (c.type_inv.bytes i).fits) c.as_chunks.ensures.front

pub returns : goal.returns
returns c =
    let is = λ (y : List ℕ). eqb (from_le_bytes w32 y) c.args.number in
    let all = take_all c.loop-field.field-index c.as_chunks.result.0.now c.loop-field-test.false in
    sym c.loop-field.invariant ∙ (ap (list_any is) all ∙ searched c.args.bytes.now _ _ (λ i. (c.type_inv.bytes i).fits) c.as_chunks.ensures.front)
