use Rattle.std.proofs.Common.{◌≡◌, List, [], ◌++◌, ℕ, codes, ap, ◌∙◌, append_assoc, arith}
use Rattle.decimal.specs.Digits.{digits}
use Rattle.decimal.proofs.Writing.{same_as_decimal}
use Rattle.fault.specs.Faults.{refusal_text}
use Rattle.fault.proofs.Fault.text.Goals as goal

-- four pieces, each pushed after those before it
four_pushed : (a b c d e w x y z : List ℕ) → a ≡ [] → b ≡ a ++ w → c ≡ b ++ x → d ≡ c ++ y → e ≡ d ++ z → e ≡ w ++ (x ++ (y ++ z))
four_pushed a b c d e w x y z ea eb ec ed ee =
    let pushed : e ≡ ((w ++ x) ++ y) ++ z = cc in
    pushed ∙ simp append_assoc

pub returns-clause-text : goal.returns-clause-text
unfolding refusal_text
returns-clause-text c =
    let number = c.format.ensures.text ∙ (same_as_decimal c.number.result (omega arith) ∙ ap digits c.number.ensures) in
    let place = c.format-2.ensures.text ∙ (same_as_decimal c.place.result (omega arith) ∙ ap digits c.place.ensures) in
    four_pushed _ _ _ _ _ (codes "refused ") _ (codes " at ") _ c.new-text.ensures c.push_str.ensures.bytes
    (rw number at c.push_str-2.ensures.bytes) c.push_str-3.ensures.bytes (rw place at c.push_str-4.ensures.bytes)
