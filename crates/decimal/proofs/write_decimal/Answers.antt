use Rattle.std.proofs.Common.{◌≡◌, ◌∙◌, arith}
use Rattle.std.proofs.lemmas.Bool.Decides.{nat_tests}
use Rattle.std.proofs.lemmas.Grind.{common_steps}
use Rattle.decimal.specs.Digits.{digits}
use Rattle.decimal.proofs.Writing.{same_as_decimal}
use Rattle.decimal.proofs.write_decimal.Goals as goal

pub returns-clause-output : goal.returns-clause-output
returns-clause-output c =
    let wrote : c.copy_from_slice.new.self ≡ digits c.args.n = c.copy_from_slice.ensures.after ∙ (c.as_bytes-digits.ensures.value ∙ (c.format.ensures.text ∙ same_as_decimal c.args.n (omega arith))) in
    grind (arith, common_steps, nat_tests)
