-- The digits of a number of 32 bits are its only numeral.
use Rattle.std.proofs.Common.{ℕ, ◌^◌, ◌<◌, ◌≤◌, length, decimal, sym, ap, ◌∙◌, subst, inl, inr, arith, rules}
use Rattle.std.specs.List.{AllByRecursion}
use Rattle.std.proofs.lemmas.Fmt.{decimal_digit, digits_decimal, digits_value-decimal, decimal_nonempty, first_decimal, decimal-digits_value}
use Rattle.std.proofs.lemmas.Str.Parse.{IsNumeralModel, numerals_by_fold}
use Rattle.std.proofs.lemmas.Bool.{cases_eq}
use Rattle.decimal.proofs.Writing.{same_as_decimal}
use Rattle.decimal.specs.Digits.{number_after, Numeral, OnlyNumeral}

own : IsNumeralModel (AllByRecursion (λ b. (48 ≤ b) × (b ≤ 57))) (number_after 0)
own = numerals_by_fold _ (search rules) number_after (search rules)

decimal_numeral : (n : ℕ) → n < 2 ^ 32 → Numeral n (decimal n)
decimal_numeral n h =
    record {
      each_a_digit = digits_decimal own n (omega arith);
      some_digit = decimal_nonempty n (omega arith);
      no_zero_in_front = λ front.
          elim (cases_eq n 0) [
            | inl z ↦ rw z (ap length (decimal_digit 0 (omega arith)))
            | inr p ↦ absurd (omega (arith, first_decimal n (omega arith) (omega arith)))
          ];
      value = digits_value-decimal own n (omega arith);
    }

pub only_numeral : (n : ℕ) → n < 2 ^ 32 → OnlyNumeral n
only_numeral n h =
    record {
      is_numeral = subst (Numeral n) (same_as_decimal n (omega arith)) (decimal_numeral n h);
      is_only = λ bytes numeral.
          let small : number_after 0 bytes < 2 ^ 64 = omega (arith, numeral.value) in
          let back = decimal-digits_value own bytes numeral.each_a_digit numeral.some_digit numeral.no_zero_in_front small in
          sym back ∙ (ap decimal numeral.value ∙ same_as_decimal n (omega arith));
    }
