-- The digits of a number are what the library writes, and how many they are.
use Rattle.std.proofs.Common.{◌≡◌, ℕ, ◌+◌, ◌/◌, ◌^◌, ◌<◌, ◌≤◌, false, eqb, length, decimal, inl, inr, arith}
use Rattle.std.specs.Int.Digits.{digits_of}
use Rattle.std.proofs.lemmas.Fmt.{decimal_digit, decimal-digits_of}
use Rattle.std.proofs.lemmas.Int.Digits.{length-digits_of_step, length-digits_of-le}
use Rattle.std.proofs.lemmas.List.{length-map}
use Rattle.std.proofs.lemmas.Bool.{cases_eq, ne_eqb}
use Rattle.decimal.specs.Digits.{digits}

pub same_as_decimal : (n : ℕ) → n < 2 ^ 64 → decimal n ≡ digits n
unfolding digits
same_as_decimal n h =
    elim (cases_eq n 0) [
      | inl z ↦ rw z (decimal_digit 0 (omega arith))
      | inr p ↦ let e : eqb n 0 ≡ false = ne_eqb n 0 p in rw e (decimal-digits_of n (omega arith) (omega arith))
    ]

pub count_digits : (n : ℕ) → 1 + length (digits_of 10 (n / 10)) ≡ length (digits n)
unfolding digits
count_digits n =
    elim (cases_eq n 0) [
      | inl z ↦ rw z
      | inr p ↦
          let e : eqb n 0 ≡ false = ne_eqb n 0 p in
          let s = length-digits_of_step 10 n (omega arith) (omega arith) in
          let m = length-map (digits_of 10 n) (λ d. 48 + d) in
          rw e (omega arith)
    ]

pub at_most_ten : (n : ℕ) → n < 2 ^ 32 → length (digits n) ≤ 10
at_most_ten n h =
    let le = length-digits_of-le 10 9 (n / 10) (omega arith) (omega arith) in
    omega (arith, count_digits n)
