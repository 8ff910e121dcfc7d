-- The decimal digits of a number, as ASCII bytes.
use Rattle.std.specs.Prelude.{◌≡◌, ℕ, ◌+◌, ◌-◌, ◌*◌, ◌<◌, ◌≤◌, cond, List, [], ◌∷◌, map, length, ◌==◌, slice_index_or}
use Rattle.std.specs.Int.Digits.{digits_of}
use Rattle.std.specs.List.{AllByRecursion}

-- the digits of a number, highest first, with no zero in front: 0 alone has the digit 0
unfoldable pub digits : ℕ → List ℕ
digits n = cond (n == 0) (48 ∷ []) (map (λ d. 48 + d) (digits_of 10 n))

-- the number that digits write after a number: each digit counts ten times the one after it
abbrev pub number_after : ℕ → List ℕ → ℕ
number_after n [] = n
number_after n (b ∷ bytes) = number_after (n * 10 + (b - 48)) bytes

-- bytes that write a number as people do: digits only, at least one, and no zero in front of another digit
pub record Numeral (n : ℕ) (bytes : List ℕ) : Type 0 where
  pub each_a_digit : AllByRecursion (λ b. (48 ≤ b) × (b ≤ 57)) bytes
  pub some_digit : 0 < length bytes
  pub no_zero_in_front : slice_index_or bytes 0 0 ≡ 48 → length bytes ≡ 1
  pub value : number_after 0 bytes ≡ n

-- the digits of a number are a numeral of it, and no other bytes are
pub record OnlyNumeral (n : ℕ) : Type 0 where
  pub is_numeral : Numeral n (digits n)
  pub is_only : (bytes : List ℕ) → Numeral n bytes → bytes ≡ digits n
