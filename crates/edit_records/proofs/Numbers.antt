-- The numbers that words write.
use Rattle.std.proofs.Common.{◌≡◌, ℕ, ◌^◌, ◌<◌, true, List, length, Option, Ok, Err, Result, arith}
use Rattle.std.proofs.lemmas.Bool.Decides.{nat_tests}
use Rattle.std.specs.Result.{OkIff, result_ok}
use Rattle.std.specs.Str.{all_ascii_digits}
use Rattle.std.specs.Str.Parse.{digits_value}
use Rattle.edit_records.specs.Reading.{recorded_number}

-- what `parse` gives for a word that is not empty and has no plus in front
pub parsed : {E : Type 0} (w : List ℕ) (r : Result ℕ E) (o : Option ℕ) → 0 < length w
    → OkIff r ((all_ascii_digits w ≡ true) × (0 < length w) × (digits_value 10 w < 2 ^ 32)) (digits_value 10 w) → o ≡ result_ok r → o ≡ recorded_number w
parsed w (Ok n) o h p e = grind (arith, nat_tests)
parsed w (Err d) o h p e = grind (arith, nat_tests)
