-- The numbers that words write.
use Rattle.std.proofs.Common.{◌≡◌, ℕ, ◌^◌, ◌<◌, ◌≤◌, ◌≢◌, true, List, [], ◌∷◌, ◌++◌, length, get_or, Option, Ok, Err, Result, ap, arith}
use Rattle.std.proofs.lemmas.Bool.Decides.{nat_tests}
use Rattle.std.specs.Result.{OkIff, result_ok}
use Rattle.std.specs.Str.{all_ascii_digits}
use Rattle.std.specs.Str.Parse.{digits_value}
use Rattle.edit_lines.specs.Reading.{number_in}

pub not_plus : (w : List ℕ) → ((rest : List ℕ) → w ≡ (43 ∷ []) ++ rest → ⊥) → get_or w 0 0 ≢ 43
not_plus [] h e = absurd (omega arith)
not_plus (x ∷ w) h e = h w (ap (λ y. y ∷ w) e)

-- what `parse` gives for at most 10 characters without a plus in front
pub parsed : {E : Type 0} (w : List ℕ) (r : Result ℕ E) (o : Option ℕ) → length w ≤ 10
    → OkIff r ((all_ascii_digits w ≡ true) × (0 < length w) × (digits_value 10 w < 2 ^ 32)) (digits_value 10 w) → o ≡ result_ok r → o ≡ number_in w
parsed w (Ok n) o h p e = grind (arith, nat_tests)
parsed w (Err d) o h p e = grind (arith, nat_tests)
