-- The next word of a line, where the library's `split_once` finds an end of it and where it finds none.
use Rattle.std.proofs.Common.{◌≡◌, ℕ, ◌+◌, ◌<◌, ◌==◌, true, false, not, cond, List, [], ◌∷◌, length, refl, ap, arith}
use Rattle.std.proofs.lemmas.List.Splits.{slice_split_first}
use Rattle.std.specs.List.{before_first, after_first, position_or_len, slice_split, onto_first}
use Rattle.edit_lines.specs.Words.{words_in}

pub cut : (line : List ℕ) → position_or_len (λ b. b == 32) line < length line → words_in line ≡ before_first (λ b. b == 32) line ∷ words_in (after_first (λ b. b == 32) line)
cut line lt = slice_split_first (λ b. b == 32) line 0 lt

pub whole : (line : List ℕ) → position_or_len (λ b. b == 32) line ≡ length line → words_in line ≡ line ∷ []
whole [] h = refl
whole (x ∷ line) h =
    let p = λ (b : ℕ). b == 32 in
    elim (x == 32) as (λ b. cond (not b) (1 + position_or_len p line) 0 ≡ length (x ∷ line) → cond b ([] ∷ slice_split p line) (onto_first x (slice_split p line)) ≡ (x ∷ line) ∷ [])
    [ true ↦ λ e. absurd (omega (arith, e)) | false ↦ λ e. ap (onto_first x) (whole line (omega (arith, e))) ] h
