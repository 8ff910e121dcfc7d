-- The refusal line: how long it is, and how it comes of its pieces, put into an output one by one.
use Rattle.std.proofs.Common.{◌≡◌, ℕ, ◌+◌, ◌≤◌, List, [], ◌∷◌, ◌++◌, length, codes, sym, refl, ap, ◌∙◌, append_assoc, arith, length-append}
use Rattle.decimal.specs.Digits.{digits}
use Rattle.decimal.specs.Outputs.{put_at}
use Rattle.decimal.proofs.Outputs.{put_next}
use Rattle.fault.specs.declared.Fault.{Fault}
use Rattle.fault.specs.Faults.{number_of, place_of, refusal_text, refusal_line}

module _ (fault : Fault) (number place : ℕ) (n : number ≡ number_of fault) (p : place ≡ place_of fault) where
  pub line_length : 13 + length (digits number) + length (digits place) ≡ length (refusal_line fault)
  unfolding refusal_line refusal_text
  line_length =
      let a = length-append (digits number) (codes " at " ++ digits place) in
      let b = length-append (codes "refused " ++ (digits number ++ (codes " at " ++ digits place))) (10 ∷ []) in
      rw (← n, ← p) (omega arith)

  pub line_put : (out a b c d : List ℕ) → 33 ≤ length out → length (digits number) ≤ 10 → length (digits place) ≤ 10 → a ≡ put_at out 0 (codes "refused ") → b ≡ put_at a 8 (digits number) → c ≡ put_at b (8 + length (digits number)) (codes " at ") → d ≡ put_at c (12 + length (digits number)) (digits place) → put_at d (12 + length (digits number) + length (digits place)) (10 ∷ []) ≡ put_at out 0 (refusal_line fault)
  unfolding refusal_line refusal_text
  line_put out a b c d room short_n short-p ea eb ec ed =
      let A = codes "refused " in
      let N = digits number in
      let B = codes " at " in
      let P = digits place in
      let lb : length (A ++ N) ≡ 8 + length N = length-append A N in
      let lc : length ((A ++ N) ++ B) ≡ 12 + length N = length-append (A ++ N) B ∙ (omega arith) in
      let ld : length (((A ++ N) ++ B) ++ P) ≡ 12 + length N + length P = length-append ((A ++ N) ++ B) P ∙ (omega arith) in
      let b-is : b ≡ put_at out 0 (A ++ N) = eb ∙ put_next out a 8 A N (omega arith) refl ea in
      let c-is : c ≡ put_at out 0 ((A ++ N) ++ B) = ec ∙ put_next out b (8 + length N) (A ++ N) B (omega arith) (sym lb) b-is in
      let d-is : d ≡ put_at out 0 (((A ++ N) ++ B) ++ P) = ed ∙ put_next out c (12 + length N) ((A ++ N) ++ B) P (omega arith) (sym lc) c-is in
      let e-is = put_next out d (12 + length N + length P) (((A ++ N) ++ B) ++ P) (10 ∷ []) (omega arith) (sym ld) d-is in
      let whole : (((A ++ N) ++ B) ++ P) ++ (10 ∷ []) ≡ (A ++ (N ++ (B ++ P))) ++ (10 ∷ []) = simp append_assoc in
      rw (← n, ← p) (e-is ∙ ap (put_at out 0) whole)
