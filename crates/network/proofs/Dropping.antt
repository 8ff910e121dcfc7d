-- What is left of a list once one more item has come.
use Rattle.std.proofs.Common.{◌≡◌, ℕ, zero, suc, ◌+◌, ◌<◌, List, [], ◌∷◌, length, drop, Some, None, Option, MatchOption, ap, sym, ◌∙◌, add-one, arith}
use Rattle.std.specs.List.{slice_get}

drop_suc : {X : Type 0} (xs : List X) (i : ℕ) (x : X) → slice_get xs i ≡ Some x → drop i xs ≡ x ∷ drop (suc i) xs
drop_suc [] i x e = absurd (let z : ◌≡◌ {A = ℕ} 0 1 = cc in omega arith)
drop_suc (y ∷ xs) zero x e = let q : y ≡ x = cc in ap (λ z. z ∷ xs) q
drop_suc (y ∷ xs) (suc i) x e = drop_suc xs i x e

slice_get_none : {X : Type 0} (xs : List X) (i : ℕ) → i < length xs → None ≡ slice_get xs i → ⊥
slice_get_none [] i h e = omega arith
slice_get_none (x ∷ xs) zero h e = let z : ◌≡◌ {A = ℕ} 0 1 = cc in omega arith
slice_get_none (x ∷ xs) (suc i) h e = slice_get_none xs i (omega arith) e

-- the item at i comes first of those from i on
pub first_at : {X : Type 0} (xs : List X) (i j : ℕ) (r : Option X) → r ≡ slice_get xs i → i < length xs → j ≡ i + 1
    → MatchOption r ((drop i xs ≡ []) × (drop j xs ≡ [])) (λ x. drop i xs ≡ x ∷ drop j xs)
first_at xs i j None e h f = absurd (slice_get_none xs i h e)
first_at xs i j (Some x) e h f = drop_suc xs i x (sym e) ∙ ap (λ k. x ∷ drop k xs) (sym (f ∙ add-one i))
