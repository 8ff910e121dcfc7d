-- Taking out of a list whose last one is known: the last one is written over what goes.
use Rattle.std.proofs.Common.{◌≡◌, Bool, true, false, cond, ◌||◌, List, [], ◌∷◌, ◌++◌, refl, ap, ◌∙◌}
use Rattle.map_model.specs.Lists.{has, last, front, moved, taken, changed}

module _ {X : Type 0} where
  last_push : (y z : X) (l : List X) → last y (l ++ z ∷ []) ≡ z
  last_push y z [] = refl
  last_push y z (x ∷ l) = last_push x z l

  front_push : (y z : X) (l : List X) → front y (l ++ z ∷ []) ≡ y ∷ l
  front_push y z [] = refl
  front_push y z (x ∷ l) = ap (λ t. y ∷ t) (front_push x z l)

  pub moved_push : (l : List X) (z : X) → moved (l ++ z ∷ []) ≡ z ∷ l
  moved_push [] z = refl
  moved_push (y ∷ l) z = ap (λ a. a ∷ front y (l ++ z ∷ [])) (last_push y z l) ∙ ap (λ t. z ∷ t) (front_push y z l)

  inside : (b c : Bool) (y : X) (p q r : List X) → y ∷ cond b p (cond c q r) ≡ cond b (y ∷ p) (cond c (y ∷ q) (y ∷ r))
  inside true c y p q r = refl
  inside false true y p q r = refl
  inside false false y p q r = refl

  pub taken_push : (t : X → Bool) (l : List X) (z : X) → taken t (l ++ z ∷ []) ≡ cond (has t l) (changed t (λ _. z) l) (cond (t z) l (l ++ z ∷ []))
  taken_push t [] z = refl
  taken_push t (y ∷ l) z =
      elim (t y) as (λ b. cond b (moved (l ++ z ∷ [])) (y ∷ taken t (l ++ z ∷ [])) ≡ cond (b || has t l) (cond b (z ∷ l) (y ∷ changed t (λ _. z) l)) (cond (t z) (y ∷ l) (y ∷ (l ++ z ∷ [])))) [
        | true ↦ moved_push l z
        | false ↦ ap (λ v. y ∷ v) (taken_push t l z) ∙ inside (has t l) (t z) y (changed t (λ _. z) l) l (l ++ z ∷ [])
      ]
