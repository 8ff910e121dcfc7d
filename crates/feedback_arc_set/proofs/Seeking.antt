-- The first item that passes a test, found step by step.
use Rattle.std.proofs.Common.{◌≡◌, ℕ, zero, suc, ◌+◌, ◌≤◌, Bool, true, false, cond, List, [], ◌∷◌, length, drop, Some, None, Ok, Err, Option, Result, refl, ap, ◌∙◌, arith}
use Rattle.std.specs.List.{slice_get, position_from}
use Rattle.std.proofs.lemmas.List.{drop_all}
use Rattle.std.specs.Borrow.{Bor}
use Rattle.fault.specs.declared.Fault.{Fault}
use Rattle.fault.specs.declared.Fault.TheVariants.{EndUnplaced}
use Rattle.feedback_arc_set.specs.declared.ordering.Ordering.{Ordering}
use Rattle.feedback_arc_set.specs.declared.held.HeldArcs.{HeldArcs}
use Rattle.feedback_arc_set.specs.Cursors.{first_from, opened}

-- an item at i stands before the rest of the list
rest_suc : {X : Type 0} (xs : List X) (i : ℕ) (x : X) → Some x ≡ slice_get xs i → drop i xs ≡ x ∷ drop (suc i) xs
rest_suc [] i x e = absurd (let z : ◌≡◌ {A = ℕ} 0 1 = cc in omega arith)
rest_suc (y ∷ xs) zero x e = let q : y ≡ x = cc in ap (λ v. v ∷ xs) q
rest_suc (y ∷ xs) (suc i) x e = rest_suc xs i x e

module _ {X : Type 0} (test : X → Bool) (xs : List X) (i : ℕ) where
  opens : (x : X) → Some x ≡ slice_get xs i → first_from test i (drop i xs) ≡ cond (test x) (Some (i, x)) (first_from test (i + 1) (drop (i + 1) xs))
  opens x e = let s : suc i ≡ i + 1 = omega arith in ap (first_from test i) (rest_suc xs i x e) ∙ ap (λ j. cond (test x) (Some (i, x)) (first_from test (i + 1) (drop j xs))) s

  pub first_here : (x : X) → Some x ≡ slice_get xs i → test x ≡ true → first_from test i (drop i xs) ≡ Some (i, x)
  first_here x e t = opens x e ∙ ap (λ b. cond b (Some (i, x)) (first_from test (i + 1) (drop (i + 1) xs))) t

  pub first_later : (x : X) → Some x ≡ slice_get xs i → test x ≡ false → first_from test i (drop i xs) ≡ first_from test (i + 1) (drop (i + 1) xs)
  first_later x e t = opens x e ∙ ap (λ b. cond b (Some (i, x)) (first_from test (i + 1) (drop (i + 1) xs))) t

  pub first_never : length xs ≤ i → first_from test i (drop i xs) ≡ None
  first_never l = ap (first_from test i) (drop_all i xs l)

-- the verdict on a source, by the position of the first arc that cannot be placed
abbrev pub opened_by : Bor Ordering → Option ℕ → Result HeldArcs Fault
opened_by o (Some i) = Err (EndUnplaced i)
opened_by o None = Ok (record { ordering = o; position = 0 })

pub opened_at : {X : Type 0} (o : Bor Ordering) (test : X → Bool) (p : ℕ) (xs : List X) → opened_by o (position_from test p xs) ≡ opened o (first_from test p xs)
opened_at o test p [] = refl
opened_at {X} o test p (x ∷ xs) = go (test x) (opened_at o test (p + 1) xs)
  where
    go : (b : Bool) → opened_by o (position_from test (p + 1) xs) ≡ opened o (first_from test (p + 1) xs) → opened_by o (cond b (Some p) (position_from test (p + 1) xs)) ≡ opened o (cond b (Some (p, x)) (first_from test (p + 1) xs))
    go true h = refl
    go false h = h
