-- Counting and finding in a list from which one is taken, or in which one is changed.
use Rattle.std.proofs.Common.{◌≡◌, ℕ, ◌+◌, ◌-◌, ◌≤◌, Bool, true, false, cond, ◌||◌, List, [], ◌∷◌, ◌++◌, Some, None, Option, sym, refl, ap, ◌∙◌, subst, arith}
use Rattle.std.proofs.lemmas.Bool.{true≢false}
use Rattle.map_model.specs.Lists.{one, count, has, found, last, front, moved, taken, changed}

module _ {X : Type 0} where
  -- nothing passes both
  abbrev pub Apart : (X → Bool) → (X → Bool) → Type 0
  Apart p q = (x : X) → q x ≡ true → p x ≡ false

  pub count_ends : (p : X → Bool) (x : X) (l : List X) → one (p (last x l)) + count p (front x l) ≡ one (p x) + count p l
  count_ends p x [] = refl
  count_ends p x (y ∷ l) = let ih = count_ends p y l in omega arith

  pub count_moved : (p : X → Bool) (l : List X) → count p (moved l) ≡ count p l
  count_moved p [] = refl
  count_moved p (x ∷ l) = count_ends p x l

  pub count_taken : (p : X → Bool) (l : List X) → count p (taken p l) ≡ count p l - 1
  count_taken p [] = refl
  count_taken p (x ∷ l) =
      elim (p x) as (λ b. p x ≡ b → count p (cond b (moved l) (x ∷ taken p l)) ≡ (one b + count p l) - 1) [
        | true ↦ λ e. let h = count_moved p l in omega arith
        | false ↦ λ e. let h = count_taken p l in let k = ap one e in omega arith
      ] refl

  pub count_taken_other : (p q : X → Bool) (l : List X) → Apart p q → count p (taken q l) ≡ count p l
  count_taken_other p q [] d = refl
  count_taken_other p q (x ∷ l) d =
      elim (q x) as (λ b. q x ≡ b → count p (cond b (moved l) (x ∷ taken q l)) ≡ one (p x) + count p l) [
        | true ↦ λ e. let h = count_moved p l in let k = ap one (d x e) in omega arith
        | false ↦ λ e. let h = count_taken_other p q l d in omega arith
      ] refl

  -- what is not counted is not found
  pub none_found : (p : X → Bool) (l : List X) → count p l ≡ 0 → found p l ≡ None
  none_found p [] h = refl
  none_found p (x ∷ l) h =
      elim (p x) as (λ b. one b + count p l ≡ 0 → cond b (Some x) (found p l) ≡ None)
      [ true ↦ λ e. absurd (omega arith) | false ↦ λ e. none_found p l (omega arith) ] h

  pub found_counts : (p : X → Bool) (l : List X) (x : X) → found p l ≡ Some x → 1 ≤ count p l
  found_counts p [] x h = absurd (let z : ◌≡◌ {A = ℕ} 0 1 = cc in omega arith)
  found_counts p (y ∷ l) x h =
      elim (p y) as (λ b. cond b (Some y) (found p l) ≡ Some x → 1 ≤ one b + count p l)
      [ true ↦ λ e. omega arith | false ↦ λ e. let k = found_counts p l x e in omega arith ] h

  pub found_ends : (p : X → Bool) (x : X) (l : List X) → one (p x) + count p l ≤ 1 → cond (p (last x l)) (Some (last x l)) (found p (front x l)) ≡ cond (p x) (Some x) (found p l)
  found_ends p x [] h = refl
  found_ends p x (y ∷ l) h =
      let ih = found_ends p y l (omega arith) in
      let c = count_ends p y l in
      elim (p x) as (λ b. one b + (one (p y) + count p l) ≤ 1 → cond (p (last y l)) (Some (last y l)) (cond b (Some x) (found p (front y l))) ≡ cond b (Some x) (cond (p y) (Some y) (found p l))) [
        | true ↦ λ k.
            elim (p (last y l)) as (λ b. one b + count p (front y l) ≡ one (p y) + count p l → cond b (Some (last y l)) (Some x) ≡ Some x)
            [ true ↦ λ j. absurd (omega arith) | false ↦ λ j. refl ] c
        | false ↦ λ k. ih
      ] h

  pub found_moved : (p : X → Bool) (l : List X) → count p l ≤ 1 → found p (moved l) ≡ found p l
  found_moved p [] h = refl
  found_moved p (x ∷ l) h = found_ends p x l h

  pub found_taken_other : (p q : X → Bool) (l : List X) → Apart p q → count p l ≤ 1 → found p (taken q l) ≡ found p l
  found_taken_other p q [] d h = refl
  found_taken_other p q (x ∷ l) d h =
      elim (q x) as (λ b. q x ≡ b → found p (cond b (moved l) (x ∷ taken q l)) ≡ cond (p x) (Some x) (found p l)) [
        | true ↦ λ e. found_moved p l (omega arith) ∙ sym (ap (λ b. cond b (Some x) (found p l)) (d x e))
        | false ↦ λ e. ap (cond (p x) (Some x)) (found_taken_other p q l d (omega arith))
      ] refl

  -- a change that the test does not see
  abbrev pub Keeps : (X → Bool) → (X → X) → Type 0
  Keeps p f = (x : X) → p (f x) ≡ p x

  pub count_changed : (p q : X → Bool) (f : X → X) (l : List X) → Keeps p f → count p (changed q f l) ≡ count p l
  count_changed p q f [] k = refl
  count_changed p q f (x ∷ l) k =
      elim (q x) as (λ b. count p (cond b (f x ∷ l) (x ∷ changed q f l)) ≡ one (p x) + count p l)
      [ true ↦ let e = ap one (k x) in omega arith | false ↦ let e = count_changed p q f l k in omega arith ]

  abbrev pub applied : (X → X) → Option X → Option X
  applied f None = None
  applied f (Some x) = Some (f x)

  applied_cond : (f : X → X) (b : Bool) (x : X) (o : Option X) → cond b (Some (f x)) (applied f o) ≡ applied f (cond b (Some x) o)
  applied_cond f true x o = refl
  applied_cond f false x o = refl

  pub found_changed : (p : X → Bool) (f : X → X) (l : List X) → Keeps p f → found p (changed p f l) ≡ applied f (found p l)
  found_changed p f [] k = refl
  found_changed p f (x ∷ l) k =
      elim (p x) as (λ b. p x ≡ b → found p (cond b (f x ∷ l) (x ∷ changed p f l)) ≡ applied f (cond b (Some x) (found p l))) [
        | true ↦ λ e. ap (λ b. cond b (Some (f x)) (found p l)) (k x ∙ e)
        | false ↦ λ e. ap (λ b. cond b (Some x) (found p (changed p f l))) e ∙ found_changed p f l k
      ] refl

  pub found_changed_other : (p q : X → Bool) (f : X → X) (l : List X) → Keeps p f → Apart p q → found p (changed q f l) ≡ found p l
  found_changed_other p q f [] k d = refl
  found_changed_other p q f (x ∷ l) k d =
      elim (q x) as (λ b. q x ≡ b → found p (cond b (f x ∷ l) (x ∷ changed q f l)) ≡ cond (p x) (Some x) (found p l)) [
        | true ↦ λ e. ap (λ b. cond b (Some (f x)) (found p l)) (k x ∙ d x e) ∙ sym (ap (λ b. cond b (Some x) (found p l)) (d x e))
        | false ↦ λ e. ap (cond (p x) (Some x)) (found_changed_other p q f l k d)
      ] refl

  -- one more at the end
  pub count_push : (p : X → Bool) (l : List X) (x : X) → count p (l ++ x ∷ []) ≡ count p l + one (p x)
  count_push p [] x = omega arith
  count_push p (y ∷ l) x = let ih = count_push p l x in omega arith

  pub found_push : (p : X → Bool) (l : List X) (x : X) → p x ≡ false → found p (l ++ x ∷ []) ≡ found p l
  found_push p [] x e = ap (λ b. cond b (Some x) None) e
  found_push p (y ∷ l) x e = ap (cond (p y) (Some y)) (found_push p l x e)

  pub found_push_new : (p : X → Bool) (l : List X) (x : X) → p x ≡ true → found p l ≡ None → found p (l ++ x ∷ []) ≡ Some x
  found_push_new p [] x e h = ap (λ b. cond b (Some x) None) e
  found_push_new p (y ∷ l) x e h =
      elim (p y) as (λ b. cond b (Some y) (found p l) ≡ None → cond b (Some y) (found p (l ++ x ∷ [])) ≡ Some x)
      [ true ↦ λ k. absurd (let z : ◌≡◌ {A = ℕ} 0 1 = cc in omega arith) | false ↦ λ k. found_push_new p l x e k ] h

  -- has, found and count
  pub has_counts : (p : X → Bool) (l : List X) → has p l ≡ false → count p l ≡ 0
  has_counts p [] h = refl
  has_counts p (x ∷ l) h =
      elim (p x) as (λ b. (b || has p l) ≡ false → one b + count p l ≡ 0)
      [ true ↦ λ e. absurd (true≢false e) | false ↦ λ e. let k = has_counts p l e in omega arith ] h

  pub none_counts : (p : X → Bool) (l : List X) → found p l ≡ None → count p l ≡ 0
  none_counts p [] h = refl
  none_counts p (x ∷ l) h =
      elim (p x) as (λ b. cond b (Some x) (found p l) ≡ None → one b + count p l ≡ 0)
      [ true ↦ λ e. absurd (let z : ◌≡◌ {A = ℕ} 0 1 = cc in omega arith) | false ↦ λ e. let k = none_counts p l e in omega arith ] h

  pub found_passes : (p : X → Bool) (l : List X) (x : X) → found p l ≡ Some x → p x ≡ true
  found_passes p [] x h = absurd (let z : ◌≡◌ {A = ℕ} 0 1 = cc in omega arith)
  found_passes p (y ∷ l) x h =
      elim (p y) as (λ b. p y ≡ b → cond b (Some y) (found p l) ≡ Some x → p x ≡ true)
      [ true ↦ λ e k. let z : y ≡ x = cc in subst (λ v. p v ≡ true) z e | false ↦ λ e k. found_passes p l x k ] refl h
