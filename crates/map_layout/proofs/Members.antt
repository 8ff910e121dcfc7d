-- What is among a list that is searched, changed or from which one is taken.
use Rattle.std.proofs.Common.{◌≡◌, ℕ, ◌+◌, ◌≤◌, Bool, true, false, cond, ◌⊎◌, List, [], ◌∷◌, ◌++◌, reverse, length, Some, sym, refl, ap, ◌∙◌, inl, inr, ⊎_elim, arith}
use mathlib.Core.List.{reverse-cons}
use Rattle.std.proofs.lemmas.Bool.{both_ways, cases_Bool, cond-true}
use Rattle.map_model.specs.Lists.{one, count, found, last, front, moved, taken, changed}
use Rattle.map_layout.specs.Layout.{Among}

module _ {X : Type 0} where
  -- ---- members
  pub among_found : (p : X → Bool) (l : List X) (x : X) → found p l ≡ Some x → Among x l
  among_found p [] x e = absurd (let z : ◌≡◌ {A = ℕ} 0 1 = cc in omega arith)
  among_found p (y ∷ l) x e =
      elim (p y) as (λ b. cond b (Some y) (found p l) ≡ Some x → (x ≡ y) ⊎ Among x l)
      [ true ↦ λ h. inl (cc) | false ↦ λ h. inr (among_found p l x h) ] e

  pub among_counts : (p : X → Bool) (l : List X) (x : X) → Among x l → p x ≡ true → 1 ≤ count p l
  among_counts p [] x a h = absurd a
  among_counts p (y ∷ l) x a h =
      ⊎_elim
      (λ (e : x ≡ y). let k : one (p y) ≡ 1 = ap one (ap p (sym e) ∙ h) in omega arith)
      (λ (t : Among x l). let k = among_counts p l x t h in omega arith)
      a

  pub found_among : (p : X → Bool) (l : List X) (x : X) → count p l ≤ 1 → Among x l → p x ≡ true → found p l ≡ Some x
  found_among p [] x c a h = absurd a
  found_among p (y ∷ l) x c a h =
      ⊎_elim
      (λ (e : x ≡ y). cond-true (p y) (Some y) (found p l) (ap p (sym e) ∙ h) ∙ ap Some (sym e))
      (λ (t : Among x l).
      let k = among_counts p l x t h in
      elim (p y) as (λ b. one b + count p l ≤ 1 → cond b (Some y) (found p l) ≡ Some x)
      [ true ↦ λ d. absurd (omega arith) | false ↦ λ d. found_among p l x (omega arith) t h ] c)
      a

  pub among_left : (l m : List X) (x : X) → Among x l → Among x (l ++ m)
  among_left [] m x a = absurd a
  among_left (y ∷ l) m x a = ⊎_elim (λ (e : x ≡ y). inl e) (λ (t : Among x l). inr (among_left l m x t)) a

  pub among_right : (l m : List X) (x : X) → Among x m → Among x (l ++ m)
  among_right [] m x a = a
  among_right (y ∷ l) m x a = inr (among_right l m x a)

  pub among_parts : (l m : List X) (x : X) → Among x (l ++ m) → Among x l ⊎ Among x m
  among_parts [] m x a = inr a
  among_parts (y ∷ l) m x a =
      ⊎_elim (λ (e : x ≡ y). inl (inl e))
      (λ (t : Among x (l ++ m)). ⊎_elim (λ (s : Among x l). inl (inr s)) (λ (s : Among x m). inr s) (among_parts l m x t))
      a

  pub among_push : (l : List X) (y x : X) → Among x (l ++ y ∷ []) → Among x l ⊎ (x ≡ y)
  among_push l y x a = ⊎_elim (λ (s : Among x l). inl s) (λ (s : (x ≡ y) ⊎ ⊥). inr (⊎_elim (λ (e : x ≡ y). e) (λ (n : ⊥). absurd n) s)) (among_parts l (y ∷ []) x a)

  pub among_last : (l : List X) (y : X) → Among y (l ++ y ∷ [])
  among_last l y = among_right l (y ∷ []) y (inl refl)

  -- ---- one is changed
  pub among_changed : (p : X → Bool) (f : X → X) (l : List X) (x : X) → count p l ≤ 1 → Among x (changed p f l)
      → ((p x ≡ false) × Among x l) ⊎ ((y : X) × Among y l × (p y ≡ true) × (x ≡ f y))
  among_changed p f [] x c a = absurd a
  among_changed p f (y ∷ l) x c a =
      elim (p y) as (λ b. p y ≡ b → one b + count p l ≤ 1 → Among x (cond b (f y ∷ l) (y ∷ changed p f l))
      → ((p x ≡ false) × Among x (y ∷ l)) ⊎ ((z : X) × Among z (y ∷ l) × (p z ≡ true) × (x ≡ f z))) [
        | true ↦ λ e d s.
            ⊎_elim
            (λ (q : x ≡ f y). inr (y, inl refl, e, q))
            (λ (t : Among x l). inl
            (⊎_elim (λ (h : p x ≡ true). absurd (let k = among_counts p l x t h in omega arith)) (λ (h : p x ≡ false). h) (cases_Bool (p x)), inr t))
            s
        | false ↦ λ e d s.
            ⊎_elim
            (λ (q : x ≡ y). inl (ap p q ∙ e, inl q))
            (λ (t : Among x (changed p f l)).
            ⊎_elim
            (λ (r : (p x ≡ false) × Among x l). inl (r.0, inr r.1))
            (λ (r : (z : X) × Among z l × (p z ≡ true) × (x ≡ f z)). inr (r.0, inr r.1, r.2, r.3))
            (among_changed p f l x (omega arith) t))
            s
      ] refl c a

  pub among_unchanged : (p : X → Bool) (f : X → X) (l : List X) (x : X) → Among x l → p x ≡ false → Among x (changed p f l)
  among_unchanged p f [] x a h = absurd a
  among_unchanged p f (y ∷ l) x a h =
      elim (p y) as (λ b. p y ≡ b → Among x (cond b (f y ∷ l) (y ∷ changed p f l))) [
        | true ↦ λ e. ⊎_elim (λ (q : x ≡ y). absurd (both_ways (p x) h (ap p q ∙ e))) (λ (t : Among x l). inr t) a
        | false ↦ λ e. ⊎_elim (λ (q : x ≡ y). inl q) (λ (t : Among x l). inr (among_unchanged p f l x t h)) a
      ] refl

  pub among_change : (p : X → Bool) (f : X → X) (l : List X) (x : X) → found p l ≡ Some x → Among (f x) (changed p f l)
  among_change p f [] x e = absurd (let z : ◌≡◌ {A = ℕ} 0 1 = cc in omega arith)
  among_change p f (y ∷ l) x e =
      elim (p y) as (λ b. cond b (Some y) (found p l) ≡ Some x → Among (f x) (cond b (f y ∷ l) (y ∷ changed p f l)))
      [ true ↦ λ h. inl (let q : x ≡ y = cc in ap f q) | false ↦ λ h. inr (among_change p f l x h) ] e

  pub changed_none : (p : X → Bool) (f : X → X) (l : List X) → count p l ≡ 0 → changed p f l ≡ l
  changed_none p f [] c = refl
  changed_none p f (y ∷ l) c =
      elim (p y) as (λ b. one b + count p l ≡ 0 → cond b (f y ∷ l) (y ∷ changed p f l) ≡ y ∷ l)
      [ true ↦ λ d. absurd (omega arith) | false ↦ λ d. ap (λ z. y ∷ z) (changed_none p f l (omega arith)) ] c

  -- a change that leaves what is found as it was
  pub changed_same : (p : X → Bool) (f : X → X) (l : List X) → ((x : X) → found p l ≡ Some x → f x ≡ x) → changed p f l ≡ l
  changed_same p f [] h = refl
  changed_same p f (y ∷ l) h =
      elim (p y) as (λ b. ((x : X) → cond b (Some y) (found p l) ≡ Some x → f x ≡ x) → cond b (f y ∷ l) (y ∷ changed p f l) ≡ y ∷ l)
      [ true ↦ λ k. ap (λ z. z ∷ l) (k y refl) | false ↦ λ k. ap (λ z. y ∷ z) (changed_same p f l k) ] h

  -- two changes that agree on what is found
  pub changed_agree : (p : X → Bool) (f g : X → X) (l : List X) → ((x : X) → found p l ≡ Some x → f x ≡ g x) → changed p f l ≡ changed p g l
  changed_agree p f g [] h = refl
  changed_agree p f g (y ∷ l) h =
      elim (p y) as (λ b. ((x : X) → cond b (Some y) (found p l) ≡ Some x → f x ≡ g x) → cond b (f y ∷ l) (y ∷ changed p f l) ≡ cond b (g y ∷ l) (y ∷ changed p g l))
      [ true ↦ λ k. ap (λ z. z ∷ l) (k y refl) | false ↦ λ k. ap (λ z. y ∷ z) (changed_agree p f g l k) ] h

  -- ---- one is taken
  pub among_moved : (l : List X) (x : X) → Among x (moved l) → Among x l
  among_moved [] x a = a
  among_moved (y ∷ []) x a = a
  among_moved (y ∷ z ∷ l) x a =
      ⊎_elim
      (λ (e : x ≡ last z l). inr (among_moved (z ∷ l) x (inl e)))
      (λ (t : (x ≡ y) ⊎ Among x (front z l)). ⊎_elim (λ (e : x ≡ y). inl e) (λ (s : Among x (front z l)). inr (among_moved (z ∷ l) x (inr s))) t)
      a

  pub moved_among : (l : List X) (x : X) → Among x l → Among x (moved l)
  moved_among [] x a = a
  moved_among (y ∷ []) x a = a
  moved_among (y ∷ z ∷ l) x a =
      ⊎_elim
      (λ (e : x ≡ y). inr (inl e))
      (λ (t : Among x (z ∷ l)). ⊎_elim (λ (e : x ≡ last z l). inl e) (λ (s : Among x (front z l)). inr (inr s)) (moved_among (z ∷ l) x t))
      a

  pub among_taken : (p : X → Bool) (l : List X) (x : X) → Among x (taken p l) → Among x l
  among_taken p [] x a = a
  among_taken p (y ∷ l) x a =
      elim (p y) as (λ b. Among x (cond b (moved l) (y ∷ taken p l)) → Among x (y ∷ l)) [
        | true ↦ λ s. inr (among_moved l x s)
        | false ↦ λ s. ⊎_elim (λ (e : x ≡ y). inl e) (λ (t : Among x (taken p l)). inr (among_taken p l x t)) s
      ] a

  pub taken_among : (p : X → Bool) (l : List X) (x : X) → Among x l → p x ≡ false → Among x (taken p l)
  taken_among p [] x a h = a
  taken_among p (y ∷ l) x a h =
      elim (p y) as (λ b. p y ≡ b → Among x (cond b (moved l) (y ∷ taken p l))) [
        | true ↦ λ e. ⊎_elim (λ (q : x ≡ y). absurd (both_ways (p x) h (ap p q ∙ e))) (λ (t : Among x l). moved_among l x t) a
        | false ↦ λ e. ⊎_elim (λ (q : x ≡ y). inl q) (λ (t : Among x l). inr (taken_among p l x t h)) a
      ] refl

  pub moved_push : (m : List X) (y : X) → moved (m ++ y ∷ []) ≡ y ∷ m
  moved_push [] y = refl
  moved_push (x ∷ m) y = go x m
    where
      go : (x : X) (m : List X) → last x (m ++ y ∷ []) ∷ front x (m ++ y ∷ []) ≡ y ∷ x ∷ m
      go x [] = refl
      go x (z ∷ m) =
          let h = go z m in
          let a : last z (m ++ y ∷ []) ≡ y = cc in
          let b : front z (m ++ y ∷ []) ≡ z ∷ m = cc in
          cc

  pub taken_none : (p : X → Bool) (l : List X) → count p l ≡ 0 → taken p l ≡ l
  taken_none p [] c = refl
  taken_none p (y ∷ l) c =
      elim (p y) as (λ b. one b + count p l ≡ 0 → cond b (moved l) (y ∷ taken p l) ≡ y ∷ l)
      [ true ↦ λ d. absurd (omega arith) | false ↦ λ d. ap (λ z. y ∷ z) (taken_none p l (omega arith)) ] c

  pub taken_append : (p : X → Bool) (m z : List X) → count p m ≡ 0 → taken p (m ++ z) ≡ m ++ taken p z
  taken_append p [] z c = refl
  taken_append p (y ∷ m) z c =
      elim (p y) as (λ b. one b + count p m ≡ 0 → cond b (moved (m ++ z)) (y ∷ taken p (m ++ z)) ≡ y ∷ (m ++ taken p z))
      [ true ↦ λ d. absurd (omega arith) | false ↦ λ d. ap (λ v. y ∷ v) (taken_append p m z (omega arith)) ] c

  pub length_moved : (l : List X) → length (moved l) ≡ length l
  length_moved [] = refl
  length_moved (y ∷ []) = refl
  length_moved (y ∷ z ∷ l) = let h = length_moved (z ∷ l) in omega arith

  pub length_taken : (p : X → Bool) (l : List X) → 1 ≤ count p l → length (taken p l) + 1 ≡ length l
  length_taken p [] c = absurd (omega arith)
  length_taken p (y ∷ l) c =
      elim (p y) as (λ b. 1 ≤ one b + count p l → length (cond b (moved l) (y ∷ taken p l)) + 1 ≡ length (y ∷ l))
      [ true ↦ λ d. let h = length_moved l in omega arith | false ↦ λ d. let h = length_taken p l (omega arith) in omega arith ] c

  pub length_changed : (p : X → Bool) (f : X → X) (l : List X) → length (changed p f l) ≡ length l
  length_changed p f [] = refl
  length_changed p f (y ∷ l) =
      elim (p y) as (λ b. length (cond b (f y ∷ l) (y ∷ changed p f l)) ≡ length (y ∷ l))
      [ true ↦ refl | false ↦ let h = length_changed p f l in omega arith ]

  pub count_append : (p : X → Bool) (l m : List X) → count p (l ++ m) ≡ count p l + count p m
  count_append p [] m = omega arith
  count_append p (y ∷ l) m = let h = count_append p l m in omega arith

  pub count_reverse : (p : X → Bool) (l : List X) → count p (reverse l) ≡ count p l
  count_reverse p [] = refl
  count_reverse p (y ∷ l) =
      let h = count_reverse p l in
      let e = ap (count p) (reverse-cons y l) in
      let k = count_append p (reverse l) (y ∷ []) in omega arith
