-- Lists of places: what is in them, and what comes last, after one change.
use Rattle.std.specs.Option.{option_or}
use Rattle.std.proofs.Common.{◌≡◌, ℕ, true, false, cond, eqb, ◌≢◌, ◌⊎◌, List, [], ◌∷◌, ◌++◌, Some, None, Option, sym, refl, ap, ◌∙◌, subst, inl, inr, ⊎_elim, append-nil, arith}
use Rattle.std.proofs.lemmas.Bool.{cases_eq, cases_Bool, eqb-true, eq-eqb, ne_eqb, or_cases, or_left, or_right, false≢true, both_ways, cond-true, cond-false}
use Rattle.linked_list.specs.Chains.{has, first, last_from, last, without, replaced, swap_removed}
use Rattle.linked_list.proofs.Members.{has_head, has_tail, has_append}
use Rattle.linked_list.proofs.Linking.{Differ}
use Rattle.map_layout.specs.Steps.{last_swapped}
use Rattle.map_layout.proofs.Links.{split, spliced_split}

-- ---- members
pub has_parts : (a b : List ℕ) (x : ℕ) → has (a ++ b) x ≡ true → (has a x ≡ true) ⊎ (has b x ≡ true)
has_parts a b x h = or_cases (has a x) (has b x) (sym (has_append a b x) ∙ h)

pub has_left : (a b : List ℕ) (x : ℕ) → has a x ≡ true → has (a ++ b) x ≡ true
has_left a b x h = has_append a b x ∙ or_left (has a x) (has b x) h

pub has_right : (a b : List ℕ) (x : ℕ) → has b x ≡ true → has (a ++ b) x ≡ true
has_right a b x h = has_append a b x ∙ or_right (has a x) (has b x) h

pub has_cons : (y : ℕ) (b : List ℕ) (x : ℕ) → has (y ∷ b) x ≡ true → (x ≡ y) ⊎ (has b x ≡ true)
has_cons y b x h = ⊎_elim (λ (e : eqb y x ≡ true). inl (sym (eqb-true y x e))) (λ (e : has b x ≡ true). inr e) (or_cases (eqb y x) (has b x) h)

differ_right : (a b : List ℕ) → Differ (a ++ b) → Differ b
differ_right [] b d = d
differ_right (x ∷ a) b d = differ_right a b d.1

none_of : (l : List ℕ) (p x : ℕ) → has l p ≡ false → has l x ≡ true → x ≢ p
none_of l p x n h e = both_ways (has l p) n (subst (λ z. has l z ≡ true) e h)

-- what is before and after p is not p
pub around : (a b : List ℕ) (p x : ℕ) → Differ (a ++ p ∷ b) → has a p ≡ false → (has a x ≡ true) ⊎ (has b x ≡ true) → x ≢ p
around a b p x d n s = ⊎_elim (λ (h : has a x ≡ true). none_of a p x n h) (λ (h : has b x ≡ true). none_of b p x (differ_right a (p ∷ b) d).0 h) s

-- ---- p goes, with nothing in its place
pub record Gone (l m : List ℕ) (p : ℕ) : Type 0 where
  pub old : (x : ℕ) → has m x ≡ true → has l x ≡ true
  pub other : (x : ℕ) → has m x ≡ true → x ≢ p
  pub kept : (x : ℕ) → has l x ≡ true → x ≢ p → has m x ≡ true

gone_split : (a b : List ℕ) (p : ℕ) → Differ (a ++ p ∷ b) → has a p ≡ false → Gone (a ++ p ∷ b) (a ++ b) p
gone_split a b p d n = record {
  old = λ x h. ⊎_elim (λ (s : has a x ≡ true). has_left a (p ∷ b) x s) (λ (s : has b x ≡ true). has_right a (p ∷ b) x (has_tail p b x s)) (has_parts a b x h);
  other = λ x h. around a b p x d n (has_parts a b x h);
  kept = λ x h ne. ⊎_elim
      (λ (s : has a x ≡ true). has_left a b x s)
      (λ (s : has (p ∷ b) x ≡ true). ⊎_elim (λ (e : x ≡ p). absurd (ne e)) (λ (t : has b x ≡ true). has_right a b x t) (has_cons p b x s))
      (has_parts a (p ∷ b) x h);
}

pub gone_without : (l : List ℕ) (p : ℕ) → Differ l → has l p ≡ true → Gone l (without p l) p
gone_without l p d h =
    let s = split l p h in
    let w = s.whole in
    let e : without p l ≡ s.left ++ s.right = ap (without p) w ∙ spliced_split p [] s.left s.right s.clear in
    subst (λ m. Gone l m p) (sym e) (subst (λ v. Gone v (s.left ++ s.right) p) (sym w) (gone_split s.left s.right p (subst Differ w d) s.clear))

gone_inner : (f : ℕ) (a b : List ℕ) (p : ℕ) → Differ (f ∷ (a ++ p ∷ b)) → has a p ≡ false → f ≢ p → Gone (f ∷ (a ++ p ∷ b)) (a ++ f ∷ b) p
gone_inner f a b p d n ne =
    let g = gone_split a b p d.1 n in
    let mid : (x : ℕ) → has (a ++ f ∷ b) x ≡ true → (x ≡ f) ⊎ (has (a ++ b) x ≡ true) = λ x h.
    ⊎_elim (λ (s : has a x ≡ true). inr (has_left a b x s))
    (λ (s : has (f ∷ b) x ≡ true). ⊎_elim (λ (e : x ≡ f). inl e) (λ (t : has b x ≡ true). inr (has_right a b x t)) (has_cons f b x s))
    (has_parts a (f ∷ b) x h) in
    record {
      old = λ x h. ⊎_elim (λ (e : x ≡ f). subst (λ z. has (f ∷ (a ++ p ∷ b)) z ≡ true) (sym e) (has_head f (a ++ p ∷ b))) (λ (t : has (a ++ b) x ≡ true). has_tail f (a ++ p ∷ b) x (g.old x t)) (mid x h);
      other = λ x h. ⊎_elim (λ (e : x ≡ f). λ q. ne (sym e ∙ q)) (λ (t : has (a ++ b) x ≡ true). g.other x t) (mid x h);
      kept = λ x h q. ⊎_elim
          (λ (e : x ≡ f). has_right a (f ∷ b) x (subst (λ z. has (f ∷ b) z ≡ true) (sym e) (has_head f b)))
          (λ (t : has (a ++ p ∷ b) x ≡ true).
          ⊎_elim (λ (s : has a x ≡ true). has_left a (f ∷ b) x s) (λ (s : has b x ≡ true). has_right a (f ∷ b) x (has_tail f b x s)) (has_parts a b x (g.kept x t q)))
          (has_cons f (a ++ p ∷ b) x h);
    }

gone_first : (f : ℕ) (l : List ℕ) (p : ℕ) → Differ (f ∷ l) → f ≡ p → Gone (f ∷ l) l p
gone_first f l p d e = subst (λ z. Gone (f ∷ l) l z) e (gone_split [] l f d refl)

pub gone_swap : (l : List ℕ) (p : ℕ) → Differ l → has l p ≡ true → Gone l (swap_removed p l) p
gone_swap [] p d h = absurd (false≢true h)
gone_swap (f ∷ l) p d h =
    ⊎_elim
    (λ (e : f ≡ p). subst (λ m. Gone (f ∷ l) m p) (sym (cond-true (eqb f p) l (replaced p f l) (eq-eqb f p e))) (gone_first f l p d e))
    (λ (ne : f ≢ p).
    let s = split l p (⊎_elim (λ (e : p ≡ f). absurd (ne (sym e))) (λ (t : has l p ≡ true). t) (has_cons f l p h)) in
    let w = s.whole in
    let e : swap_removed p (f ∷ l) ≡ s.left ++ f ∷ s.right = cond-false (eqb f p) l (replaced p f l) (ne_eqb f p ne) ∙ ap (replaced p f) w ∙ spliced_split p (f ∷ []) s.left s.right s.clear in
    subst (λ m. Gone (f ∷ l) m p) (sym e)
    (subst (λ v. Gone (f ∷ v) (s.left ++ f ∷ s.right) p) (sym w) (gone_inner f s.left s.right p (subst (λ v. Differ (f ∷ v)) w d) s.clear ne)))
    (cases_eq f p)

-- ---- what comes last
pub last_cons : (p : ℕ) (l : List ℕ) → last (p ∷ l) ≡ option_or (last l) (Some p)
last_cons p [] = refl
last_cons p (x ∷ l) = let e = last_cons x l in e ∙ go (last l) ∙ ap (λ z. option_or z (Some p)) (sym e)
  where
    go : (o : Option ℕ) → option_or o (Some x) ≡ option_or (option_or o (Some x)) (Some p)
    go None = refl
    go (Some y) = refl

pub last_append : (q : Option ℕ) (a : List ℕ) (p : ℕ) (b : List ℕ) → last_from q (a ++ p ∷ b) ≡ last_from (Some p) b
last_append q [] p b = refl
last_append q (x ∷ a) p b = last_append (Some x) a p b

last_in : (q : ℕ) (l : List ℕ) → has (q ∷ l) q ≡ true → (z : ℕ) × (last_from (Some q) l ≡ Some z) × (has (q ∷ l) z ≡ true)
last_in q [] h = (q, refl, h)
last_in q (x ∷ l) h = let r = last_in x l (has_head x l) in (r.0, r.1, has_tail q (x ∷ l) r.0 r.2)

pub last_swap : (l : List ℕ) (p : ℕ) → Differ l → has l p ≡ true → last (swap_removed p l) ≡ last_swapped (first l) (last l) p
last_swap [] p d h = absurd (false≢true h)
last_swap (f ∷ l) p d h =
    ⊎_elim
    (λ (e : f ≡ p).
    ap last (cond-true (eqb f p) l (replaced p f l) (eq-eqb f p e)) ∙ first_goes l e)
    (λ (ne : f ≢ p).
    let s = split l p (⊎_elim (λ (e : p ≡ f). absurd (ne (sym e))) (λ (t : has l p ≡ true). t) (has_cons f l p h)) in
    let w = s.whole in
    let e : swap_removed p (f ∷ l) ≡ s.left ++ f ∷ s.right = cond-false (eqb f p) l (replaced p f l) (ne_eqb f p ne) ∙ ap (replaced p f) w ∙ spliced_split p (f ∷ []) s.left s.right s.clear in
    ap last e ∙ last_append None s.left f s.right
    ∙ inner s.right ne (λ y. (differ_right s.left (p ∷ s.right) (subst Differ w d.1)).0)
    ∙ ap (λ z. last_swapped (Some f) z p) (sym (ap (λ v. last (f ∷ v)) w ∙ last_append None (f ∷ s.left) p s.right)))
    (cases_eq f p)
  where
    first_goes : (m : List ℕ) → f ≡ p → last l ≡ last_swapped (Some f) (last (f ∷ l)) p
    first_goes m e = go l d.0
      where
        go : (v : List ℕ) → has v f ≡ false → last v ≡ last_swapped (Some f) (last_from (Some f) v) p
        go [] n = sym (cond-true (eqb f p) (cond (eqb f p) None (Some f)) (Some f) (eq-eqb f p e) ∙ cond-true (eqb f p) None (Some f) (eq-eqb f p e))
        go (x ∷ v) n =
            let r = last_in x v (has_head x v) in
            let ne : r.0 ≢ p = λ q. both_ways (has (x ∷ v) f) n (subst (λ z. has (x ∷ v) z ≡ true) (q ∙ sym e) r.2) in
            r.1 ∙ sym (ap (λ z. last_swapped (Some f) z p) r.1 ∙ cond-false (eqb r.0 p) (cond (eqb f p) None (Some f)) (Some r.0) (ne_eqb r.0 p ne))

    inner : (v : List ℕ) → f ≢ p → (ℕ → has v p ≡ false) → last_from (Some f) v ≡ last_swapped (Some f) (last_from (Some p) v) p
    inner [] ne n = sym (cond-true (eqb p p) (cond (eqb f p) None (Some f)) (Some p) (eq-eqb p p refl) ∙ cond-false (eqb f p) None (Some f) (ne_eqb f p ne))
    inner (x ∷ v) ne n =
        let r = last_in x v (has_head x v) in
        let q : r.0 ≢ p = λ e. both_ways (has (x ∷ v) p) (n 0) (subst (λ z. has (x ∷ v) z ≡ true) e r.2) in
        r.1 ∙ sym (ap (λ z. last_swapped (Some f) z p) r.1 ∙ cond-false (eqb r.0 p) (cond (eqb f p) None (Some f)) (Some r.0) (ne_eqb r.0 p q))

-- the last of a list stands at its end
pub record Ended (l : List ℕ) (p : ℕ) : Type 0 where
  pub before : List ℕ
  pub whole : l ≡ before ++ p ∷ []
  pub here : has l p ≡ true

pub ended : (l : List ℕ) (p : ℕ) → last l ≡ Some p → Ended l p
ended [] p e = absurd (let z : ◌≡◌ {A = ℕ} 0 1 = cc in omega arith)
ended (x ∷ l) p e = go x l e
  where
    go : (x : ℕ) (l : List ℕ) → last_from (Some x) l ≡ Some p → Ended (x ∷ l) p
    go x [] e = let q : x ≡ p = cc in record { before = []; whole = ap (λ z. z ∷ []) q; here = subst (λ z. has (x ∷ []) z ≡ true) q (has_head x []) }
    go x (y ∷ l) e = let r = go y l e in record { before = x ∷ r.before; whole = ap (λ z. x ∷ z) r.whole; here = has_tail x (y ∷ l) p r.here }

pub without_last : (a : List ℕ) (p : ℕ) → Differ (a ++ p ∷ []) → without p (a ++ p ∷ []) ≡ a
without_last a p d =
    let n : has a p ≡ false = ⊎_elim (λ (t : has a p ≡ true). absurd (twice a t d)) (λ (t : has a p ≡ false). t) (cases_Bool (has a p)) in
    spliced_split p [] a [] n ∙ append-nil a
  where
    twice : (b : List ℕ) → has b p ≡ true → Differ (b ++ p ∷ []) → ⊥
    twice [] t e = false≢true t
    twice (x ∷ b) t e = ⊎_elim
        (λ (q : p ≡ x). both_ways (has (b ++ p ∷ []) x) e.0 (subst (λ z. has (b ++ p ∷ []) z ≡ true) q (has_right b (p ∷ []) p (has_head p []))))
        (λ (q : has b p ≡ true). twice b q e.1) (has_cons x b p t)
