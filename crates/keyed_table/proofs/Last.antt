-- The last place below p that f sends to b, and what a change of f at one place does to it.
use Rattle.std.proofs.Common.{◌≡◌, ℕ, zero, suc, ◌<◌, ◌≤◌, Bool, true, false, eqb, ◌≢◌, sym, refl, ap, ◌∙◌, subst, ⊎_elim, arith}
use Rattle.std.proofs.lemmas.Bool.{false≢true, cases_eq, cases_lt, eqb-true, eqb-false, cond_both}
use Rattle.keyed_table.specs.Chains.{last, Above}

-- x is one more than the last place below p that f sends to b, or 0
pub record IsLast (f : ℕ → ℕ) (b p x : ℕ) : Type 0 where
  pub low : x ≤ p
  pub here : (y : ℕ) → x ≡ suc y → f y ≡ b
  pub none : (j : ℕ) → x ≤ j → j < p → f j ≡ b → ⊥

pub last_is : (f : ℕ → ℕ) (b p : ℕ) → IsLast f b p (last f b p)
last_is f b zero = record { low = omega arith; here = λ y e. absurd (omega arith); none = λ j l h e. omega arith }
last_is f b (suc p) =
    cond_both (eqb (f p) b) (suc p) (last f b p) (IsLast f b (suc p))
    (λ t. record { low = omega arith; here = λ y e. let q : y ≡ p = omega arith in ap f q ∙ eqb-true (f p) b t; none = λ j l h e. omega arith })
    (λ t. let r = last_is f b p in let w = r.low in record {
      low = omega arith;
      here = r.here;
      none = λ j l h e.
          ⊎_elim (λ (q : j ≡ p). eqb-false (f p) b t (ap f (sym q) ∙ e)) (λ (q : j ≢ p). r.none j l (omega arith) e) (cases_eq j p);
    })

pub only : (f : ℕ → ℕ) (b p x y : ℕ) → IsLast f b p x → IsLast f b p y → x ≤ y
only f b p zero y u v = omega arith
only f b p (suc x) y u v =
    ⊎_elim (λ (q : x < y). omega arith) (λ (q : y ≤ x). let w = u.low in absurd (v.none x q (omega arith) (u.here x refl))) (cases_lt x y)

pub is_last : (f : ℕ → ℕ) (b p x : ℕ) → IsLast f b p x → x ≡ last f b p
is_last f b p x u =
    let v = last_is f b p in
    let r = only f b p x (last f b p) u v in
    let s = only f b p (last f b p) x v u in
    omega arith

-- f and g differ at i alone
abbrev pub Differ : (f g : ℕ → ℕ) → ℕ → Type 0
Differ f g i = (j : ℕ) → (j ≡ i → ⊥) → g j ≡ f j

-- a last place stays so, where i is not in sight
pub stays : (f g : ℕ → ℕ) (i b p x : ℕ) → Differ f g i → (x ≡ suc i → ⊥) → (x ≤ i → i < p → g i ≡ b → ⊥) → IsLast f b p x → IsLast g b p x
stays f g i b p x d a n u =
    record {
      low = u.low;
      here = λ y e. d y (λ q. a (omega arith)) ∙ u.here y e;
      none = λ j l h e.
          ⊎_elim (λ (q : j ≡ i). n (omega arith) (omega arith) (ap g (sym q) ∙ e)) (λ (q : j ≢ i). u.none j l h (sym (d j q) ∙ e)) (cases_eq j i);
    }

-- ---- the walk down a bucket, to the gap below e
pub record Walk (f : ℕ → ℕ) (b e m q x : ℕ) : Type 0 where
  pub top : q ≡ 0 → IsLast f b m x
  pub low : (p : ℕ) → q ≡ suc p → IsLast f b p x × (e ≤ p) × (p < m) × (f p ≡ b)

walk_here : (f : ℕ → ℕ) (b e m q x : ℕ) → Walk f b e m q x → (x ≤ m) × ((y : ℕ) → x ≡ suc y → f y ≡ b)
walk_here f b e m zero x w = ((w.top refl).low, (w.top refl).here)
walk_here f b e m (suc p) x w = let l = w.low p refl in let r = l.0.low in (omega arith, l.0.here)

pub walk_in : (f : ℕ → ℕ) (b e m q y : ℕ) → Walk f b e m q (suc y) → (y < m) × (f y ≡ b)
walk_in f b e m q y w = let h = walk_here f b e m q (suc y) w in let a = h.0 in (omega arith, h.1 y refl)

pub walk_more : (f : ℕ → ℕ) (b e m q y n : ℕ) → Walk f b e m q (suc y) → e ≤ y → IsLast f (f y) y n → Walk f b e m (suc y) n
walk_more f b e m q y n w l u =
    let h = walk_in f b e m q y w in
    record {
      top = λ z. absurd (omega arith);
      low = λ p z. let s : y ≡ p = omega arith in
          subst (λ (t : ℕ). IsLast f b t n × (e ≤ t) × (t < m) × (f t ≡ b)) s (subst (λ (t : ℕ). IsLast f t y n) h.1 u, l, h.0, h.1);
    }

pub walk_end : (f : ℕ → ℕ) (b e m q x : ℕ) → Walk f b e m q x → e ≤ m → x ≤ e → Above f b e m q x
walk_end f b e m zero x w s l =
    let u = w.top refl in
    record {
      low = l;
      here = u.here;
      near = λ j a h. u.none j a (omega arith);
      over = λ j a h e. absurd (u.none j (omega arith) h e);
      at = λ p z. absurd (omega arith);
    }
walk_end f b e m (suc p) x w s l =
    let u = w.low p refl in
    let d = u.1 in
    record {
      low = l;
      here = u.0.here;
      near = λ j a h. u.0.none j a (omega arith);
      over = λ j a h g. (p, refl, ⊎_elim (λ (z : j < p). absurd (u.0.none j (omega arith) z g)) (λ (z : p ≤ j). z) (cases_lt j p));
      at = λ r z. let t : p ≡ r = omega arith in subst (λ (v : ℕ). (e ≤ v) × (v < m) × (f v ≡ b)) t (u.1, u.2, u.3);
    }

-- ---- all links, as functions
pub record Chained (f H N : ℕ → ℕ) (m : ℕ) : Type 0 where
  pub inside : (i : ℕ) → f i < m → i < m
  pub first : (b : ℕ) → b < m → IsLast f b m (H b)
  pub after : (i : ℕ) → f i < m → IsLast f (f i) i (N i)

-- the link above a gap has been written
pub record Cell (H N H' N' : ℕ → ℕ) (b q x : ℕ) : Type 0 where
  pub top : q ≡ 0 → H' b ≡ x
  pub heads : (c : ℕ) → (q ≡ 0 → c ≡ b → ⊥) → H' c ≡ H c
  pub low : (p : ℕ) → q ≡ suc p → N' p ≡ x
  pub nexts : (p : ℕ) → (q ≡ suc p → ⊥) → N' p ≡ N p

at_value : (f : ℕ → ℕ) (b p x y : ℕ) → y ≡ x → IsLast f b p x → IsLast f b p y
at_value f b p x y e u = subst (IsLast f b p) (sym e) u

at_bucket : (f : ℕ → ℕ) (b c p x : ℕ) → c ≡ b → IsLast f b p x → IsLast f c p x
at_bucket f b c p x e u = subst (λ (z : ℕ). IsLast f z p x) (sym e) u

-- ---- a place i that was in no bucket comes into b
module _ (f g H N N₁ H' N' : ℕ → ℕ) (m i b q x : ℕ) (d : Differ f g i) (free : f i ≡ m) (new : g i ≡ b) (small : b < m) (in_range : i < m)
    (c : Chained f H N m) (a : Above f b (suc i) m q x) (own : N₁ i ≡ x) (others : (p : ℕ) → (p ≡ i → ⊥) → N₁ p ≡ N p) (w : Cell H N₁ H' N' b q (suc i)) where
  -- the new place is the last one before p
  new_last : (p : ℕ) → i < p → p ≤ m → ((j : ℕ) → i < j → j < p → f j ≡ b → ⊥) → IsLast g b p (suc i)
  new_last p h s n =
      record {
        low = omega arith;
        here = λ y e. let z : y ≡ i = omega arith in ap g z ∙ new;
        none = λ j l r e. n j (omega arith) r (sym (d j (λ z. omega arith)) ∙ e);
      }

  old_last : (k p y : ℕ) → k < m → p ≤ m → (k ≡ b → y ≤ i → i < p → ⊥) → IsLast f k p y → IsLast g k p y
  old_last k p y s t n u =
      stays f g i k p y d (λ z. let r = u.here i z in omega arith) (λ l r e. n (sym e ∙ new) l r) u

  link_first_b : (r : ℕ) → q ≡ r → IsLast g b m (H' b)
  link_first_b zero z =
      at_value g b m (suc i) (H' b) (w.top z) (new_last m in_range (omega arith) (λ j l h e. let o = a.over j (omega arith) h e in let y = o.1 in omega arith))
  link_first_b (suc p) z =
      let t = a.at p z in let l = t.0 in
      at_value g b m (H b) (H' b) (w.heads b (λ v _. omega arith))
      (old_last b m (H b) small (omega arith) (λ _ y _. (c.first b small).none p (omega arith) t.1 t.2) (c.first b small))

  link_first : (k : ℕ) → k < m → IsLast g k m (H' k)
  link_first k h =
      ⊎_elim
      (λ (e : k ≡ b). subst (λ (z : ℕ). IsLast g z m (H' z)) (sym e) (link_first_b q refl))
      (λ (e : k ≢ b). at_value g k m (H k) (H' k) (w.heads k (λ _. e)) (old_last k m (H k) h (omega arith) (λ s _ _. e s) (c.first k h)))
      (cases_eq k b)

  link_own : IsLast g b i (N' i)
  link_own =
      let e : N' i ≡ x = w.nexts i (λ z. let t = a.at i z in let l = t.0 in omega arith) ∙ own in
      let l = a.low in
      let ne : x ≢ suc i = λ z. let r = a.here i z in omega arith in
      at_value g b i x (N' i) e
      (record {
        low = omega arith;
        here = λ y z. d y (λ v. ne (omega arith)) ∙ a.here y z;
        none = λ j s h v. a.near j s (omega arith) (sym (d j (λ z. omega arith)) ∙ v);
      })

  link_above : (k : ℕ) → (k ≡ i → ⊥) → f k < m → q ≡ suc k → IsLast g (f k) k (N' k)
  link_above k n h z =
      let t = a.at k z in let l = t.0 in
      at_bucket g b (f k) k (N' k) t.2
      (at_value g b k (suc i) (N' k) (w.low k z) (new_last k (omega arith) (omega arith) (λ j s r e. let o = a.over j (omega arith) (omega arith) e in let y = o.1 in let v = o.2 in omega arith)))

  link_else : (k : ℕ) → (k ≡ i → ⊥) → f k < m → (q ≡ suc k → ⊥) → IsLast g (f k) k (N' k)
  link_else k n h z =
      let s = c.inside k h in
      at_value g (f k) k (N k) (N' k) (w.nexts k z ∙ others k n)
      (old_last (f k) k (N k) h (omega arith)
      (λ e l r. let o = a.over k (omega arith) s e in let t = a.at o.0 o.1 in let t0 = t.0 in let v = o.2 in
      (c.after k h).none o.0 (omega arith) (let ne : k ≢ o.0 = λ y. z (o.1 ∙ ap suc (sym y)) in omega arith) (t.2 ∙ sym e))
      (c.after k h))

  link_after : (k : ℕ) → g k < m → IsLast g (g k) k (N' k)
  link_after k h =
      ⊎_elim
      (λ (e : k ≡ i). subst (λ (z : ℕ). IsLast g (g z) z (N' z)) (sym e) (at_bucket g b (g i) i (N' i) new link_own))
      (λ (e : k ≢ i). let s = d k e in let h' : f k < m = omega arith in
      at_bucket g (f k) (g k) k (N' k) s
      (⊎_elim (λ z. link_above k e h' z) (λ (z : q ≢ suc k). link_else k e h' z) (cases_eq q (suc k))))
      (cases_eq k i)

  pub linking : Chained g H' N' m
  linking =
      record {
        inside = λ k h. ⊎_elim (λ (e : k ≡ i). omega arith) (λ (e : k ≢ i). let s = d k e in c.inside k (omega arith)) (cases_eq k i);
        first = link_first;
        after = link_after;
      }

-- ---- a place i goes from its bucket b
module _ (f g H N H' N' : ℕ → ℕ) (m i b q x : ℕ) (d : Differ f g i) (old : f i ≡ b) (gone : g i ≡ m) (small : b < m)
    (c : Chained f H N m) (a : Above f b (suc i) m q x) (w : Cell H N H' N' b q (N i)) where
  in_b : f i < m
  in_b = omega arith

  own : IsLast f b i (N i)
  own = at_bucket f (f i) b i (N i) (sym old) (c.after i in_b)

  rest_last : (p : ℕ) → i < p → p ≤ m → ((j : ℕ) → i < j → j < p → f j ≡ b → ⊥) → IsLast g b p (N i)
  rest_last p h s n =
      let l = own.low in
      record {
        low = omega arith;
        here = λ y e. d y (λ z. omega arith) ∙ own.here y e;
        none = λ j l r e. ⊎_elim
            (λ (z : j ≡ i). let v : g i ≡ b = ap g (sym z) ∙ e in omega arith)
            (λ (z : j ≢ i). let v : f j ≡ b = sym (d j z) ∙ e in
            ⊎_elim (λ (y : j < i). own.none j l y v) (λ (y : i ≤ j). n j (omega arith) r v) (cases_lt j i))
            (cases_eq j i);
      }

  less_last : (k p y : ℕ) → k < m → (k ≡ b → y ≡ suc i → ⊥) → IsLast f k p y → IsLast g k p y
  less_last k p y s n u = stays f g i k p y d (λ z. n (sym (u.here i z) ∙ old) z) (λ _ _ e. omega arith) u

  less_first_b : (r : ℕ) → q ≡ r → IsLast g b m (H' b)
  less_first_b zero z =
      at_value g b m (N i) (H' b) (w.top z) (rest_last m (c.inside i in_b) (omega arith) (λ j l h e. let o = a.over j (omega arith) h e in let y = o.1 in omega arith))
  less_first_b (suc p) z =
      let t = a.at p z in let l = t.0 in
      at_value g b m (H b) (H' b) (w.heads b (λ v _. omega arith))
      (less_last b m (H b) small (λ _ y. (c.first b small).none p (omega arith) t.1 t.2) (c.first b small))

  less_first : (k : ℕ) → k < m → IsLast g k m (H' k)
  less_first k h =
      ⊎_elim
      (λ (e : k ≡ b). subst (λ (z : ℕ). IsLast g z m (H' z)) (sym e) (less_first_b q refl))
      (λ (e : k ≢ b). at_value g k m (H k) (H' k) (w.heads k (λ _. e)) (less_last k m (H k) h (λ s _. e s) (c.first k h)))
      (cases_eq k b)

  less_above : (k : ℕ) → f k < m → q ≡ suc k → IsLast g (f k) k (N' k)
  less_above k h z =
      let t = a.at k z in let l = t.0 in
      at_bucket g b (f k) k (N' k) t.2
      (at_value g b k (N i) (N' k) (w.low k z) (rest_last k (omega arith) (omega arith) (λ j s r e. let o = a.over j (omega arith) (omega arith) e in let y = o.1 in let v = o.2 in omega arith)))

  less_else : (k : ℕ) → f k < m → (q ≡ suc k → ⊥) → IsLast g (f k) k (N' k)
  less_else k h z =
      let s = c.inside k h in
      let u = c.after k h in
      at_value g (f k) k (N k) (N' k) (w.nexts k z)
      (less_last (f k) k (N k) h
      (λ e y. let lo = u.low in let o = a.over k (omega arith) s e in let t = a.at o.0 o.1 in let t0 = t.0 in let v = o.2 in
      u.none o.0 (omega arith) (let ne : k ≢ o.0 = λ r. z (o.1 ∙ ap suc (sym r)) in omega arith) (t.2 ∙ sym e))
      u)

  less_after : (k : ℕ) → g k < m → IsLast g (g k) k (N' k)
  less_after k h =
      ⊎_elim
      (λ (e : k ≡ i). let v = ap g e in absurd (omega arith))
      (λ (e : k ≢ i). let s = d k e in let h' : f k < m = omega arith in
      at_bucket g (f k) (g k) k (N' k) s
      (⊎_elim (λ z. less_above k h' z) (λ (z : q ≢ suc k). less_else k h' z) (cases_eq q (suc k))))
      (cases_eq k i)

  pub unlinking : Chained g H' N' m
  unlinking =
      record {
        inside = λ k h. ⊎_elim (λ (e : k ≡ i). let v = ap g e in absurd (omega arith)) (λ (e : k ≢ i). let s = d k e in c.inside k (omega arith)) (cases_eq k i);
        first = less_first;
        after = less_after;
      }

-- ---- a search down the bucket b for what passes a test
pub record Sought (f : ℕ → ℕ) (b m : ℕ) (t : ℕ → Bool) (x : ℕ) : Type 0 where
  pub low : x ≤ m
  pub here : (y : ℕ) → x ≡ suc y → f y ≡ b
  pub none : (j : ℕ) → x ≤ j → t j ≡ true → ⊥

module _ (f : ℕ → ℕ) (b m : ℕ) (t : ℕ → Bool) (in_b : (j : ℕ) → t j ≡ true → (f j ≡ b) × (j < m)) where
  pub sought_none : (x : ℕ) → IsLast f b m x → Sought f b m t x
  sought_none x u = record { low = u.low; here = u.here; none = λ j l e. let z = in_b j e in u.none j l z.1 z.0 }

  pub sought_more : (y n : ℕ) → Sought f b m t (suc y) → t y ≡ false → IsLast f (f y) y n → Sought f b m t n
  sought_more y n s off u =
      let e = s.here y refl in
      let l = s.low in
      let r = u.low in
      record {
        low = omega arith;
        here = λ z q. u.here z q ∙ e;
        none = λ j h z. ⊎_elim
            (λ (q : j < y). u.none j h q ((in_b j z).0 ∙ sym e))
            (λ (q : y ≤ j). ⊎_elim (λ (v : j ≡ y). false≢true (sym off ∙ ap t (sym v) ∙ z)) (λ (v : j ≢ y). s.none j (omega arith) z) (cases_eq j y))
            (cases_lt j y);
      }

-- ---- functions that agree
pub last_agree : (f g : ℕ → ℕ) (b p x : ℕ) → ((j : ℕ) → g j ≡ f j) → IsLast f b p x → IsLast g b p x
last_agree f g b p x e u = record { low = u.low; here = λ y q. e y ∙ u.here y q; none = λ j l h q. u.none j l h (sym (e j) ∙ q) }

pub chained_agree : (f g H N : ℕ → ℕ) (m : ℕ) → ((j : ℕ) → g j ≡ f j) → Chained f H N m → Chained g H N m
chained_agree f g H N m e c =
    record {
      inside = λ i h. let q = e i in c.inside i (omega arith);
      first = λ b h. last_agree f g b m (H b) e (c.first b h);
      after = λ i h. let q = e i in at_bucket g (f i) (g i) i (N i) q (last_agree f g (f i) i (N i) e (c.after i (omega arith)));
    }

-- nothing before
pub none_last : (f : ℕ → ℕ) (b p : ℕ) → ((j : ℕ) → j < p → f j ≡ b → ⊥) → last f b p ≡ 0
none_last f b p n = sym (is_last f b p 0 (record { low = omega arith; here = λ y e. absurd (omega arith); none = λ j _ h e. n j h e }))

pub last_none : (f : ℕ → ℕ) (b p : ℕ) → last f b p ≡ 0 → (j : ℕ) → j < p → f j ≡ b → ⊥
last_none f b p z j h e = (last_is f b p).none j (omega arith) h e
