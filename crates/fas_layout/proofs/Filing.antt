-- What filing and unfiling one node does to all classes.
use Rattle.std.proofs.Common.{◌≡◌, ℕ, ◌<◌, ◌≤◌, Bool, true, false, cond, not, ◌&&◌, ◌||◌, eqb, ltb, ◌≢◌, List, [], ◌∷◌, length, get_or, set, Some, None, Option, sym, refl, ap, ◌∙◌, subst, ⊎_elim, arith}
use Rattle.std.proofs.lemmas.List.{get_or-set_same, get_or-set_other, get_or_past}
use Rattle.std.proofs.lemmas.Bool.{cases_eq, cases_lt, eq-eqb, ne_eqb, eqb-true, false≢true, cond-true, cond-false, and_parts, lt-ltb}
use Rattle.std.proofs.lemmas.Bool.Decides.{nat_tests}
use Rattle.linked_list.specs.Places.{Position}
use Rattle.linked_list.specs.Places.{is_in, at}
use Rattle.linked_list.specs.Chains.{first, Holds, Other}
use Rattle.linked_list.specs.Chains as linked
use Rattle.linked_list.specs.Laws.{Becomes, OthersStay, OthersStayIfListed, StatusStays}
use Rattle.linked_list.proofs.Linking.{listed_in, holds_within}
use Rattle.network.specs.Counting.{keep, has, without, EachOnce}
use Rattle.network.proofs.Sums.{has_head, has_tail, has_without, without_none, once_without}
use Rattle.fas_layout.specs.Classes.{of_class, Filed}

-- membership is the same for both kinds of lists
pub has_linked : (l : List ℕ) (y : ℕ) → linked.has l y ≡ has l y
has_linked [] y = refl
has_linked (x ∷ l) y = ap (λ b. eqb x y || b) (has_linked l y)

pub has_keep : (p : ℕ → Bool) (us : List ℕ) (y : ℕ) → has (keep p us) y ≡ (has us y && p y)
has_keep p [] y = refl
has_keep p (x ∷ us) y = ⊎_elim
    (λ (e : x ≡ y). let ih = has_keep p us y in let q : p x ≡ p y = ap p e in let t = eq-eqb x y e in grind arith)
    (λ (e : x ≢ y). let ih = has_keep p us y in let t = ne_eqb x y e in grind arith)
    (cases_eq x y)

pub keep_without : (p : ℕ → Bool) (y : ℕ) (us : List ℕ) → keep p (without y us) ≡ without y (keep p us)
keep_without p y [] = refl
keep_without p y (x ∷ us) = let ih = keep_without p y us in grind arith

-- of a list in which no node stands twice, leaving y out and cutting the first y out is the same
pub without_linked : (y : ℕ) (us : List ℕ) → EachOnce us → linked.without y us ≡ without y us
without_linked y [] a = refl
without_linked y (x ∷ us) a = let ih = without_linked y us a.1 in let f = a.0 in let n = without_none y us in grind (arith, nat_tests)

pub once_keep : (p : ℕ → Bool) (us : List ℕ) → EachOnce us → EachOnce (keep p us)
once_keep p [] a = tt
once_keep p (x ∷ us) a = go (p x) (once_keep p us a.1)
  where
    fresh : has (keep p us) x ≡ false
    fresh = let e = a.0 in grind (arith, has_keep p us x)

    go : (b : Bool) → EachOnce (keep p us) → EachOnce (cond b (x ∷ keep p us) (keep p us))
    go true ih = (fresh, ih)
    go false ih = ih

pub keep_same : (p q : ℕ → Bool) (us : List ℕ) → ((z : ℕ) → has us z ≡ true → p z ≡ q z) → keep p us ≡ keep q us
keep_same p q [] h = refl
keep_same p q (x ∷ us) h = let ih = keep_same p q us (λ z m. h z (has_tail x us z m)) in let e = h x (has_head x us) in cc

pub first_keep : (p : ℕ → Bool) (us : List ℕ) (x : ℕ) → first (keep p us) ≡ Some x → (has us x ≡ true) × (p x ≡ true)
first_keep p us x e = and_parts (has us x) (p x) (sym (has_keep p us x) ∙ starts (keep p us) e)
  where
    starts : (l : List ℕ) → first l ≡ Some x → has l x ≡ true
    starts [] f = let z : ◌≡◌ {A = ℕ} 0 1 = cc in absurd (omega arith)
    starts (y ∷ l) f = let q : y ≡ x = cc in subst (λ v. has (y ∷ l) v ≡ true) q (has_head y l)

pub others : (L : List Position) (D : ℕ → ℕ) (starts : List (Option ℕ)) (us : List ℕ) → Filed L D starts us → (j k : ℕ) → j ≢ k → Other (get_or starts j None) (get_or starts k None)
others L D starts us f j k ne h a b =
    let p = first_keep (λ y. eqb (D y) j) us h (sym (f.each j).starts ∙ a) in
    let q = first_keep (λ y. eqb (D y) k) us h (sym (f.each k).starts ∙ b) in
    ne (sym (eqb-true (D h) j p.1) ∙ eqb-true (D h) k q.1)

-- the classes do not look at a taken node
pub refile : (L : List Position) (D D' : ℕ → ℕ) (starts : List (Option ℕ)) (us : List ℕ) → ((z : ℕ) → has us z ≡ true → D z ≡ D' z) → Filed L D starts us → Filed L D' starts us
refile L D D' starts us e f = record {
  each = λ c. subst (λ l. Holds L (get_or starts c None) l) (keep_same (λ y. eqb (D y) c) (λ y. eqb (D' y) c) us (λ z m. ap (λ v. eqb v c) (e z m))) (f.each c);
  standing = f.standing;
  once = f.once;
}

module _ (L : List Position) (D : ℕ → ℕ) (starts : List (Option ℕ)) (us : List ℕ) (c y : ℕ) (f : Filed L D starts us) (d : D y ≡ c) where
  in_class : has us y ≡ true → has (of_class D c us) y ≡ true
  in_class m = let t = eq-eqb (D y) c d in has_keep (λ z. eqb (D z) c) us y ∙ grind arith

  -- an untaken node is found in the list of its class
  pub found : has us y ≡ true → linked.has (of_class D c us) y ≡ true
  found m = has_linked (of_class D c us) y ∙ in_class m

  pub filed_wide : has us y ≡ true → c < length starts
  filed_wide m = ⊎_elim (λ h. h)
      (λ (h : length starts ≤ c). let p = get_or_past starts c None h in absurd (none (of_class D c us) (sym p ∙ (f.each c).starts) (in_class m)))
      (cases_lt c (length starts))
    where
      none : (l : List ℕ) → None ≡ first l → has l y ≡ true → ⊥
      none [] e h = false≢true h
      none (x ∷ l) e h = let z : ◌≡◌ {A = ℕ} 0 1 = cc in omega arith

  pub filed_inside : has us y ≡ true → y < length L
  filed_inside m = holds_within L (get_or starts c None) (of_class D c us) y (f.each c) (found m)

module _ (L M : List Position) (D : ℕ → ℕ) (starts : List (Option ℕ)) (us : List ℕ) (c y : ℕ) (s : Option ℕ) (f : Filed L D starts us) (d : D y ≡ c) where
  not_in : (k : ℕ) → k ≢ c → has (of_class D k us) y ≡ false
  not_in k ne = let t = ne_eqb (D y) k (λ e. ne (sym e ∙ d)) in has_keep (λ z. eqb (D z) k) us y ∙ grind arith

  out_list : (k : ℕ) → k ≢ c → of_class D k us ≡ of_class D k (without y us)
  out_list k ne = sym (keep_without (λ z. eqb (D z) k) y us ∙ without_none y (of_class D k us) (not_in k ne))

  out_here : linked.without y (of_class D c us) ≡ of_class D c (without y us)
  out_here = without_linked y (of_class D c us) (once_keep (λ z. eqb (D z) c) us f.once) ∙ sym (keep_without (λ z. eqb (D z) c) y us)

  -- y goes out of its class
  pub filed_out : has us y ≡ true → c < length starts
      → ((l : List ℕ) → Holds L (get_or starts c None) l → Holds M s (linked.without y l))
      → ((l : List ℕ) (t : Option ℕ) (m : List ℕ) → Holds L (get_or starts c None) l → linked.has l y ≡ true → Holds L t m → Other t (get_or starts c None) → Holds M t m)
      → is_in (at M y) ≡ false → ((z : ℕ) → (z ≡ y → ⊥) → is_in (at M z) ≡ is_in (at L z))
      → Filed M D (set starts c s) (without y us)
  filed_out m r list rest freed status = record {
    each = λ k. ⊎_elim
        (λ (e : k ≡ c). subst (λ v. Holds M (get_or (set starts c s) v None) (of_class D v (without y us))) (sym e)
        (rw (get_or-set_same starts c s None r, ← out_here) (list _ (f.each c))))
        (λ (e : k ≢ c). rw (get_or-set_other starts c k s None e, ← out_list k e)
        (rest _ _ _ (f.each c) (found L D starts us c y f d m) (f.each k) (others L D starts us f k c e)))
        (cases_eq k c);
    standing = λ z. ⊎_elim
        (λ (e : z ≡ y). let t = eq-eqb z y e in let q = has_without y us z in let w : is_in (at M z) ≡ false = ap (λ v. is_in (at M v)) e ∙ freed in grind arith)
        (λ (e : z ≢ y). status z e ∙ f.standing z ∙ (let t = ne_eqb z y e in let q = has_without y us z in grind arith))
        (cases_eq z y);
    once = once_without y us f.once;
  }

  in_here : y ∷ of_class D c us ≡ of_class D c (y ∷ us)
  in_here = sym (cond-true (eqb (D y) c) (y ∷ of_class D c us) (of_class D c us) (eq-eqb (D y) c d))

  in_list : (k : ℕ) → k ≢ c → of_class D k us ≡ of_class D k (y ∷ us)
  in_list k ne = sym (cond-false (eqb (D y) k) (y ∷ of_class D k us) (of_class D k us) (ne_eqb (D y) k (λ e. ne (sym e ∙ d))))

  -- y comes to the front of its class
  pub filed_in : has us y ≡ false → c < length starts
      → ((l : List ℕ) → Holds L (get_or starts c None) l → Holds M s (y ∷ l))
      → ((t : Option ℕ) (m : List ℕ) → Holds L t m → Other t (get_or starts c None) → Holds M t m)
      → ((z : ℕ) → (z ≡ y → ⊥) → is_in (at M z) ≡ is_in (at L z))
      → Filed M D (set starts c s) (y ∷ us)
  filed_in n r list rest status = record {
    each = λ k. ⊎_elim
        (λ (e : k ≡ c). subst (λ v. Holds M (get_or (set starts c s) v None) (of_class D v (y ∷ us))) (sym e)
        (rw (get_or-set_same starts c s None r, ← in_here) (list _ (f.each c))))
        (λ (e : k ≢ c). rw (get_or-set_other starts c k s None e, ← in_list k e)
        (rest _ _ (f.each k) (others L D starts us f k c e)))
        (cases_eq k c);
    standing = λ z. ⊎_elim
        (λ (e : z ≡ y). let t = eq-eqb y z (sym e) in let w : is_in (at M z) ≡ true = ap (λ v. is_in (at M v)) e ∙ stands in grind arith)
        (λ (e : z ≢ y). status z e ∙ f.standing z ∙ (let t = ne_eqb y z (λ q. e (sym q)) in grind arith))
        (cases_eq z y);
    once = (n, f.once);
  }
    where
      stands : is_in (at M y) ≡ true
      stands = listed_in M None (y ∷ of_class D c us) y (list _ (f.each c)).linked (has_linked (y ∷ of_class D c us) y ∙ has_head y (of_class D c us))

-- ---- the calls of a list, at the class c: s is its start before and s' after
pub remove_filed : (L M : List Position) (D : ℕ → ℕ) (starts starts' : List (Option ℕ)) (us : List ℕ) (c y i : ℕ) (s s' : Option ℕ) (r : Bool) → s ≡ get_or starts c None → i ≡ y → starts' ≡ set starts c s'
    → ((l : List ℕ) → Holds L s l → linked.has l i ≡ true → r ≡ true) → Becomes (linked.without i) L s M s' → OthersStayIfListed i L s M → (r ≡ true → at M i ≡ None) → StatusStays i L M
    → D y ≡ c → has us y ≡ true → Filed L D starts us → Filed M D starts' (without y us)
remove_filed L M D starts starts' us c y i s s' r se ie oe granted listed others freed status d m f =
    let h : Holds L s (of_class D c us) = subst (λ v. Holds L v (of_class D c us)) (sym se) (f.each c) in
    let k : linked.has (of_class D c us) i ≡ true = ap (linked.has (of_class D c us)) ie ∙ found L D starts us c y f d m in
    let free : is_in (at M y) ≡ false = ap (λ v. is_in (at M v)) (sym ie) ∙ ap is_in (freed (granted (of_class D c us) h k)) in
    rw oe (filed_out L M D starts us c y s' f d m (filed_wide L D starts us c y f d m)
    (λ l q. subst (λ v. Holds M s' (linked.without v l)) ie (listed l (subst (λ v. Holds L v l) (sym se) q)))
    (λ l t n q e w o. others l (subst (λ v. Holds L v l) (sym se) q) (ap (linked.has l) ie ∙ e) t n w (subst (λ v. Other t v) (sym se) o))
    free (λ z n. status z (λ e. n (e ∙ ie))))

pub push_filed : (L M : List Position) (D : ℕ → ℕ) (starts starts' : List (Option ℕ)) (us : List ℕ) (c y i : ℕ) (s s' : Option ℕ) (r : Bool) → s ≡ get_or starts c None → i ≡ y → starts' ≡ set starts c s'
    → ((l : List ℕ) → Holds L s l → r ≡ (ltb i (length L) && not (is_in (at L i)))) → (r ≡ true → Becomes (λ l. i ∷ l) L s M s') → OthersStay L s M → StatusStays i L M
    → D y ≡ c → has us y ≡ false → y < length L → c < length starts → Filed L D starts us → Filed M D starts' (y ∷ us)
push_filed L M D starts starts' us c y i s s' r se ie oe granted listed others status d n inside wide f =
    let h : Holds L s (of_class D c us) = subst (λ v. Holds L v (of_class D c us)) (sym se) (f.each c) in
    let a : ltb i (length L) ≡ true = ap (λ v. ltb v (length L)) ie ∙ lt-ltb y (length L) inside in
    let b : is_in (at L i) ≡ false = ap (λ v. is_in (at L v)) ie ∙ f.standing y ∙ n in
    let done : r ≡ true = granted (of_class D c us) h ∙ grind arith in
    rw oe (filed_in L M D starts us c y s' f d n wide
    (λ l q. subst (λ v. Holds M s' (v ∷ l)) ie (listed done l (subst (λ v. Holds L v l) (sym se) q)))
    (λ t k w o. others t k w (subst (λ v. Other t v) (sym se) o))
    (λ z q. status z (λ e. q (e ∙ ie))))

-- the front of a class is taken out
pub pop_filed : (L M : List Position) (D : ℕ → ℕ) (starts starts' : List (Option ℕ)) (us : List ℕ) (c x y : ℕ) → Some x ≡ get_or starts c None → y ≡ x
    → ((D : ℕ → ℕ) (us : List ℕ) → D y ≡ c → has us y ≡ true → Filed L D starts us → Filed M D starts' (without y us))
    → Filed L D starts us → (Some y ≡ first (of_class D c us)) × Filed M D starts' (without y us)
pop_filed L M D starts starts' us c x y e q removed f =
    let p : Some y ≡ first (of_class D c us) = ap Some q ∙ e ∙ (f.each c).starts in
    let k = first_keep (λ z. eqb (D z) c) us y (sym p) in
    (p, removed D us (eqb-true (D y) c k.1) k.0 f)
