-- What stands at a place after a write.
use Rattle.std.proofs.Common.{◌≡◌, ℕ, ◌<◌, true, false, ◌⊎◌, List, length, Some, None, Option, sym, refl, ap, ◌∙◌, inl, inr, ⊎_elim}
use Rattle.std.proofs.lemmas.List.{length-set, get_or-set_same, get_or-set_other, get_or_past, set_past}
use Rattle.std.proofs.lemmas.Bool.{cases_lt, eq-eqb, ne_eqb, eqb-true, eqb-false, cond-true, cond-false, cases_Bool}
use Rattle.std.specs.Option.{option_map}
use Rattle.linked_list.specs.declared.position.LinkedListPosition.{LinkedListPosition}
use Rattle.linked_list.specs.Places.{Position, enlisted, is_in, prev_of, next_of, with_prev, with_next, names, at, changed, next_set}
use Rattle.linked_list.specs.Chains.{relinked, moved}

pub in_range : (L : List Position) (i : ℕ) (p n : Option ℕ) → at L i ≡ enlisted p n → i < length L
in_range L i p n e =
    ⊎_elim (λ h. h)
    (λ h. cc (get_or_past L i None h))
    (cases_lt i (length L))

pub names_some : (o : Option ℕ) (i : ℕ) → o ≡ Some i → names o i ≡ true
names_some None i e = cc
names_some (Some h) i e = eq-eqb h i (cc)

pub names_none : (o : Option ℕ) (i : ℕ) → (o ≡ Some i → ⊥) → names o i ≡ false
names_none None i n = refl
names_none (Some h) i n = ne_eqb h i (λ e. n (ap Some e))

pub named : (o : Option ℕ) (i : ℕ) → names o i ≡ true → o ≡ Some i
named None i e = cc
named (Some h) i e = ap Some (eqb-true h i e)

pub not_named : (o : Option ℕ) (i : ℕ) → names o i ≡ false → o ≡ Some i → ⊥
not_named None i e q = cc
not_named (Some h) i e q = eqb-false h i e (cc)

pub some_cases : (o : Option ℕ) (i : ℕ) → (o ≡ Some i) ⊎ (o ≡ Some i → ⊥)
some_cases o i = ⊎_elim (λ h. inl (named o i h)) (λ h. inr (not_named o i h)) (cases_Bool (names o i))

pub moved_there : (s : Option ℕ) (i : ℕ) (x : Option ℕ) → s ≡ Some i → moved s i x ≡ x
moved_there s i x e = cond-true (names s i) x s (names_some s i e)

pub moved_other : (s : Option ℕ) (i : ℕ) (x : Option ℕ) → (s ≡ Some i → ⊥) → moved s i x ≡ s
moved_other s i x n = cond-false (names s i) x s (names_none s i n)

-- ---- one write
pub changed_length : (f : LinkedListPosition → LinkedListPosition) (L : List Position) (o : Option ℕ) → length (changed f L o) ≡ length L
changed_length f L None = refl
changed_length f L (Some y) = length-set L y (option_map f (at L y))

pub changed_other : (f : LinkedListPosition → LinkedListPosition) (L : List Position) (o : Option ℕ) (z : ℕ) → (o ≡ Some z → ⊥) → at (changed f L o) z ≡ at L z
changed_other f L None z h = refl
changed_other f L (Some y) z h = get_or-set_other L y z (option_map f (at L y)) None (λ q. h (ap Some (sym q)))

-- out of range nothing is written, and all reads as in no list
pub changed_here : (f : LinkedListPosition → LinkedListPosition) (L : List Position) (o : Option ℕ) (z : ℕ) → o ≡ Some z → at (changed f L o) z ≡ option_map f (at L z)
changed_here f L o z e = ap (λ w. at (changed f L w) z) e ∙ ⊎_elim
    (λ h. get_or-set_same L z (option_map f (at L z)) None h)
    (λ h. let a = get_or_past L z None h in
    ap (λ w. at w z) (set_past L z (option_map f (at L z)) h) ∙ a ∙ sym (ap (option_map f) a))
    (cases_lt z (length L))

-- ---- what stays of an entry
map_in : (f : LinkedListPosition → LinkedListPosition) (p : Position) → is_in (option_map f p) ≡ is_in p
map_in f None = refl
map_in f (Some p) = refl

pub with_prev_next : (p : Position) (x : Option ℕ) → next_of (with_prev p x) ≡ next_of p
with_prev_next None x = refl
with_prev_next (Some p) x = refl

pub changed_in : (f : LinkedListPosition → LinkedListPosition) (L : List Position) (o : Option ℕ) (z : ℕ) → is_in (at (changed f L o) z) ≡ is_in (at L z)
changed_in f L o z = ⊎_elim
    (λ (h : o ≡ Some z). ap is_in (changed_here f L o z h) ∙ map_in f (at L z))
    (λ (h : o ≡ Some z → ⊥). ap is_in (changed_other f L o z h))
    (some_cases o z)

-- ---- both neighbours mended
pub relinked_length : (L : List Position) (p : Position) (x y : Option ℕ) → length (relinked L p x y) ≡ length L
relinked_length L p x y = changed_length _ (next_set L (prev_of p) x) (next_of p) ∙ changed_length _ L (prev_of p)

pub relinked_in : (L : List Position) (p : Position) (x y : Option ℕ) (z : ℕ) → is_in (at (relinked L p x y) z) ≡ is_in (at L z)
relinked_in L p x y z = changed_in _ (next_set L (prev_of p) x) (next_of p) z ∙ changed_in _ L (prev_of p) z

pub relinked_other : (L : List Position) (p : Position) (x y : Option ℕ) (z : ℕ) → (prev_of p ≡ Some z → ⊥) → (next_of p ≡ Some z → ⊥) → at (relinked L p x y) z ≡ at L z
relinked_other L p x y z a b = changed_other _ (next_set L (prev_of p) x) (next_of p) z b ∙ changed_other _ L (prev_of p) z a

pub relinked_left : (L : List Position) (p : Position) (x y : Option ℕ) (z : ℕ) → prev_of p ≡ Some z → (next_of p ≡ Some z → ⊥) → at (relinked L p x y) z ≡ with_next (at L z) x
relinked_left L p x y z a b = changed_other _ (next_set L (prev_of p) x) (next_of p) z b ∙ changed_here _ L (prev_of p) z a

pub relinked_right : (L : List Position) (p : Position) (x y : Option ℕ) (z : ℕ) → (prev_of p ≡ Some z → ⊥) → next_of p ≡ Some z → at (relinked L p x y) z ≡ with_prev (at L z) y
relinked_right L p x y z a b =
    changed_here _ (next_set L (prev_of p) x) (next_of p) z b ∙ ap (λ w. with_prev w y) (changed_other _ L (prev_of p) z a)
