-- Being in a list of indices.
use Rattle.std.proofs.Common.{◌≡◌, ℕ, true, false, ◌||◌, eqb, ◌≢◌, List, [], ◌∷◌, ◌++◌, Some, sym, refl, ap, ◌∙◌, subst, ⊎_elim, arith}
use Rattle.std.proofs.lemmas.Bool.{eq-eqb, ne_eqb, eqb-false, cond-true, cond-false, cond_both, cases_Bool, both_ways, or_parts, or_from, or_left, or_right}
use Rattle.linked_list.specs.Chains.{has, first, spliced}

pub none_first : (x : ℕ) (l : List ℕ) (j : ℕ) → has (x ∷ l) j ≡ false → j ≢ x
none_first x l j h e = eqb-false x j (or_parts (eqb x j) (has l j) h).0 (sym e)

pub none_rest : (x : ℕ) (l : List ℕ) (j : ℕ) → has (x ∷ l) j ≡ false → has l j ≡ false
none_rest x l j h = (or_parts (eqb x j) (has l j) h).1

pub none_cons : (x : ℕ) (l : List ℕ) (j : ℕ) → j ≢ x → has l j ≡ false → has (x ∷ l) j ≡ false
none_cons x l j n h = or_from (eqb x j) (has l j) (ne_eqb x j (λ e. n (sym e))) h

pub has_head : (x : ℕ) (l : List ℕ) → has (x ∷ l) x ≡ true
has_head x l = or_left (eqb x x) (has l x) (eq-eqb x x refl)

pub has_tail : (x : ℕ) (l : List ℕ) (j : ℕ) → has l j ≡ true → has (x ∷ l) j ≡ true
has_tail x l j h = or_right (eqb x j) (has l j) h

pub has_first : (l : List ℕ) (i : ℕ) → first l ≡ Some i → has l i ≡ true
has_first [] i e = cc
has_first (x ∷ l) i e = let q : x ≡ i = cc in subst (λ z. has (x ∷ l) z ≡ true) q (has_head x l)

-- what is not in l is not the first of l
pub first_not : (l : List ℕ) (i : ℕ) → has l i ≡ false → first l ≡ Some i → ⊥
first_not l i h e = both_ways (has l i) h (has_first l i e)

pub has_not : (l : List ℕ) (i : ℕ) → (has l i ≡ false → ⊥) → has l i ≡ true
has_not l i n = ⊎_elim (λ h. h) (λ h. absurd (n h)) (cases_Bool (has l i))

pub none_not : (l : List ℕ) (i : ℕ) → (has l i ≡ true → ⊥) → has l i ≡ false
none_not l i n = ⊎_elim (λ h. absurd (n h)) (λ h. h) (cases_Bool (has l i))

pub has_append : (a b : List ℕ) (i : ℕ) → has (a ++ b) i ≡ (has a i || has b i)
has_append [] b i = refl
has_append (x ∷ a) b i = let e = has_append a b i in grind arith

-- what splicing comes to
pub spliced_here : (i : ℕ) (mid l : List ℕ) (x : ℕ) → x ≡ i → spliced i mid (x ∷ l) ≡ mid ++ l
spliced_here i mid l x e = cond-true (eqb x i) (mid ++ l) (x ∷ spliced i mid l) (eq-eqb x i e)

pub spliced_later : (i : ℕ) (mid l : List ℕ) (x : ℕ) → x ≢ i → spliced i mid (x ∷ l) ≡ x ∷ spliced i mid l
spliced_later i mid l x e = cond-false (eqb x i) (mid ++ l) (x ∷ spliced i mid l) (ne_eqb x i e)

pub spliced_none : (i : ℕ) (mid l : List ℕ) → has l i ≡ false → spliced i mid l ≡ l
spliced_none i mid [] h = refl
spliced_none i mid (x ∷ l) h = spliced_later i mid l x (λ e. none_first x l i h (sym e)) ∙ ap (λ z. x ∷ z) (spliced_none i mid l (none_rest x l i h))

pub none_spliced : (i : ℕ) (mid l : List ℕ) (j : ℕ) → has mid j ≡ false → has l j ≡ false → has (spliced i mid l) j ≡ false
none_spliced i mid [] j m h = refl
none_spliced i mid (x ∷ l) j m h =
    cond_both (eqb x i) (mid ++ l) (x ∷ spliced i mid l) (λ z. has z j ≡ false)
    (λ _. has_append mid l j ∙ or_from (has mid j) (has l j) m (none_rest x l j h))
    (λ _. none_cons x (spliced i mid l) j (none_first x l j h) (none_spliced i mid l j m (none_rest x l j h)))

pub first_spliced : (i : ℕ) (mid l : List ℕ) → (first l ≡ Some i → ⊥) → first (spliced i mid l) ≡ first l
first_spliced i mid [] n = refl
first_spliced i mid (x ∷ l) n = ap first (spliced_later i mid l x (λ e. n (ap Some e)))
