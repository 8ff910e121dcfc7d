-- Sums over lists, and lists of nodes.
use Rattle.std.proofs.Common.{◌≡◌, ℕ, ◌+◌, ◌≤◌, Bool, true, false, cond, not, ◌&&◌, ◌||◌, eqb, List, [], ◌∷◌, ◌++◌, reverse, length, refl, ⊎_elim, arith}
use mathlib.Core.List.{reverse_aux}
use Rattle.std.proofs.lemmas.Bool.Decides.{nat_tests}
use Rattle.std.proofs.lemmas.Bool.{or_right, or_cases, eqb-true, false≢true}
use Rattle.network.specs.Counting.{one, total, count, has, without, EachOnce}

-- ---- sums

pub total_add : {X : Type 0} (f g : X → ℕ) (xs : List X) → total (λ x. f x + g x) xs ≡ total f xs + total g xs
total_add f g [] = omega arith
total_add f g (x ∷ xs) = let ih = total_add f g xs in omega arith

pub total_same : {X : Type 0} (f g : X → ℕ) → ((x : X) → f x ≡ g x) → (xs : List X) → total f xs ≡ total g xs
total_same f g e [] = refl
total_same f g e (x ∷ xs) = let ih = total_same f g e xs in omega (arith, e x)

pub total_none : {X : Type 0} (xs : List X) → total (λ x. 0) xs ≡ 0
total_none [] = refl
total_none (x ∷ xs) = omega (arith, total_none xs)

-- ---- the nodes of a list

pub has_head : (x : ℕ) (xs : List ℕ) → has (x ∷ xs) x ≡ true
has_head x xs = grind (arith, nat_tests)

pub has_tail : (x : ℕ) (xs : List ℕ) (y : ℕ) → has xs y ≡ true → has (x ∷ xs) y ≡ true
has_tail x xs y h = or_right (eqb x y) (has xs y) h

pub has_append : (xs ys : List ℕ) (y : ℕ) → has (xs ++ ys) y ≡ (has xs y || has ys y)
has_append [] ys y = refl
has_append (x ∷ xs) ys y = let ih = has_append xs ys y in grind arith

pub has_without : (x : ℕ) (us : List ℕ) (y : ℕ) → has (without x us) y ≡ (has us y && not (eqb y x))
has_without x [] y = refl
has_without x (z ∷ us) y = let ih = has_without x us y in grind (arith, nat_tests)

pub without_none : (x : ℕ) (us : List ℕ) → has us x ≡ false → without x us ≡ us
without_none x [] h = refl
without_none x (y ∷ us) h = let ih = without_none x us in grind arith

pub once_without : (x : ℕ) (us : List ℕ) → EachOnce us → EachOnce (without x us)
once_without x [] h = tt
once_without x (y ∷ us) h = go (eqb y x) (once_without x us h.1)
  where
    fresh : has (without x us) y ≡ false
    fresh = let e = h.0 in grind (arith, has_without x us y)

    go : (b : Bool) → EachOnce (without x us) → EachOnce (cond b (without x us) (y ∷ without x us))
    go true ih = ih
    go false ih = (fresh, ih)

pub length_without : (y : ℕ) (us : List ℕ) → EachOnce us → has us y ≡ true → length (without y us) + 1 ≡ length us
length_without y [] h m = absurd (false≢true m)
length_without y (u ∷ us) h m = let ih = length_without y us h.1 in let e = h.0 in let n = without_none y us in grind (arith, nat_tests)

pub once_push : (xs : List ℕ) (x : ℕ) → EachOnce xs → has xs x ≡ false → EachOnce (xs ++ (x ∷ []))
once_push [] x h n = (refl, tt)
once_push (y ∷ xs) x h n =
    let a = has_append xs (x ∷ []) y in
    let e = h.0 in
    (grind (arith, nat_tests), once_push xs x h.1 (grind arith))

reverse_onto : (xs ys : List ℕ) (y : ℕ) → has (reverse_aux xs ys) y ≡ (has xs y || has ys y)
reverse_onto [] ys y = refl
reverse_onto (x ∷ xs) ys y = let ih = reverse_onto xs (x ∷ ys) y in grind arith

pub has_reverse : (xs : List ℕ) (y : ℕ) → has (reverse xs) y ≡ has xs y
has_reverse xs y = let e = reverse_onto xs [] y in grind arith

once_onto : (xs ys : List ℕ) → EachOnce xs → EachOnce ys → ((y : ℕ) → has xs y ≡ true → has ys y ≡ false) → EachOnce (reverse_aux xs ys)
once_onto [] ys h k d = k
once_onto (x ∷ xs) ys h k d =
    once_onto xs (x ∷ ys) h.1 (d x (has_head x xs), k) (λ y m. let e = d y (has_tail x xs y m) in let f = h.0 in let t = eqb-true x y in grind (arith, nat_tests))

pub once_reverse : (xs : List ℕ) → EachOnce xs → EachOnce (reverse xs)
once_reverse xs h = once_onto xs [] h tt (λ y m. refl)

-- ---- sums over the nodes of a list

pub total_le : (f g : ℕ → ℕ) (xs : List ℕ) → ((x : ℕ) → has xs x ≡ true → f x ≤ g x) → total f xs ≤ total g xs
total_le f g [] h = omega arith
total_le f g (x ∷ xs) h = let ih = total_le f g xs (λ y e. h y (has_tail x xs y e)) in omega (arith, h x (has_head x xs))

-- each place is strict and there is one, so the sum is strict
pub total_lt : (f g : ℕ → ℕ) (xs : List ℕ) (x : ℕ) → has xs x ≡ true → ((x : ℕ) → has xs x ≡ true → f x + 1 ≤ g x) → total f xs + 1 ≤ total g xs
total_lt f g [] x m h = absurd (false≢true m)
total_lt f g (y ∷ xs) x m h = let le = total_le f g xs (λ z e. omega (arith, h z (has_tail y xs z e))) in omega (arith, h y (has_head y xs))

-- where f is nowhere above g and the sums are equal, f and g are equal everywhere
pub total_tight : (f g : ℕ → ℕ) (xs : List ℕ) → ((x : ℕ) → has xs x ≡ true → f x ≤ g x) → total g xs ≤ total f xs → (x : ℕ) → has xs x ≡ true → g x ≤ f x
total_tight f g [] h e x m = absurd (false≢true m)
total_tight f g (y ∷ xs) h e x m =
    let le = total_le f g xs (λ z k. h z (has_tail y xs z k)) in
    let at = h y (has_head y xs) in
    let ih = total_tight f g xs (λ z k. h z (has_tail y xs z k)) (omega arith) x in
    let here : g y ≤ f y = omega arith in
    ⊎_elim (λ k. let e : y ≡ x = eqb-true y x k in rw e at here) ih (or_cases (eqb y x) (has xs x) m)

-- a node that stands once is counted once
pub total_at : (us : List ℕ) → EachOnce us → (s : ℕ) (b : Bool) → total (λ y. one (eqb s y && b)) us ≡ one (has us s && b)
total_at [] h s b = refl
total_at (y ∷ us) h s b = let ih = total_at us h.1 s b in let e = h.0 in grind (arith, nat_tests)

-- a sum, with the part of x apart
pub total_without : (f : ℕ → ℕ) (x : ℕ) (us : List ℕ) → EachOnce us → has us x ≡ true → total f us ≡ f x + total f (without x us)
total_without f x [] h m = absurd (false≢true m)
total_without f x (y ∷ us) h m =
    let ih = total_without f x us h.1 in
    let e = h.0 in
    let same = without_none x us in
    grind (arith, nat_tests)

pub count_none : (p : ℕ → Bool) (us : List ℕ) → count p us ≡ 0 → (y : ℕ) → has us y ≡ true → p y ≡ false
count_none p [] z y m = absurd (false≢true m)
count_none p (x ∷ us) z y m = let ih = count_none p us in let e = eqb-true x y in grind (arith, nat_tests, ih (omega arith) y)

pub none_count : (p : ℕ → Bool) (us : List ℕ) → ((y : ℕ) → has us y ≡ true → p y ≡ false) → count p us ≡ 0
none_count p [] h = refl
none_count p (x ∷ us) h = let ih = none_count p us (λ y m. h y (has_tail x us y m)) in let e = h x (has_head x us) in grind arith
