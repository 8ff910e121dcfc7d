-- The touched nodes of renamed arcs are the renamed touched nodes; names that differ on the entries, made to differ everywhere.
use Rattle.std.proofs.Common.{◌≡◌, ℕ, ◌+◌, ◌<◌, ◌≤◌, Bool, true, false, cond, eqb, ltb, ◌≢◌, List, [], ◌∷◌, ◌++◌, map, sym, refl, ap, ◌∙◌, ⊎_elim, arith}
use Rattle.std.proofs.lemmas.List.{map-append}
use Rattle.std.proofs.lemmas.Bool.{cases_eq, cases_lt, cond-true, cond-false, eq-eqb, ne_eqb, lt-ltb, le-ltb}
use Rattle.network.specs.Counting.{has}
use Rattle.network.specs.Network.{Link, meet, meet_all, touched}
use Rattle.greedy_order.proofs.Renaming.{ren}

map_cond : {X Y : Type 0} (f : X → Y) (b : Bool) (x y : X) → f (cond b x y) ≡ cond b (f x) (f y)
map_cond f true x y = refl
map_cond f false x y = refl

module _ (f : ℕ → ℕ) (apart : (x y : ℕ) → eqb (f x) (f y) ≡ eqb x y) where
  has_ren : (us : List ℕ) (x : ℕ) → has (map f us) (f x) ≡ has us x
  has_ren [] x = refl
  has_ren (u ∷ us) x = let ih = has_ren us x in let e = apart u x in cc

  meet_ren : (x : ℕ) (met : List ℕ) → meet (f x) (map f met) ≡ map f (meet x met)
  meet_ren x met = let h = has_ren met x in let a = map-append f met (x ∷ []) in let c = map_cond (map f) (has met x) met (met ++ (x ∷ [])) in cc

  met_ren : (arcs : List Link) (met : List ℕ) → meet_all (ren f arcs) (map f met) ≡ map f (meet_all arcs met)
  met_ren [] met = refl
  met_ren (a ∷ arcs) met = ap (λ l. meet_all (ren f arcs) (meet (f a.1) l)) (meet_ren a.0 met) ∙ ap (meet_all (ren f arcs)) (meet_ren a.1 (meet a.0 met)) ∙ met_ren arcs (meet a.1 (meet a.0 met))

  pub touched_ren : (arcs : List Link) → touched (ren f arcs) ≡ map f (touched arcs)
  unfolding touched
  touched_ren arcs = met_ren arcs []

-- names that differ below n, made to differ everywhere
pub whole : ℕ → ℕ → (ℕ → ℕ) → ℕ → ℕ
whole n top name x = cond (ltb x n) (name x) (top + x)

pub whole_in : (n top : ℕ) (name : ℕ → ℕ) (x : ℕ) → x < n → whole n top name x ≡ name x
unfolding whole
whole_in n top name x l = cond-true (ltb x n) (name x) (top + x) (lt-ltb x n l)

pub whole_apart : (n top : ℕ) (name : ℕ → ℕ) → ((x : ℕ) → x < n → name x < top) → ((x y : ℕ) → x < n → y < n → name x ≡ name y → x ≡ y) → (x y : ℕ) → eqb (whole n top name x) (whole n top name y) ≡ eqb x y
unfolding whole
whole_apart n top name low apart x y = ⊎_elim
    (λ (e : x ≡ y). eq-eqb _ _ (ap (λ v. cond (ltb v n) (name v) (top + v)) e) ∙ sym (eq-eqb x y e))
    (λ (e : x ≢ y). ne_eqb _ _ (λ q. e (back q)) ∙ sym (ne_eqb x y e))
    (cases_eq x y)
  where
    at_in : (v : ℕ) → v < n → cond (ltb v n) (name v) (top + v) ≡ name v
    at_in v l = cond-true (ltb v n) (name v) (top + v) (lt-ltb v n l)

    at_out : (v : ℕ) → n ≤ v → cond (ltb v n) (name v) (top + v) ≡ top + v
    at_out v l = cond-false (ltb v n) (name v) (top + v) (le-ltb v n l)

    back : cond (ltb x n) (name x) (top + x) ≡ cond (ltb y n) (name y) (top + y) → x ≡ y
    back q = ⊎_elim
        (λ (a : x < n). ⊎_elim
        (λ (b : y < n). apart x y a b (sym (at_in x a) ∙ q ∙ at_in y b))
        (λ (b : n ≤ y). absurd (let u = at_in x a in let v = at_out y b in let w = low x a in omega arith))
        (cases_lt y n))
        (λ (a : n ≤ x). ⊎_elim
        (λ (b : y < n). absurd (let u = at_out x a in let v = at_in y b in let w = low y b in omega arith))
        (λ (b : n ≤ y). let u = at_out x a in let v = at_out y b in omega arith)
        (cases_lt y n))
        (cases_lt x n)
