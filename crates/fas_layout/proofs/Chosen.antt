-- Which node the classes give.
use Rattle.std.proofs.Common.{◌≡◌, ℕ, ◌+◌, ◌-◌, ◌*◌, ◌<◌, ◌≤◌, Bool, true, false, cond, not, ◌&&◌, eqb, ltb, List, [], ◌∷◌, Some, None, sym, refl, ap, ◌∙◌, ⊎_elim, arith}
use mathlib.Core.Option.{none, some}
use Rattle.std.proofs.lemmas.Bool.Decides.{nat_tests}
use Rattle.std.proofs.lemmas.Bool.{false≢true, true≢false, cases_Bool, cond-true, cond-false, ne_eqb, eqb-true, eqb-false, cases_lt, le-ltb, lt-ltb, ltb-true, ltb-false, and_parts}
use Rattle.linked_list.specs.Chains.{first}
use Rattle.network.specs.Counting.{one, keep, has, without}
use Rattle.network.specs.Network.{Link, from_to}
use Rattle.network.proofs.Sums.{has_without, has_head, has_tail}
use Rattle.greedy_order.specs.Part1Degrees.{out_degree, in_degree}
use Rattle.greedy_order.specs.Part2Greedy.{NoSink, NoSource}
use Rattle.greedy_order.specs.Part3Order.{below, after_taking}
use Rattle.greedy_order.specs.Part7Folded.{best_of, chosen, choose}
use Rattle.greedy_order.specs.Part7Folded as folded
use Rattle.greedy_order.proofs.Folded.{same_out, same_in}
use Rattle.greedy_order.proofs.Steps.{step_out, step_in}
use Rattle.fas_layout.specs.Columns.{class_of}
use Rattle.fas_layout.specs.Classes.{of_class}
use Rattle.fas_layout.specs.Stages.{class_in, Capped, lifted}
use Rattle.fas_layout.proofs.Filing.{keep_same, has_keep}
use Rattle.fas_layout.proofs.Counted.{has_taking}

first_some : (p : ℕ → Bool) (us : List ℕ) (x : ℕ) → first (keep p us) ≡ Some x → folded.first p us ≡ some x
first_some p [] x e = absurd (let z : ◌≡◌ {A = ℕ} 0 1 = cc in omega arith)
first_some p (u ∷ us) x e = go (p u) (first_some p us x) e
  where
    go : (b : Bool) → (first (keep p us) ≡ Some x → folded.first p us ≡ some x) → first (cond b (u ∷ keep p us) (keep p us)) ≡ Some x → cond b (some u) (folded.first p us) ≡ some x
    go true ih f = let q : u ≡ x = cc in ap some q
    go false ih f = ih f

first_none : (p : ℕ → Bool) (us : List ℕ) → ((y : ℕ) → has us y ≡ true → p y ≡ false) → folded.first p us ≡ none
first_none p [] h = refl
first_none p (u ∷ us) h = cond-false (p u) (some u) (folded.first p us) (h u (has_head u us)) ∙ first_none p us (λ y m. h y (has_tail u us y m))

pub keep_none : (p : ℕ → Bool) (us : List ℕ) → None ≡ first (keep p us) → (y : ℕ) → has us y ≡ true → p y ≡ false
keep_none p us e y m = ⊎_elim (λ (t : p y ≡ true). absurd (go (keep p us) e (has_keep p us y ∙ grind arith))) (λ t. t) (cases_Bool (p y))
  where
    go : (l : List ℕ) → None ≡ first l → has l y ≡ true → ⊥
    go [] f h = false≢true h
    go (x ∷ l) f h = let z : ◌≡◌ {A = ℕ} 0 1 = cc in omega arith

class_sink : (m o i : ℕ) → o ≤ m → i ≤ m → eqb (class_of m o i) 0 ≡ eqb o 0
class_sink m o i a b = grind (arith, nat_tests)

class_source : (m o i : ℕ) → 1 ≤ o → o ≤ m → i ≤ m → eqb (class_of m o i) (2 * m) ≡ eqb i 0
class_source m o i h a b = grind (arith, nat_tests)

pub class_diff : (m o i : ℕ) → 1 ≤ o → 1 ≤ i → class_of m o i ≡ (o + m) - i
class_diff m o i h k = cond-false (eqb o 0) 0 (cond (eqb i 0) (2 * m) ((o + m) - i)) (ne_eqb o 0 (λ e. omega arith)) ∙ cond-false (eqb i 0) (2 * m) ((o + m) - i) (ne_eqb i 0 (λ e. omega arith))

abbrev pub Few : ℕ → List Link → List ℕ → Type 0
Few m arcs us = (y : ℕ) → has us y ≡ true → (out_degree arcs us y ≤ m) × (in_degree arcs us y ≤ m)

module _ (m : ℕ) (arcs : List Link) (us : List ℕ) (few : Few m arcs us) where
  sinks : of_class (class_in m arcs us) 0 us ≡ keep (λ y. eqb (out_degree arcs us y) 0) us
  sinks = keep_same (λ y. eqb (class_in m arcs us y) 0) (λ y. eqb (out_degree arcs us y) 0) us (λ y h. class_sink m (out_degree arcs us y) (in_degree arcs us y) (few y h).0 (few y h).1)

  pub sources : NoSink arcs us → of_class (class_in m arcs us) (2 * m) us ≡ keep (λ y. eqb (in_degree arcs us y) 0) us
  sources ns = keep_same (λ y. eqb (class_in m arcs us y) (2 * m)) (λ y. eqb (in_degree arcs us y) 0) us (λ y h. class_source m (out_degree arcs us y) (in_degree arcs us y) (ns y h) (few y h).0 (few y h).1)

  pub no_sink : None ≡ first (of_class (class_in m arcs us) 0 us) → NoSink arcs us
  no_sink e y h = let q = eqb-false (out_degree arcs us y) 0 (keep_none (λ y. eqb (out_degree arcs us y) 0) us (e ∙ ap first sinks) y h) in ⊎_elim (λ l. absurd (q (omega arith))) (λ l. l) (cases_lt (out_degree arcs us y) 1)

  pub no_source : NoSink arcs us → None ≡ first (of_class (class_in m arcs us) (2 * m) us) → NoSource arcs us
  no_source ns e y h = let q = eqb-false (in_degree arcs us y) 0 (keep_none (λ y. eqb (in_degree arcs us y) 0) us (e ∙ ap first (sources ns)) y h) in ⊎_elim (λ l. absurd (q (omega arith))) (λ l. l) (cases_lt (in_degree arcs us y) 1)

pub pick_sink : (m : ℕ) (arcs : List Link) (u : ℕ) (vs : List ℕ) (x : ℕ) → Few m arcs (u ∷ vs) → Some x ≡ first (of_class (class_in m arcs (u ∷ vs)) 0 (u ∷ vs)) → choose arcs u vs ≡ (true, x)
unfolding choose
pick_sink m arcs u vs x few e =
    let us = u ∷ vs in
    let f = first_some (λ y. eqb (out_degree arcs us y) 0) us x (sym (e ∙ ap first (sinks m arcs us few))) in
    ap (λ o. chosen arcs us u vs o (folded.first (λ y. eqb (in_degree arcs us y) 0) us)) f

no_first_sink : (arcs : List Link) (us : List ℕ) → NoSink arcs us → folded.first (λ y. eqb (out_degree arcs us y) 0) us ≡ none
no_first_sink arcs us ns = first_none (λ y. eqb (out_degree arcs us y) 0) us (λ y h. ne_eqb (out_degree arcs us y) 0 (λ e. let q = ns y h in omega arith))

pub pick_source : (m : ℕ) (arcs : List Link) (u : ℕ) (vs : List ℕ) (x : ℕ) → Few m arcs (u ∷ vs) → NoSink arcs (u ∷ vs) → Some x ≡ first (of_class (class_in m arcs (u ∷ vs)) (2 * m) (u ∷ vs)) → choose arcs u vs ≡ (false, x)
unfolding choose
pick_source m arcs u vs x few ns e =
    let us = u ∷ vs in
    let f = first_some (λ y. eqb (in_degree arcs us y) 0) us x (sym (e ∙ ap first (sources m arcs us few ns))) in
    ap (λ o. chosen arcs us u vs o (folded.first (λ y. eqb (in_degree arcs us y) 0) us)) (no_first_sink arcs us ns) ∙ ap (λ o. chosen arcs us u vs none o) f

-- the first of the highest class is the first that none passes
best_first : (m : ℕ) (arcs : List Link) (us : List ℕ) (c u : ℕ) (vs : List ℕ) (x : ℕ)
    → ((y : ℕ) → has (u ∷ vs) y ≡ true → (in_degree arcs us y ≤ m) × (class_in m arcs us y ≡ (out_degree arcs us y + m) - in_degree arcs us y) × (class_in m arcs us y ≤ c))
    → first (of_class (class_in m arcs us) c (u ∷ vs)) ≡ Some x → best_of arcs us u vs ≡ x
best_first m arcs us c u [] x h e = go (eqb (class_in m arcs us u) c) e
  where
    go : (b : Bool) → first (cond b (u ∷ []) []) ≡ Some x → u ≡ x
    go true f = cc
    go false f = absurd (let z : ◌≡◌ {A = ℕ} 0 1 = cc in omega arith)
best_first m arcs us c u (v ∷ vs) x h e =
    ⊎_elim
    (λ (t : below arcs us u v ≡ true).
    let l = ltb-true _ _ t in
    let a0 = hu.0 in let a1 = hu.1 in let b0 = hv.0 in let b1 = hv.1 in let b2 = hv.2 in
    let ne : eqb (class_in m arcs us u) c ≡ false = ne_eqb (class_in m arcs us u) c (λ q. omega arith) in
    let f = sym (cond-false (eqb (class_in m arcs us u) c) (u ∷ of_class (class_in m arcs us) c (v ∷ vs)) (of_class (class_in m arcs us) c (v ∷ vs)) ne) in
    ap (λ z. best_of arcs us z vs) (cond-true _ v u t)
    ∙ best_first m arcs us c v vs x (λ y k. h y (has_tail u (v ∷ vs) y k)) (ap first f ∙ e))
    (λ (t : below arcs us u v ≡ false).
    let l = ltb-false _ _ t in
    ap (λ z. best_of arcs us z vs) (cond-false _ v u t)
    ∙ best_first m arcs us c u vs x (λ y k. h y (let q = k in grind arith)) (skip l e))
    (cases_Bool (below arcs us u v))
  where
    hu : (in_degree arcs us u ≤ m) × (class_in m arcs us u ≡ (out_degree arcs us u + m) - in_degree arcs us u) × (class_in m arcs us u ≤ c)
    hu = h u (has_head u (v ∷ vs))

    hv : (in_degree arcs us v ≤ m) × (class_in m arcs us v ≡ (out_degree arcs us v + m) - in_degree arcs us v) × (class_in m arcs us v ≤ c)
    hv = h v (has_tail u (v ∷ vs) v (has_head v vs))

    skip : out_degree arcs us v + in_degree arcs us u ≤ out_degree arcs us u + in_degree arcs us v → first (of_class (class_in m arcs us) c (u ∷ v ∷ vs)) ≡ Some x → first (of_class (class_in m arcs us) c (u ∷ vs)) ≡ Some x
    skip l f =
        let a0 = hu.0 in let a1 = hu.1 in let a2 = hu.2 in let b0 = hv.0 in let b1 = hv.1 in
        go (eqb (class_in m arcs us u) c) (eqb (class_in m arcs us v) c) (λ q. ne_eqb (class_in m arcs us v) c (λ w. eqb-false (class_in m arcs us u) c q (omega arith))) f
      where
        go : (b d : Bool) → (b ≡ false → d ≡ false) → first (cond b (u ∷ cond d (v ∷ of_class (class_in m arcs us) c vs) (of_class (class_in m arcs us) c vs)) (cond d (v ∷ of_class (class_in m arcs us) c vs) (of_class (class_in m arcs us) c vs))) ≡ Some x → first (cond b (u ∷ of_class (class_in m arcs us) c vs) (of_class (class_in m arcs us) c vs)) ≡ Some x
        go true d i g = g
        go false true i g = absurd (true≢false (i refl))
        go false false i g = g

pub pick_best : (m : ℕ) (arcs : List Link) (u : ℕ) (vs : List ℕ) (c x : ℕ) → Few m arcs (u ∷ vs) → NoSink arcs (u ∷ vs) → NoSource arcs (u ∷ vs) → ((y : ℕ) → has (u ∷ vs) y ≡ true → class_in m arcs (u ∷ vs) y ≤ c)
    → Some x ≡ first (of_class (class_in m arcs (u ∷ vs)) c (u ∷ vs)) → choose arcs u vs ≡ (false, x)
unfolding choose
pick_best m arcs u vs c x few ns nt top e =
    let us = u ∷ vs in
    let f = first_none (λ y. eqb (in_degree arcs us y) 0) us (λ y h. ne_eqb (in_degree arcs us y) 0 (λ q. let w = nt y h in omega arith)) in
    let b = best_first m arcs us c u vs x (λ y h. ((few y h).1, class_diff m (out_degree arcs us y) (in_degree arcs us y) (ns y h) (nt y h), top y h)) (sym e) in
    ap (λ o. chosen arcs us u vs o (folded.first (λ y. eqb (in_degree arcs us y) 0) us)) (no_first_sink arcs us ns) ∙ ap (λ o. chosen arcs us u vs none o) f ∙ ap (λ v. (false, v)) b

from_in : (arcs : List Link) (us : List ℕ) (x y : ℕ) → has us y ≡ true → from_to arcs y x ≤ in_degree arcs us x
unfolding from_to in_degree
from_in [] us x y h = omega arith
from_in (a ∷ arcs) us x y h = let ih = from_in arcs us x y h in let t = at_arc a.0 a.1 in omega arith
  where
    at_arc : (s t : ℕ) → one (eqb s y && eqb t x) ≤ one (eqb t x && has us s)
    at_arc s t = ⊎_elim
        (λ (e : eqb s y ≡ true). let q : has us s ≡ true = ap (has us) (eqb-true s y e) ∙ h in grind arith)
        (λ (e : eqb s y ≡ false). let q : one (eqb s y && eqb t x) ≡ 0 = ap (λ b. one (b && eqb t x)) e in omega arith)
        (cases_Bool (eqb s y))

from_out : (arcs : List Link) (us : List ℕ) (x y : ℕ) → has us y ≡ true → from_to arcs x y ≤ out_degree arcs us x
unfolding from_to out_degree
from_out [] us x y h = omega arith
from_out (a ∷ arcs) us x y h = let ih = from_out arcs us x y h in let t = at_arc a.0 a.1 in omega arith
  where
    at_arc : (s t : ℕ) → one (eqb s x && eqb t y) ≤ one (eqb s x && has us t)
    at_arc s t = ⊎_elim
        (λ (e : eqb t y ≡ true). let q : has us t ≡ true = ap (has us) (eqb-true t y e) ∙ h in grind arith)
        (λ (e : eqb t y ≡ false). grind arith)
        (cases_Bool (eqb t y))

-- taking x lifts the highest class by no more than its arcs out
pub capped_taken : (m : ℕ) (arcs : List Link) (us : List ℕ) (x top : ℕ) → Few m arcs us → has us x ≡ true → Capped m arcs top us → Capped m arcs (lifted m top (out_degree arcs us x)) (after_taking arcs x us)
capped_taken m arcs us x top few it cap y h o i =
    let k = sym (has_taking arcs x us y) ∙ h in
    let w = (and_parts (has us y) (not (eqb y x)) (sym (has_without x us y) ∙ k)).0 in
    let a = step_out arcs us x y it in
    let b = step_in arcs us x y it in
    let c = same_out arcs (after_taking arcs x us) (without x us) (has_taking arcs x us) y in
    let d = same_in arcs (after_taking arcs x us) (without x us) (has_taking arcs x us) y in
    let e = from_out arcs us x y w in
    let f0 = (few y w).0 in
    let f1 = (few y w).1 in
    let g = class_diff m (out_degree arcs (after_taking arcs x us) y) (in_degree arcs (after_taking arcs x us) y) o i in
    let g2 = class_diff m (out_degree arcs us y) (in_degree arcs us y) (omega arith) (omega arith) in
    let old = cap y w (omega arith) (omega arith) in
    ⊎_elim
    (λ (l : top < 2 * m). let q = cond-true (ltb top (2 * m)) (top + out_degree arcs us x) top (lt-ltb top (2 * m) l) in omega arith)
    (λ (l : 2 * m ≤ top). let q = cond-false (ltb top (2 * m)) (top + out_degree arcs us x) top (le-ltb top (2 * m) l) in omega arith)
    (cases_lt top (2 * m))

-- taking a source node makes no sink
pub source_no_sink : (arcs : List Link) (us : List ℕ) (x : ℕ) → has us x ≡ true → in_degree arcs us x ≡ 0 → NoSink arcs us → NoSink arcs (after_taking arcs x us)
source_no_sink arcs us x m z ns y h =
    let k = sym (has_taking arcs x us y) ∙ h in
    let w = (and_parts (has us y) (not (eqb y x)) (sym (has_without x us y) ∙ k)).0 in
    let a = step_out arcs us x y m in
    let b = from_in arcs us x y w in
    let c = same_out arcs (after_taking arcs x us) (without x us) (has_taking arcs x us) y in
    let d = ns y w in
    omega arith
