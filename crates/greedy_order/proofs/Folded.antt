-- The folded form makes a greedy order.
use Rattle.std.proofs.Common.{◌≡◌, ℕ, zero, suc, ◌+◌, ◌≤◌, Bool, true, false, cond, eqb, List, [], ◌∷◌, reverse, length, sym, refl, ◌∙◌, ⊎_elim, arith}
use mathlib.Core.Option.{Option, none, some}
use Rattle.std.proofs.lemmas.List.{length-reverse}
use Rattle.std.proofs.lemmas.Bool.Decides.{nat_tests}
use Rattle.std.proofs.lemmas.Bool.{or_cases, or_left, eqb-true, false≢true, ltb-true, ltb-false}
use Rattle.network.specs.Counting.{has, without, EachOnce}
use Rattle.network.specs.Network.{Link, touched}
use Rattle.network.proofs.Sums.{has_head, has_tail, has_without, has_reverse, once_without, once_reverse, length_without}
use Rattle.network.proofs.Touched.{touched_once}
use Rattle.greedy_order.specs.Part1Degrees.{out_degree, in_degree}
use Rattle.greedy_order.specs.Part2Greedy.{Greedy, done, sink, source, best, NoSink, NoSource}
use Rattle.greedy_order.specs.Part3Order.{below, to_front, all_to_front, out_neighbours, in_neighbours, after_taking}
use Rattle.greedy_order.specs.Part7Folded.{first, best_of, chosen, choose, put, run, folded_order}

-- two lists of the same nodes
abbrev pub Same : List ℕ → List ℕ → Type 0
Same us vs = (y : ℕ) → has us y ≡ has vs y

pub same_out : (arcs : List Link) (us vs : List ℕ) → Same us vs → (x : ℕ) → out_degree arcs us x ≡ out_degree arcs vs x
unfolding out_degree
same_out [] us vs h x = refl
same_out (a ∷ arcs) us vs h x = let ih = same_out arcs us vs h x in let e = h a.1 in grind arith

pub same_in : (arcs : List Link) (us vs : List ℕ) → Same us vs → (x : ℕ) → in_degree arcs us x ≡ in_degree arcs vs x
unfolding in_degree
same_in [] us vs h x = refl
same_in (a ∷ arcs) us vs h x = let ih = same_in arcs us vs h x in let e = h a.0 in grind arith

pub same_without : (x : ℕ) (us vs : List ℕ) → Same us vs → Same (without x us) (without x vs)
same_without x us vs h y = let a = has_without x us y in let b = has_without x vs y in let e = h y in grind arith

same_none : (vs : List ℕ) → Same [] vs → vs ≡ []
same_none [] h = refl
same_none (v ∷ vs) h = absurd (false≢true (h v ∙ has_head v vs))

-- the greedy rule does not look at the list's order
pub greedy_same : {arcs : List Link} {us order : List ℕ} → Greedy arcs us order → (vs : List ℕ) → Same us vs → Greedy arcs vs order
greedy_same {arcs} done vs h = rw (same_none vs h) done
greedy_same {arcs} (sink {untaken = us} {rest} x m z g) vs h = sink x (sym (h x) ∙ m) (sym (same_out arcs us vs h x) ∙ z) (greedy_same g (without x vs) (same_without x us vs h))
greedy_same {arcs} (source {untaken = us} {rest} x m ns z g) vs h =
    source x (sym (h x) ∙ m) (λ y k. let l = ns y (h y ∙ k) in omega (arith, same_out arcs us vs h y)) (sym (same_in arcs us vs h x) ∙ z) (greedy_same g (without x vs) (same_without x us vs h))
greedy_same {arcs} (best {untaken = us} {rest} x m ns nt high g) vs h =
    best x (sym (h x) ∙ m) (λ y k. let l = ns y (h y ∙ k) in omega (arith, same_out arcs us vs h y)) (λ y k. let l = nt y (h y ∙ k) in omega (arith, same_in arcs us vs h y))
    (λ y k. let l = high y (h y ∙ k) in omega (arith, same_out arcs us vs h y, same_in arcs us vs h y, same_out arcs us vs h x, same_in arcs us vs h x))
    (greedy_same g (without x vs) (same_without x us vs h))

-- raising keeps the nodes, that each stands once, and how many there are
pub record Kept (us vs : List ℕ) : Type 0 where
  pub same : Same us vs
  pub once : EachOnce vs
  pub long : length vs ≡ length us

front_kept : (y : ℕ) (us vs : List ℕ) → Kept us vs → Kept us (to_front y vs)
front_kept y us vs k = go (has vs y) refl
  where
    go : (b : Bool) → has vs y ≡ b → Kept us (cond b (y ∷ without y vs) vs)
    go true e = record {
      same = λ z. let l = has_without y vs z in let s = k.same z in grind (arith, nat_tests);
      once = (let l = has_without y vs y in grind (arith, nat_tests), once_without y vs k.once);
      long = omega (arith, k.long, length_without y vs k.once e);
    }
    go false e = k

all_kept : (ys us vs : List ℕ) → Kept us vs → Kept us (all_to_front ys vs)
all_kept [] us vs k = k
all_kept (y ∷ ys) us vs k = all_kept ys us (to_front y vs) (front_kept y us vs k)

pub taking_kept : (arcs : List Link) (x : ℕ) (us : List ℕ) → EachOnce us → Kept (without x us) (after_taking arcs x us)
unfolding after_taking
taking_kept arcs x us h = all_kept (in_neighbours arcs x) (without x us) (all_to_front (out_neighbours arcs x) (without x us)) (all_kept (out_neighbours arcs x) (without x us) (without x us) (record { same = λ y. refl; once = once_without x us h; long = refl }))

pub length_taking : (arcs : List Link) (x : ℕ) (us : List ℕ) → EachOnce us → has us x ≡ true → length (after_taking arcs x us) + 1 ≡ length us
length_taking arcs x us h m = let k = taking_kept arcs x us h in omega (arith, k.long, length_without x us h m)

pub first_some : (test : ℕ → Bool) (us : List ℕ) (x : ℕ) → first test us ≡ some x → (has us x ≡ true) × (test x ≡ true)
first_some test [] x e = absurd (let z : ◌≡◌ {A = ℕ} 0 1 = cc in omega arith)
first_some test (u ∷ us) x e = go (test u) refl (first_some test us x) e
  where
    go : (b : Bool) → test u ≡ b → (first test us ≡ some x → (has us x ≡ true) × (test x ≡ true)) → cond b (some u) (first test us) ≡ some x → (has (u ∷ us) x ≡ true) × (test x ≡ true)
    go true t ih f = let s : u ≡ x = cc in (rw (← s) (has_head u us), rw (← s) t)
    go false t ih f = let r = ih f in (has_tail u us x r.0, r.1)

pub first_none : (test : ℕ → Bool) (us : List ℕ) → first test us ≡ none → (y : ℕ) → has us y ≡ true → test y ≡ false
first_none test [] e y m = absurd (false≢true m)
first_none test (u ∷ us) e y m = go (test u) refl (first_none test us) e
  where
    go : (b : Bool) → test u ≡ b → (first test us ≡ none → (y : ℕ) → has us y ≡ true → test y ≡ false) → cond b (some u) (first test us) ≡ none → test y ≡ false
    go true t ih f = absurd (let z : ◌≡◌ {A = ℕ} 0 1 = cc in omega arith)
    go false t ih f = ⊎_elim (λ q. let s : u ≡ y = eqb-true u y q in rw (← s) t) (λ q. ih f y q) (or_cases (eqb u y) (has us y) m)

pub record Top (arcs : List Link) (us : List ℕ) (x : ℕ) (ys : List ℕ) (r : ℕ) : Type 0 where
  pub here : has (x ∷ ys) r ≡ true
  pub most : (y : ℕ) → has (x ∷ ys) y ≡ true → out_degree arcs us y + in_degree arcs us r ≤ out_degree arcs us r + in_degree arcs us y

pub top : (arcs : List Link) (us : List ℕ) (x : ℕ) (ys : List ℕ) → Top arcs us x ys (best_of arcs us x ys)
top arcs us x [] = record { here = has_head x []; most = λ y m. let e : x ≡ y = grind (arith, nat_tests) in rw e (omega arith) }
top arcs us x (y ∷ ys) = go (below arcs us x y) refl (λ z. top arcs us z ys)
  where
    go : (b : Bool) → below arcs us x y ≡ b → ((z : ℕ) → Top arcs us z ys (best_of arcs us z ys)) → Top arcs us x (y ∷ ys) (best_of arcs us (cond b y x) ys)
    go true t ih =
        let k = ih y in
        let r : ℕ = best_of arcs us y ys in
        let l = ltb-true (out_degree arcs us x + in_degree arcs us y) (out_degree arcs us y + in_degree arcs us x) t in
        let at = k.most y (has_head y ys) in
        record {
          here = has_tail x (y ∷ ys) r k.here;
          most = λ w m. ⊎_elim (λ (q : eqb x w ≡ true). let e : x ≡ w = eqb-true x w q in rw (← e) (omega arith)) (λ q. k.most w q) (or_cases (eqb x w) (has (y ∷ ys) w) m);
        }
    go false t ih =
        let k = ih x in
        let r : ℕ = best_of arcs us x ys in
        let l = ltb-false (out_degree arcs us x + in_degree arcs us y) (out_degree arcs us y + in_degree arcs us x) t in
        let at = k.most x (has_head x ys) in
        record {
          here = let f = k.here in grind arith;
          most = λ w m. ⊎_elim
              (λ q. k.most w (or_left (eqb x w) (has ys w) q))
              (λ (q : has (y ∷ ys) w ≡ true). ⊎_elim (λ (p : eqb y w ≡ true). let e : y ≡ w = eqb-true y w p in rw (← e) (omega arith)) (λ p. k.most w (has_tail x ys w p)) (or_cases (eqb y w) (has ys w) q))
              (or_cases (eqb x w) (has (y ∷ ys) w) m);
        }

-- what is chosen may be taken
pub record Right (arcs : List Link) (us : List ℕ) (c : Bool × ℕ) : Type 0 where
  pub here : has us c.1 ≡ true
  pub takes : (rest : List ℕ) → Greedy arcs (without c.1 us) rest → Greedy arcs us (put c rest)

pub some_arc : (n : ℕ) → eqb n 0 ≡ false → 1 ≤ n
some_arc n e = grind (arith, nat_tests)

chosen_right : (arcs : List Link) (u : ℕ) (vs : List ℕ) (o s : Option ℕ) → first (λ x. eqb (out_degree arcs (u ∷ vs) x) 0) (u ∷ vs) ≡ o → first (λ x. eqb (in_degree arcs (u ∷ vs) x) 0) (u ∷ vs) ≡ s → Right arcs (u ∷ vs) (chosen arcs (u ∷ vs) u vs o s)
chosen_right arcs u vs (some x) s e f =
    let us = u ∷ vs in
    let k = first_some (λ x. eqb (out_degree arcs us x) 0) us x e in
    record { here = k.0; takes = λ rest g. sink x k.0 (eqb-true (out_degree arcs us x) 0 k.1) g }
chosen_right arcs u vs none (some x) e f =
    let us = u ∷ vs in
    let k = first_some (λ x. eqb (in_degree arcs us x) 0) us x f in
    let ns : NoSink arcs us = λ y m. some_arc (out_degree arcs us y) (first_none (λ x. eqb (out_degree arcs us x) 0) us e y m) in
    record { here = k.0; takes = λ rest g. source x k.0 ns (eqb-true (in_degree arcs us x) 0 k.1) g }
chosen_right arcs u vs none none e f =
    let us = u ∷ vs in
    let k = top arcs us u vs in
    let ns : NoSink arcs us = λ y m. some_arc (out_degree arcs us y) (first_none (λ x. eqb (out_degree arcs us x) 0) us e y m) in
    let nt : NoSource arcs us = λ y m. some_arc (in_degree arcs us y) (first_none (λ x. eqb (in_degree arcs us x) 0) us f y m) in
    record { here = k.here; takes = λ rest g. best (best_of arcs us u vs) k.here ns nt k.most g }

choose_right : (arcs : List Link) (u : ℕ) (vs : List ℕ) → Right arcs (u ∷ vs) (choose arcs u vs)
unfolding choose
choose_right arcs u vs = chosen_right arcs u vs _ _ refl refl

pub run_greedy : (arcs : List Link) (n : ℕ) (us : List ℕ) → EachOnce us → length us ≡ n → Greedy arcs us (run arcs n us)
run_greedy arcs zero [] h e = done
run_greedy arcs zero (u ∷ vs) h e = absurd (omega arith)
run_greedy arcs (suc n) [] h e = done
run_greedy arcs (suc n) (u ∷ vs) h e =
    let us = u ∷ vs in
    let x : ℕ = (choose arcs u vs).1 in
    let r = choose_right arcs u vs in
    let k = taking_kept arcs x us h in
    let g = run_greedy arcs n (after_taking arcs x us) k.once (let l = length_taking arcs x us h r.here in omega arith) in
    r.takes (run arcs n (after_taking arcs x us)) (greedy_same g (without x us) (λ y. sym (k.same y)))

pub folded_greedy : (arcs : List Link) → Greedy arcs (touched arcs) (folded_order arcs)
unfolding folded_order
folded_greedy arcs =
    let us = touched arcs in
    greedy_same (run_greedy arcs (length us) (reverse us) (once_reverse us (touched_once arcs)) (length-reverse us)) us (has_reverse us)
