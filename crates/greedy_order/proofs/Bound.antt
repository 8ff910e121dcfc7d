-- The bound on the held arcs, by an account of what each taking needs and brings.
use Rattle.std.proofs.Common.{◌≡◌, ℕ, ◌+◌, ◌-◌, ◌*◌, ◌<◌, ◌≤◌, Bool, true, false, cond, ◌&&◌, eqb, ltb, ◌⊎◌, List, [], ◌∷◌, ◌++◌, length, refl, ap, ◌∙◌, inl, inr, ⊎_elim, arith}
use Rattle.std.proofs.lemmas.Bool.Decides.{nat_tests, leb_tells}
use Rattle.std.proofs.lemmas.Bool.{eqb-true, false≢true, cases_lt}
use Rattle.network.specs.Counting.{one, total, count, has, without, EachOnce}
use Rattle.network.specs.Network.{Link, from_to, two_way, pairs_among}
use Rattle.network.proofs.Sums.{total_add, total_same, total_le, total_none, total_at, total_without, count_none, has_head, has_tail, has_without, without_none, once_without}
use Rattle.greedy_order.specs.Part1Degrees.{out_degree, in_degree}
use Rattle.greedy_order.specs.Part2Greedy.{Greedy, done, sink, source, best, NoSink, NoSource, Highest}
use Rattle.greedy_order.proofs.Steps.{arcs_in, loops_in, held_in, step_arcs, step_loops, step_front, step_back, step_out, step_in, highest_sign, highest_level, held_none}
use Rattle.greedy_order.proofs.Orders.{greedy_has}

-- the nodes of us with an arc inside us
unfoldable pub live : List Link → List ℕ → ℕ
live arcs us = count (λ y. ltb 0 (out_degree arcs us y + in_degree arcs us y)) us

live_none : (arcs : List Link) → live arcs [] ≡ 0
unfolding live
live_none arcs = refl

one_pos : (n : ℕ) → ((n ≡ 0) × (one (ltb 0 n) ≡ 0)) ⊎ ((1 ≤ n) × (one (ltb 0 n) ≡ 1))
one_pos n = ⊎_elim (λ k. inr (k.1, ap one k.0)) (λ k. inl (omega (arith, k.1), ap one k.0)) (leb_tells 1 n)

paid_or_none : (o i l p : ℕ) → i ≤ o → (1 ≤ (o - i) + l + p) ⊎ ((o ≡ i) × (l ≡ 0) × (p ≡ 0))
paid_or_none o i l p h = ⊎_elim (λ k. inr (omega arith, omega arith, omega arith)) (λ k. inl (omega arith)) (cases_lt ((o - i) + l + p) 1)

and_swap : (a b : Bool) → one (a && b) ≡ one (b && a)
and_swap a b = grind arith

in_from : (arcs : List Link) (vs : List ℕ) → EachOnce vs → (x : ℕ) → total (λ y. from_to arcs y x) vs ≡ in_degree arcs vs x
unfolding from_to in_degree
in_from [] vs h x = total_none vs
in_from (a ∷ arcs) vs h x =
    let ih = in_from arcs vs h x in
    total_add (λ y. one (eqb a.0 y && eqb a.1 x)) (λ y. from_to arcs y x) vs ∙ omega (arith, total_at vs h a.0 (eqb a.1 x), and_swap (has vs a.0) (eqb a.1 x))

out_to : (arcs : List Link) (vs : List ℕ) → EachOnce vs → (x : ℕ) → total (λ y. from_to arcs x y) vs ≡ out_degree arcs vs x
unfolding from_to out_degree
out_to [] vs h x = total_none vs
out_to (a ∷ arcs) vs h x =
    let ih = out_to arcs vs h x in
    let turn = total_same (λ y. one (eqb a.0 x && eqb a.1 y)) (λ y. one (eqb a.1 y && eqb a.0 x)) (λ y. and_swap (eqb a.0 x) (eqb a.1 y)) vs in
    total_add (λ y. one (eqb a.0 x && eqb a.1 y)) (λ y. from_to arcs x y) vs ∙ omega (arith, total_at vs h a.1 (eqb a.0 x), and_swap (has vs a.1) (eqb a.0 x))

-- what a taking isolates: at most a node for each of its arcs
live_any : (arcs : List Link) (us : List ℕ) (x : ℕ) → EachOnce us → has us x ≡ true → live arcs us ≤ live arcs (without x us) + one (ltb 0 (out_degree arcs us x + in_degree arcs us x)) + (out_degree arcs us x + in_degree arcs us x)
unfolding live
live_any arcs us x h m =
    let vs = without x us in
    let k = once_without x us h in
    let f : ℕ → ℕ = λ y. one (ltb 0 (out_degree arcs us y + in_degree arcs us y)) in
    let g : ℕ → ℕ = λ y. one (ltb 0 (out_degree arcs vs y + in_degree arcs vs y)) in
    let b : ℕ → ℕ = λ y. from_to arcs y x + from_to arcs x y in
    let le : total f vs ≤ total (λ y. g y + b y) vs = total_le f (λ y. g y + b y) vs (λ y e. let o = step_out arcs us x y m in let i = step_in arcs us x y m in grind (arith, nat_tests)) in
    omega (arith, total_without f x us h m, total_add g b vs, total_add (λ y. from_to arcs y x) (λ y. from_to arcs x y) vs, in_from arcs vs k x, out_to arcs vs k x, step_out arcs us x x m, step_in arcs us x x m)

-- with neither sink nor source: only nodes that are paired with it
live_best : (arcs : List Link) (us : List ℕ) (x : ℕ) → EachOnce us → has us x ≡ true → NoSink arcs us → NoSource arcs us → live arcs us ≤ live arcs (without x us) + 1 + count (two_way arcs x) (without x us)
unfolding live
live_best arcs us x h m ns nt =
    let vs = without x us in
    let f : ℕ → ℕ = λ y. one (ltb 0 (out_degree arcs us y + in_degree arcs us y)) in
    let g : ℕ → ℕ = λ y. one (ltb 0 (out_degree arcs vs y + in_degree arcs vs y)) in
    let b : ℕ → ℕ = λ y. one (two_way arcs x y) in
    let le : total f vs ≤ total (λ y. g y + b y) vs = total_le f (λ y. g y + b y) vs (λ y e.
    let l = has_without x us y in
    let at : has us y ≡ true = grind arith in
    let o = step_out arcs us x y m in
    let i = step_in arcs us x y m in
    let p = ns y at in
    let q = nt y at in
    grind (arith, nat_tests)) in
    let top : f x ≤ 1 = grind arith in
    omega (arith, total_without f x us h m, total_add g b vs)

pairs_step : (arcs : List Link) (x : ℕ) (us : List ℕ) → EachOnce us → has us x ≡ true → pairs_among arcs us ≡ pairs_among arcs (without x us) + count (two_way arcs x) (without x us)
pairs_step arcs x [] h m = absurd (false≢true m)
pairs_step arcs x (y ∷ us) h m = go (eqb y x) refl (pairs_step arcs x us h.1)
  where
    go : (b : Bool) → eqb y x ≡ b → (has us x ≡ true → pairs_among arcs us ≡ pairs_among arcs (without x us) + count (two_way arcs x) (without x us))
        → count (two_way arcs y) us + pairs_among arcs us ≡ pairs_among arcs (cond b (without x us) (y ∷ without x us)) + count (two_way arcs x) (cond b (without x us) (y ∷ without x us))
    go true e ih =
        let s : y ≡ x = eqb-true y x e in
        let n : has us x ≡ false = (rw s at h).0 in
        rw (s, without_none x us n) (omega arith)
    go false e ih =
        let n : has us x ≡ true = rw e at m in
        let k = ih n in
        let turn = and_swap (ltb 0 (from_to arcs x y)) (ltb 0 (from_to arcs y x)) in
        omega (arith, total_without (λ z. one (two_way arcs y z)) x us h.1 n)

-- an arc that a node's out-degree counts
pub out_some : (arcs : List Link) (us : List ℕ) (x : ℕ) → 1 ≤ out_degree arcs us x → (y : ℕ) × (has us y ≡ true) × (1 ≤ from_to arcs x y)
unfolding out_degree from_to
out_some [] us x h = absurd (let z : ◌<◌ 0 0 = h in omega arith)
out_some (a ∷ arcs) us x h = go (eqb a.0 x && has us a.1) refl (out_some arcs us x)
  where
    go : (b : Bool) → (eqb a.0 x && has us a.1) ≡ b → (1 ≤ out_degree arcs us x → (y : ℕ) × (has us y ≡ true) × (1 ≤ from_to arcs x y)) → (y : ℕ) × (has us y ≡ true) × (1 ≤ from_to (a ∷ arcs) x y)
    go true e ih = (a.1, grind arith, grind (arith, nat_tests))
    go false e ih = let l : 1 ≤ out_degree arcs us x = grind arith in let r = ih l in (r.0, r.1, omega (arith, r.2))

-- the bound with nothing owed, and with 1 owed, which a node with a positive difference pays
pub record Bounds (arcs : List Link) (us order : List ℕ) : Type 0 where
  pub even : live arcs us + 6 * held_in arcs us order ≤ 3 * arcs_in arcs us + 2 * pairs_among arcs us + 4 * loops_in arcs us
  pub owing : (y : ℕ) → has us y ≡ true → in_degree arcs us y + 1 ≤ out_degree arcs us y → live arcs us + 1 + 6 * held_in arcs us order ≤ 3 * arcs_in arcs us + 2 * pairs_among arcs us + 4 * loops_in arcs us

-- a node other than x that has more arcs out than in keeps them when x, which has no arcs, is taken
keeps_positive : (arcs : List Link) (us : List ℕ) (x y : ℕ) → has us x ≡ true → out_degree arcs us x ≡ 0 → in_degree arcs us x ≡ 0 → has us y ≡ true → in_degree arcs us y + 1 ≤ out_degree arcs us y → (has (without x us) y ≡ true) × (in_degree arcs (without x us) y + 1 ≤ out_degree arcs (without x us) y)
keeps_positive arcs us x y m z w n d =
    let o = step_out arcs us x y m in
    let i = step_in arcs us x y m in
    let o' = step_out arcs us y x n in
    let i' = step_in arcs us y x n in
    let e = ap (out_degree arcs us) {x = x} {y = y} in
    (grind (arith, nat_tests, has_without x us y), omega arith)

bounds_sink : (arcs : List Link) (us rest : List ℕ) (x : ℕ) → EachOnce us → has us x ≡ true → out_degree arcs us x ≡ 0 → Greedy arcs (without x us) rest → Bounds arcs (without x us) rest → Bounds arcs us (rest ++ (x ∷ []))
bounds_sink arcs us rest x h m z g ih =
    let a = step_arcs arcs us x m in
    let l = step_loops arcs us x m in
    let b = step_back arcs us rest x m (greedy_has g) in
    let v = live_any arcs us x h m in
    let p = pairs_step arcs x us h m in
    let o = step_out arcs us x x m in
    let w = one_pos (out_degree arcs us x + in_degree arcs us x) in
    let e = ih.even in
    record {
      even = omega arith;
      owing = λ y n d. ⊎_elim
          (λ none. let k = keeps_positive arcs us x y m z (omega arith) n d in let f = ih.owing y k.0 k.1 in omega arith)
          (λ some. omega arith)
          w;
    }

bounds_source : (arcs : List Link) (us rest : List ℕ) (x : ℕ) → EachOnce us → has us x ≡ true → NoSink arcs us → in_degree arcs us x ≡ 0 → Bounds arcs (without x us) rest → Bounds arcs us (x ∷ rest)
bounds_source arcs us rest x h m ns z ih =
    let a = step_arcs arcs us x m in
    let l = step_loops arcs us x m in
    let b = step_front arcs us rest x m in
    let v = live_any arcs us x h m in
    let p = pairs_step arcs x us h m in
    let i = step_in arcs us x x m in
    let w = one_pos (out_degree arcs us x + in_degree arcs us x) in
    let e = ih.even in
    let s = ns x m in
    record { even = omega arith; owing = λ y n d. omega arith }

-- after a best node of difference 0 with neither loops nor pairs, some node has a positive difference
leaves_positive : (arcs : List Link) (us : List ℕ) (x : ℕ) → EachOnce us → has us x ≡ true → NoSink arcs us → Highest arcs us x → out_degree arcs us x ≡ in_degree arcs us x → from_to arcs x x ≡ 0 → count (two_way arcs x) (without x us) ≡ 0 → (y : ℕ) × (has (without x us) y ≡ true) × (in_degree arcs (without x us) y + 1 ≤ out_degree arcs (without x us) y)
leaves_positive arcs us x h m ns high level noloop nopair =
    let r = out_some arcs us x (ns x m) in
    let y : ℕ = r.0 in
    let at : has us y ≡ true = r.1 in
    let to : 1 ≤ from_to arcs x y = r.2 in
    let e : x ≡ y → from_to arcs x x ≡ from_to arcs x y = λ q. ap (from_to arcs x) q in
    let left : has (without x us) y ≡ true = grind (arith, nat_tests, has_without x us y) in
    let alone = count_none (two_way arcs x) (without x us) nopair y left in
    let back : from_to arcs y x ≡ 0 = grind (arith, nat_tests) in
    let o = step_out arcs us x y m in
    let i = step_in arcs us x y m in
    let eq = highest_level arcs us x h high level y at in
    (y, left, omega arith)

bounds_best : (arcs : List Link) (us rest : List ℕ) (x : ℕ) → EachOnce us → has us x ≡ true → NoSink arcs us → NoSource arcs us → Highest arcs us x → Bounds arcs (without x us) rest → Bounds arcs us (x ∷ rest)
bounds_best arcs us rest x h m ns nt high ih =
    let a = step_arcs arcs us x m in
    let l = step_loops arcs us x m in
    let b = step_front arcs us rest x m in
    let v = live_best arcs us x h m ns nt in
    let p = pairs_step arcs x us h m in
    let sign = highest_sign arcs us x h m high in
    let e = ih.even in
    record {
      even = ⊎_elim
          (λ paid. omega arith)
          (λ none.
          let r = leaves_positive arcs us x h m ns high (omega arith) (omega arith) (omega arith) in
          let f = ih.owing r.0 r.1 r.2 in
          omega arith)
          (paid_or_none (out_degree arcs us x) (in_degree arcs us x) (from_to arcs x x) (count (two_way arcs x) (without x us)) sign);
      owing = λ y n d. let t = high y n in omega arith;
    }

pub bounds : {arcs : List Link} {us order : List ℕ} → Greedy arcs us order → EachOnce us → Bounds arcs us order
bounds {arcs} done h = record { even = let z = held_none arcs [] in let w = live_none arcs in omega arith; owing = λ y n d. absurd (false≢true n) }
bounds {arcs} (sink {untaken = us} {rest} x m z g) h = bounds_sink arcs us rest x h m z g (bounds g (once_without x us h))
bounds {arcs} (source {untaken = us} {rest} x m ns z g) h = bounds_source arcs us rest x h m ns z (bounds g (once_without x us h))
bounds {arcs} (best {untaken = us} {rest} x m ns nt high g) h = bounds_best arcs us rest x h m ns nt high (bounds g (once_without x us h))

all_live : (arcs : List Link) (us vs : List ℕ) → ((y : ℕ) → has us y ≡ true → 1 ≤ out_degree arcs vs y + in_degree arcs vs y) → count (λ y. ltb 0 (out_degree arcs vs y + in_degree arcs vs y)) us ≡ length us
all_live arcs [] vs h = refl
all_live arcs (x ∷ us) vs h =
    let ih = all_live arcs us vs (λ y k. h y (has_tail x us y k)) in
    let at = h x (has_head x us) in
    let w = one_pos (out_degree arcs vs x + in_degree arcs vs x) in
    omega arith

pub live_all : (arcs : List Link) (us : List ℕ) → ((y : ℕ) → has us y ≡ true → 1 ≤ out_degree arcs us y + in_degree arcs us y) → live arcs us ≡ length us
unfolding live
live_all arcs us h = all_live arcs us us h
