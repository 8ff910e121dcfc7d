-- What taking a node does to the counts of arcs among the untaken nodes.
use Rattle.std.proofs.Common.{◌≡◌, ℕ, ◌+◌, ◌<◌, ◌≤◌, Bool, true, false, ◌&&◌, eqb, List, [], ◌∷◌, ◌++◌, length, sym, refl, ◌∙◌, ⊎_elim, arith}
use Rattle.std.proofs.lemmas.Bool.Decides.{nat_tests}
use Rattle.std.proofs.lemmas.Bool.{false≢true, cases_lt}
use Rattle.network.specs.Counting.{one, total, count, has, without, EachOnce}
use Rattle.network.specs.Network.{Link, loop, from_to, ends}
use Rattle.network.specs.Places.{held, place}
use Rattle.network.proofs.Sums.{total_add, total_lt, total_tight, total_none, total_at, has_without}
use Rattle.network.proofs.Touched.{Covers}
use Rattle.greedy_order.specs.Part1Degrees.{out_degree, in_degree}
use Rattle.greedy_order.specs.Part2Greedy.{Highest}

-- both ends of an arc are among the nodes us
abbrev pub inside : List ℕ → Link → Bool
inside us a = has us a.0 && has us a.1

-- how many arcs, loops and held arcs run among the nodes us
unfoldable pub arcs_in : List Link → List ℕ → ℕ
arcs_in arcs us = count (inside us) arcs

unfoldable pub loops_in : List Link → List ℕ → ℕ
loops_in arcs us = count (λ a. inside us a && loop a) arcs

unfoldable pub held_in : List Link → List ℕ → List ℕ → ℕ
held_in arcs us order = count (λ a. inside us a && held order a) arcs

-- ---- taking x: the arcs at x go; a loop at x is counted in both of its degrees

at_arcs : (us : List ℕ) (x s t : ℕ) → has us x ≡ true → one (has us s && has us t) + one (eqb s x && eqb t x) ≡ one (eqb s x && has us t) + one (eqb t x && has us s) + one (has (without x us) s && has (without x us) t)
at_arcs us x s t m = grind (arith, nat_tests, has_without)

pub step_arcs : (arcs : List Link) (us : List ℕ) (x : ℕ) → has us x ≡ true → arcs_in arcs us + from_to arcs x x ≡ out_degree arcs us x + in_degree arcs us x + arcs_in arcs (without x us)
unfolding arcs_in from_to out_degree in_degree
step_arcs [] us x m = refl
step_arcs (a ∷ arcs) us x m = let ih = step_arcs arcs us x m in let p = at_arcs us x a.0 a.1 m in omega arith

at_loops : (us : List ℕ) (x s t : ℕ) → has us x ≡ true → one ((has us s && has us t) && eqb s t) ≡ one (eqb s x && eqb t x) + one ((has (without x us) s && has (without x us) t) && eqb s t)
at_loops us x s t m = grind (arith, nat_tests, has_without)

pub step_loops : (arcs : List Link) (us : List ℕ) (x : ℕ) → has us x ≡ true → loops_in arcs us ≡ from_to arcs x x + loops_in arcs (without x us)
unfolding loops_in from_to
step_loops [] us x m = refl
step_loops (a ∷ arcs) us x m = let ih = step_loops arcs us x m in let p = at_loops us x a.0 a.1 m in omega arith

-- ---- x goes before the rest: the arcs into x are held

at_front : (us rest : List ℕ) (x s t : ℕ) → has us x ≡ true → one ((has us s && has us t) && held (x ∷ rest) (s, t)) ≡ one (eqb t x && has us s) + one ((has (without x us) s && has (without x us) t) && held rest (s, t))
unfolding held
at_front us rest x s t m = grind (arith, nat_tests, has_without)

pub step_front : (arcs : List Link) (us rest : List ℕ) (x : ℕ) → has us x ≡ true → held_in arcs us (x ∷ rest) ≡ in_degree arcs us x + held_in arcs (without x us) rest
unfolding held_in in_degree
step_front [] us rest x m = refl
step_front (a ∷ arcs) us rest x m = let ih = step_front arcs us rest x m in let p = at_front us rest x a.0 a.1 m in omega arith

-- ---- x goes behind the rest: the arcs out of x are held

place_in : (rest zs : List ℕ) (y : ℕ) → has rest y ≡ true → place (rest ++ zs) y ≡ place rest y
place_in [] zs y m = absurd (false≢true m)
place_in (z ∷ rest) zs y m = let ih = place_in rest zs y in grind (arith, nat_tests)

place_lt : (rest : List ℕ) (y : ℕ) → has rest y ≡ true → place rest y < length rest
place_lt [] y m = absurd (false≢true m)
place_lt (z ∷ rest) y m = let ih = place_lt rest y in grind (arith, nat_tests)

place_end : (rest : List ℕ) (x : ℕ) → has rest x ≡ false → place (rest ++ (x ∷ [])) x ≡ length rest
place_end [] x m = grind (arith, nat_tests)
place_end (z ∷ rest) x m = let ih = place_end rest x in grind (arith, nat_tests)

at_back : (us rest : List ℕ) (x s t : ℕ) → has us x ≡ true → ((y : ℕ) → has rest y ≡ has (without x us) y) → one ((has us s && has us t) && held (rest ++ (x ∷ [])) (s, t)) ≡ one (eqb s x && has us t) + one ((has (without x us) s && has (without x us) t) && held rest (s, t))
unfolding held
at_back us rest x s t m h =
    let hs = h s in
    let ht = h t in
    let hx = h x in
    let ls = has_without x us s in
    let lt = has_without x us t in
    let lx = has_without x us x in
    let ps = place_in rest (x ∷ []) s in
    let pt = place_in rest (x ∷ []) t in
    let qs = place_lt rest s in
    let qt = place_lt rest t in
    let px = place_end rest x in
    grind (arith, nat_tests)

pub step_back : (arcs : List Link) (us rest : List ℕ) (x : ℕ) → has us x ≡ true → ((y : ℕ) → has rest y ≡ has (without x us) y) → held_in arcs us (rest ++ (x ∷ [])) ≡ out_degree arcs us x + held_in arcs (without x us) rest
unfolding held_in out_degree
step_back [] us rest x m h = refl
step_back (a ∷ arcs) us rest x m h = let ih = step_back arcs us rest x m h in let p = at_back us rest x a.0 a.1 m h in omega arith

-- ---- the sum of all degrees

out_total : (arcs : List Link) (us : List ℕ) → EachOnce us → (vs : List ℕ) → total (out_degree arcs vs) us ≡ count (λ a. has us a.0 && has vs a.1) arcs
unfolding out_degree
out_total [] us h vs = total_none us
out_total (a ∷ arcs) us h vs = let ih = out_total arcs us h vs in total_add (λ y. one (eqb a.0 y && has vs a.1)) (out_degree arcs vs) us ∙ omega (arith, total_at us h a.0 (has vs a.1))

and_swap : (a b : Bool) → one (a && b) ≡ one (b && a)
and_swap a b = grind arith

in_total : (arcs : List Link) (us : List ℕ) → EachOnce us → (vs : List ℕ) → total (in_degree arcs vs) us ≡ count (λ a. has vs a.0 && has us a.1) arcs
unfolding in_degree
in_total [] us h vs = total_none us
in_total (a ∷ arcs) us h vs =
    let ih = in_total arcs us h vs in
    let c = and_swap (has us a.1) (has vs a.0) in
    total_add (λ y. one (eqb a.1 y && has vs a.0)) (in_degree arcs vs) us ∙ omega (arith, total_at us h a.1 (has vs a.0))

-- the out-degrees and the in-degrees have one sum
pub same_totals : (arcs : List Link) (us : List ℕ) → EachOnce us → total (out_degree arcs us) us ≡ total (in_degree arcs us) us
same_totals arcs us h = out_total arcs us h us ∙ sym (in_total arcs us h us)

-- so the highest difference is not negative
pub highest_sign : (arcs : List Link) (us : List ℕ) (x : ℕ) → EachOnce us → has us x ≡ true → Highest arcs us x → in_degree arcs us x ≤ out_degree arcs us x
highest_sign arcs us x h m high = ⊎_elim (λ l. absurd (no_less l)) (λ le. le) (cases_lt (out_degree arcs us x) (in_degree arcs us x))
  where
    no_less : out_degree arcs us x < in_degree arcs us x → ⊥
    no_less l = let t = total_lt (out_degree arcs us) (in_degree arcs us) us x m (λ y k. omega (arith, high y k)) in omega (arith, same_totals arcs us h)

-- and where it is 0, all are
pub highest_level : (arcs : List Link) (us : List ℕ) (x : ℕ) → EachOnce us → Highest arcs us x → out_degree arcs us x ≡ in_degree arcs us x → (y : ℕ) → has us y ≡ true → out_degree arcs us y ≡ in_degree arcs us y
highest_level arcs us x h high e y m =
    let le = high y m in
    let ge = total_tight (out_degree arcs us) (in_degree arcs us) us (λ z k. omega (arith, high z k)) (omega (arith, same_totals arcs us h)) y m in
    omega arith

pub held_none : (arcs : List Link) (order : List ℕ) → held_in arcs [] order ≡ 0
unfolding held_in
held_none arcs order = total_none arcs

-- ---- the degrees of another node y once x is taken

pub step_out : (arcs : List Link) (us : List ℕ) (x y : ℕ) → has us x ≡ true → out_degree arcs us y ≡ out_degree arcs (without x us) y + from_to arcs y x
unfolding out_degree from_to
step_out [] us x y m = refl
step_out (a ∷ arcs) us x y m = let ih = step_out arcs us x y m in grind (arith, nat_tests, has_without x us a.1)

pub step_in : (arcs : List Link) (us : List ℕ) (x y : ℕ) → has us x ≡ true → in_degree arcs us y ≡ in_degree arcs (without x us) y + from_to arcs x y
unfolding in_degree from_to
step_in [] us x y m = refl
step_in (a ∷ arcs) us x y m = let ih = step_in arcs us x y m in grind (arith, nat_tests, has_without x us a.0)

-- ---- where every arc is among the nodes, these are the counts of the network

pub covered_arcs : (arcs : List Link) (us : List ℕ) → Covers us arcs → arcs_in arcs us ≡ length arcs
unfolding arcs_in
covered_arcs [] us h = refl
covered_arcs (a ∷ arcs) us h = let ih = covered_arcs arcs us h.2 in let s = h.0 in let t = h.1 in grind arith

pub covered_loops : (arcs : List Link) (us : List ℕ) → Covers us arcs → loops_in arcs us ≡ count loop arcs
unfolding loops_in
covered_loops [] us h = refl
covered_loops (a ∷ arcs) us h = let ih = covered_loops arcs us h.2 in let s = h.0 in let t = h.1 in grind arith

pub covered_held : (arcs : List Link) (us order : List ℕ) → Covers us arcs → held_in arcs us order ≡ count (held order) arcs
unfolding held_in
covered_held [] us order h = refl
covered_held (a ∷ arcs) us order h = let ih = covered_held arcs us order h.2 in let s = h.0 in let t = h.1 in grind arith

pub covered_ends : (arcs : List Link) (us : List ℕ) → Covers us arcs → (y : ℕ) → ends arcs y ≤ out_degree arcs us y + in_degree arcs us y
unfolding out_degree in_degree
covered_ends [] us h y = omega arith
covered_ends (a ∷ arcs) us h y = let ih = covered_ends arcs us h.2 y in let s = h.0 in let t = h.1 in grind arith
