-- Where no node is a sink there is a closed walk, so without closed walks no arc is held.
use Rattle.std.proofs.Common.{◌≡◌, ℕ, zero, suc, ◌+◌, ◌<◌, ◌≤◌, true, false, eqb, List, [], ◌∷◌, ◌++◌, length, sym, refl, ◌∙◌, ⊎_elim, arith}
use Rattle.std.proofs.lemmas.Bool.Decides.{nat_tests}
use Rattle.std.proofs.lemmas.Bool.{eqb-true, false≢true, cases_Bool}
use Rattle.network.specs.Counting.{count, has, without}
use Rattle.network.specs.Network.{Link, from_to}
use Rattle.network.specs.Walks.{Walk, ClosedWalk, NoClosedWalk}
use Rattle.network.specs.Places.{held}
use Rattle.network.proofs.Sums.{has_without}
use Rattle.greedy_order.specs.Part2Greedy.{Greedy, done, sink, source, best, NoSink}
use Rattle.greedy_order.proofs.Steps.{held_in, step_front, step_back, held_none}
use Rattle.greedy_order.proofs.Orders.{greedy_has}
use Rattle.greedy_order.proofs.Bound.{out_some}
use Rattle.greedy_order.proofs.Walks.{closed_held}

length_less : (y : ℕ) (us : List ℕ) → length (without y us) ≤ length us
length_less y [] = omega arith
length_less y (x ∷ us) = let ih = length_less y us in grind arith

pub shorter : (y : ℕ) (us : List ℕ) → has us y ≡ true → length (without y us) + 1 ≤ length us
shorter y [] m = absurd (false≢true m)
shorter y (x ∷ us) m = let ih = shorter y us in let le = length_less y us in grind arith

walk_push : (arcs : List Link) (s : ℕ) (w : List Link) (c y : ℕ) → Walk arcs s w c → 1 ≤ from_to arcs c y → Walk arcs s (w ++ ((c, y) ∷ [])) y
walk_push arcs s [] c y e b = (sym e, b, refl)
walk_push arcs s (a ∷ w) c y h b = (h.0, h.1, walk_push arcs a.1 w c y h.2 b)

-- the network has a closed walk
abbrev Cycle : List Link → Type 0
Cycle arcs = (walk : List Link) × ClosedWalk arcs walk

-- a walk goes on from c; each node of us that is not in rest has been passed
find : (arcs : List Link) (us : List ℕ) → NoSink arcs us → (n : ℕ) (rest : List ℕ) (c : ℕ) → length rest ≤ n → has us c ≡ true → ((v : ℕ) → has us v ≡ true → has rest v ≡ false → (w : List Link) × Walk arcs v w c) → Cycle arcs
find arcs us ns zero rest c short m back =
    let r = out_some arcs us c (ns c m) in
    let y : ℕ = r.0 in
    ⊎_elim
    (λ (e : has rest y ≡ true). absurd (let l = shorter y rest e in omega arith))
    (λ (e : has rest y ≡ false). let b = back y r.1 e in ((c, y) ∷ b.0, (refl, r.2, b.1)))
    (cases_Bool (has rest y))
find arcs us ns (suc n) rest c short m back =
    let r = out_some arcs us c (ns c m) in
    let y : ℕ = r.0 in
    let on : has rest y ≡ true → Cycle arcs = λ e.
    find arcs us ns n (without y rest) y (let l = shorter y rest e in omega arith) r.1
    (λ v k f. ⊎_elim
    (λ (q : eqb v y ≡ true). ([], eqb-true v y q))
    (λ (q : eqb v y ≡ false). let b = back v k (let l = has_without y rest v in grind arith) in (b.0 ++ ((c, y) ∷ []), walk_push arcs v b.0 c y b.1 r.2))
    (cases_Bool (eqb v y))) in
    ⊎_elim on
    (λ (e : has rest y ≡ false). let b = back y r.1 e in ((c, y) ∷ b.0, (refl, r.2, b.1)))
    (cases_Bool (has rest y))

pub no_sink_cycle : (arcs : List Link) (us : List ℕ) (x : ℕ) → NoSink arcs us → has us x ≡ true → Cycle arcs
no_sink_cycle arcs us x ns m = find arcs us ns (length us) us x (omega arith) m (λ v k f. absurd (false≢true (sym f ∙ k)))

pub none_held : {arcs : List Link} {us order : List ℕ} → Greedy arcs us order → NoClosedWalk arcs → held_in arcs us order ≡ 0
none_held {arcs} done no_Walk = held_none arcs []
none_held {arcs} (sink {untaken = us} {rest} x m z g) no_Walk = let ih = none_held g no_Walk in omega (arith, step_back arcs us rest x m (greedy_has g))
none_held {arcs} (source {untaken = us} {rest} x m ns z g) no_Walk = let ih = none_held g no_Walk in omega (arith, step_front arcs us rest x m)
none_held {arcs} (best {untaken = us} {rest} x m ns nt high g) no_Walk = let c = no_sink_cycle arcs us x ns m in absurd (no_Walk c.0 c.1)

arc_held : (arcs : List Link) (order : List ℕ) (s t : ℕ) → count (held order) arcs ≡ 0 → 1 ≤ from_to arcs s t → held order (s, t) ≡ false
unfolding from_to held
arc_held [] order s t z h = absurd (let f : ◌<◌ 0 0 = h in omega arith)
arc_held (a ∷ arcs) order s t z h = let ih = arc_held arcs order s t in grind (arith, nat_tests)

walk_none : (arcs : List Link) (order : List ℕ) (s : ℕ) (w : List Link) (t : ℕ) → count (held order) arcs ≡ 0 → Walk arcs s w t → count (held order) w ≡ 0
walk_none arcs order s [] t z h = refl
walk_none arcs order s (a ∷ w) t z h = let ih = walk_none arcs order a.1 w t z h.2 in let e = arc_held arcs order a.0 a.1 z h.1 in grind arith

pub no_closed : (arcs : List Link) (order : List ℕ) → count (held order) arcs ≡ 0 → NoClosedWalk arcs
no_closed arcs order z [] h = h
no_closed arcs order z (a ∷ walk) h = let one-held = closed_held arcs order (a ∷ walk) h in let no_one = walk_none arcs order a.0 (a ∷ walk) a.0 z h in omega arith
