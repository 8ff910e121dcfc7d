-- The statements, each from the lemma that carries it.
use Rattle.std.proofs.Common.{◌≡◌, ℕ, ◌+◌, ◌*◌, ◌≤◌, Bool, true, false, not, ◌&&◌, eqb, List, [], ◌∷◌, length, sym, refl, ◌∙◌, subst, ⊎_elim, arith}
use Rattle.std.proofs.lemmas.Bool.Decides.{nat_tests}
use Rattle.std.proofs.lemmas.Bool.{true≢false, cases_Bool, eqb-true}
use Rattle.network.specs.Counting.{count, has, EachOnce}
use Rattle.network.specs.Network.{Link, loop, loops, from_to, touched, two_way, pairs_among, NoOppositeArcs}
use Rattle.network.specs.Places.{held, held_count}
use Rattle.network.proofs.Sums.{none_count}
use Rattle.network.proofs.Touched.{touched_covers, touched_once, touched_ends}
use Rattle.greedy_order.specs.Part1Degrees.{out_degree, in_degree}
use Rattle.greedy_order.specs.Part2Greedy.{Greedy}
use Rattle.greedy_order.specs.Part3Order.{greedy_order, after_taking}
use Rattle.greedy_order.specs.Part4Promises.{ListsTheTouchedNodes, EveryLoopIsHeld, EveryClosedWalkHasAHeldArc, NoArcIsHeldExactlyWithoutClosedWalk, AtMostHalfAreHeld, TouchedPlusSixHeldIsAtMostThreeArcs, TouchedPlusSixHeldWithPairsAndLoops, Promises, KeptByEveryGreedyOrder, TheOrderIsGreedy, TheOrderListsTheTouchedNodes, TheOrderKeepsThePromises}
use Rattle.greedy_order.specs.Part5KnownOrders.{KnownOrders}
use Rattle.greedy_order.specs.Part6MostHeld.{most_by_half, most_by_nodes, NoneHoldsMoreByHalf, NoneHoldsMoreByNodes}
use Rattle.greedy_order.proofs.Orders.{greedy_has, greedy_once}
use Rattle.greedy_order.proofs.Walks.{loop_held, closed_held}
use Rattle.greedy_order.proofs.Cycles.{none_held, no_closed}
use Rattle.greedy_order.proofs.Steps.{covered_arcs, covered_loops, covered_held, covered_ends}
use Rattle.greedy_order.proofs.Half.{half}
use Rattle.greedy_order.proofs.Bound.{bounds, live_all}
use Rattle.greedy_order.proofs.Folded.{folded_greedy}
use Rattle.greedy_order.proofs.Rounds.{rounds_are_folded}

pub the_touched_nodes_are_listed : KeptByEveryGreedyOrder ListsTheTouchedNodes
the_touched_nodes_are_listed arcs order g = (greedy_once g, greedy_has g)

pub every_loop_is_held : KeptByEveryGreedyOrder EveryLoopIsHeld
every_loop_is_held arcs order g a is-arc is_Loop = subst (λ t. held order (a.0, t) ≡ true) (eqb-true a.0 a.1 is_Loop) (loop_held order a.0)

pub every_closed_walk_has_a_held_arc : KeptByEveryGreedyOrder EveryClosedWalkHasAHeldArc
every_closed_walk_has_a_held_arc arcs order g = closed_held arcs order

pub no_arc_is_held_exactly_without_closed_walk : KeptByEveryGreedyOrder NoArcIsHeldExactlyWithoutClosedWalk
no_arc_is_held_exactly_without_closed_walk arcs order g = (no_closed arcs order, λ no_Walk. let z = none_held g no_Walk in omega (arith, covered_held arcs (touched arcs) order (touched_covers arcs)))

-- ---- half

-- of a greedy order, twice the held arcs are at most the arcs and the loops
pub twice_held : (arcs : List Link) (order : List ℕ) → Greedy arcs (touched arcs) order → 2 * held_count order arcs ≤ length arcs + loops arcs
twice_held arcs order g =
    let us = touched arcs in
    let c = touched_covers arcs in
    omega (arith, half g (touched_once arcs), covered_arcs arcs us c, covered_loops arcs us c, covered_held arcs us order c)

-- the loops, all held, apart from the other held arcs
loops_apart : (arcs : List Link) (order : List ℕ) → held_count order arcs ≡ count (λ a. held order a && not (loop a)) arcs + loops arcs
loops_apart [] order = refl
loops_apart (a ∷ arcs) order =
    let ih = loops_apart arcs order in
    let l : loop a ≡ true → held order a ≡ true = λ e. subst (λ t. held order (a.0, t) ≡ true) (eqb-true a.0 a.1 e) (loop_held order a.0) in
    grind (arith, nat_tests)

others_apart : (arcs : List Link) → length arcs ≡ count (λ a. not (loop a)) arcs + loops arcs
others_apart [] = refl
others_apart (a ∷ arcs) = let ih = others_apart arcs in grind (arith, nat_tests)

pub at_most_half_are_held : KeptByEveryGreedyOrder AtMostHalfAreHeld
at_most_half_are_held arcs order g = omega (arith, twice_held arcs order g, loops_apart arcs order, others_apart arcs)

-- ---- the bounds with touched nodes

pub touched_plus_six_held_with_pairs_and_loops : KeptByEveryGreedyOrder TouchedPlusSixHeldWithPairsAndLoops
touched_plus_six_held_with_pairs_and_loops arcs order g =
    let us = touched arcs in
    let c = touched_covers arcs in
    let v = live_all arcs us (λ y m. omega (arith, touched_ends arcs y m, covered_ends arcs us c y)) in
    omega (arith, (bounds g (touched_once arcs)).even, covered_arcs arcs us c, covered_loops arcs us c, covered_held arcs us order c)

-- two different nodes with arcs both ways have opposite arcs
apart_one_way : (arcs : List Link) → NoOppositeArcs arcs → (x y : ℕ) → eqb x y ≡ false → two_way arcs x y ≡ false
apart_one_way arcs no-opposite x y d = ⊎_elim (λ (t : two_way arcs x y ≡ true). absurd (both t)) (λ f. f) (cases_Bool (two_way arcs x y))
  where
    both : two_way arcs x y ≡ true → ⊥
    both t =
        let a : 1 ≤ from_to arcs x y = grind (arith, nat_tests) in
        let b : 1 ≤ from_to arcs y x = grind (arith, nat_tests) in
        let o = no-opposite (x, y) (y, x) a b in
        let z : ◌≡◌ {A = Bool} true false = grind (arith, nat_tests) in
        true≢false z

no_pairs : (arcs : List Link) → NoOppositeArcs arcs → (us : List ℕ) → EachOnce us → pairs_among arcs us ≡ 0
no_pairs arcs n [] h = refl
no_pairs arcs n (x ∷ us) h =
    let ih = no_pairs arcs n us h.1 in
    let z = none_count (two_way arcs x) us (λ y m. apart_one_way arcs n x y (let e = eqb-true x y in let f = h.0 in differ y m)) in
    omega arith
  where
    differ : (y : ℕ) → has us y ≡ true → eqb x y ≡ false
    differ y m = ⊎_elim (λ (t : eqb x y ≡ true). absurd (true≢false (sym (subst (λ z. has us z ≡ true) (sym (eqb-true x y t)) m) ∙ h.0))) (λ f. f) (cases_Bool (eqb x y))

pub touched_plus_six_held_is_at_most_three_arcs : KeptByEveryGreedyOrder TouchedPlusSixHeldIsAtMostThreeArcs
touched_plus_six_held_is_at_most_three_arcs arcs order g no-loops no-opposite =
    omega (arith, touched_plus_six_held_with_pairs_and_loops arcs order g, no_pairs arcs no-opposite (touched arcs) (touched_once arcs))

-- ---- all together

pub promises : {arcs : List Link} {order : List ℕ} → Greedy arcs (touched arcs) order → Promises arcs order
promises {arcs} {order} g = record {
  lists_the_touched_nodes = the_touched_nodes_are_listed arcs order g;
  every_loop_is_held = every_loop_is_held arcs order g;
  every_closed_walk_has_a_held_arc = every_closed_walk_has_a_held_arc arcs order g;
  no_arc_is_held_exactly_without_closed_walk = no_arc_is_held_exactly_without_closed_walk arcs order g;
  at_most_half_are_held = at_most_half_are_held arcs order g;
  touched_plus_six_held_is_at_most_three_arcs = touched_plus_six_held_is_at_most_three_arcs arcs order g;
  touched_plus_six_held_with_pairs_and_loops = touched_plus_six_held_with_pairs_and_loops arcs order g;
}

pub every_promise_is_kept : KeptByEveryGreedyOrder Promises
every_promise_is_kept arcs order g = promises g

pub the_order_is_greedy : TheOrderIsGreedy
the_order_is_greedy arcs = subst (Greedy arcs (touched arcs)) (sym (rounds_are_folded arcs)) (folded_greedy arcs)

pub the_order_lists_the_touched_nodes_each_once : TheOrderListsTheTouchedNodes
the_order_lists_the_touched_nodes_each_once arcs = the_touched_nodes_are_listed arcs (greedy_order arcs) (the_order_is_greedy arcs)

pub the_order_keeps_the_promises : TheOrderKeepsThePromises
the_order_keeps_the_promises arcs = promises (the_order_is_greedy arcs)

-- ---- the most that may be held

pub none_holds_more_by_half : (m l most : ℕ) → most ≡ most_by_half m l → NoneHoldsMoreByHalf m l most
none_holds_more_by_half m l most is arcs order g e f =
    let t = twice_held arcs order g in
    let o = others_apart arcs in
    omega arith

pub none_holds_more_by_nodes : (m t most : ℕ) → most ≡ most_by_nodes m t → NoneHoldsMoreByNodes m t most
none_holds_more_by_nodes m t most is arcs order g no-loops no-opposite e f =
    let b = touched_plus_six_held_is_at_most_three_arcs arcs order g no-loops no-opposite in
    omega arith

-- ---- the known orders

pub known_orders_stand : KnownOrders
unfolding greedy_order after_taking touched out_degree in_degree held
known_orders_stand = refl
