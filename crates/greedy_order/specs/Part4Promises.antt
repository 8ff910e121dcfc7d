-- What an order promises of a network's arcs. Repeated arcs count each time, a touched node once.
use Rattle.std.specs.Prelude.{◌≡◌, ℕ, ◌+◌, ◌*◌, ◌≤◌, true, not, ◌&&◌, List, length}
use Rattle.network.specs.Counting.{count, has, EachOnce}
use Rattle.network.specs.Network.{Link, IsArcOf, loop, loops, NoLoops, NoOppositeArcs, touched, two_way_pairs}
use Rattle.network.specs.Walks.{ClosedWalk, NoClosedWalk}
use Rattle.network.specs.Places.{held, held_count}
use Rattle.greedy_order.specs.Part2Greedy.{Greedy}
use Rattle.greedy_order.specs.Part3Order.{greedy_order}

-- the order lists the touched nodes, each once
abbrev pub ListsTheTouchedNodes : List Link → List ℕ → Type 0
ListsTheTouchedNodes arcs order = EachOnce order × ((x : ℕ) → has order x ≡ has (touched arcs) x)

-- every loop is held
abbrev pub EveryLoopIsHeld : List Link → List ℕ → Type 0
EveryLoopIsHeld arcs order = (a : Link) → IsArcOf arcs a → loop a ≡ true → held order a ≡ true

-- every closed walk has a held arc
abbrev pub EveryClosedWalkHasAHeldArc : List Link → List ℕ → Type 0
EveryClosedWalkHasAHeldArc arcs order = (walk : List Link) → ClosedWalk arcs walk → 1 ≤ held_count order walk

-- no arc is held exactly when the network has no closed walk
abbrev pub NoArcIsHeldExactlyWithoutClosedWalk : List Link → List ℕ → Type 0
NoArcIsHeldExactlyWithoutClosedWalk arcs order = (held_count order arcs ≡ 0 → NoClosedWalk arcs) × (NoClosedWalk arcs → held_count order arcs ≡ 0)

-- at most half of the arcs other than loops are held
abbrev pub AtMostHalfAreHeld : List Link → List ℕ → Type 0
AtMostHalfAreHeld arcs order = 2 * count (λ a. held order a && not (loop a)) arcs ≤ count (λ a. not (loop a)) arcs

-- without loops and opposite arcs, touched nodes plus six times held arcs is at most three times arcs
abbrev pub TouchedPlusSixHeldIsAtMostThreeArcs : List Link → List ℕ → Type 0
TouchedPlusSixHeldIsAtMostThreeArcs arcs order = NoLoops arcs → NoOppositeArcs arcs → length (touched arcs) + 6 * held_count order arcs ≤ 3 * length arcs

-- in any network the same, with two more for each two-way pair and four more for each loop
abbrev pub TouchedPlusSixHeldWithPairsAndLoops : List Link → List ℕ → Type 0
TouchedPlusSixHeldWithPairsAndLoops arcs order = length (touched arcs) + 6 * held_count order arcs ≤ 3 * length arcs + 2 * two_way_pairs arcs + 4 * loops arcs

-- all promises of an order
pub record Promises (arcs : List Link) (order : List ℕ) : Type 0 where
  pub lists_the_touched_nodes : ListsTheTouchedNodes arcs order
  pub every_loop_is_held : EveryLoopIsHeld arcs order
  pub every_closed_walk_has_a_held_arc : EveryClosedWalkHasAHeldArc arcs order
  pub no_arc_is_held_exactly_without_closed_walk : NoArcIsHeldExactlyWithoutClosedWalk arcs order
  pub at_most_half_are_held : AtMostHalfAreHeld arcs order
  pub touched_plus_six_held_is_at_most_three_arcs : TouchedPlusSixHeldIsAtMostThreeArcs arcs order
  pub touched_plus_six_held_with_pairs_and_loops : TouchedPlusSixHeldWithPairsAndLoops arcs order

-- a promise that every network and every order of its touched nodes keeps that the greedy steps can make, however ties are broken
abbrev pub KeptByEveryGreedyOrder : (List Link → List ℕ → Type 0) → Type 0
KeptByEveryGreedyOrder Promise = (arcs : List Link) (order : List ℕ) → Greedy arcs (touched arcs) order → Promise arcs order

-- the order with ties decided is one that the greedy steps can make
abbrev pub TheOrderIsGreedy : Type 0
TheOrderIsGreedy = (arcs : List Link) → Greedy arcs (touched arcs) (greedy_order arcs)

-- it lists the touched nodes, each once
abbrev pub TheOrderListsTheTouchedNodes : Type 0
TheOrderListsTheTouchedNodes = (arcs : List Link) → ListsTheTouchedNodes arcs (greedy_order arcs)

-- and keeps every other promise too
abbrev pub TheOrderKeepsThePromises : Type 0
TheOrderKeepsThePromises = (arcs : List Link) → Promises arcs (greedy_order arcs)
