-- How many arcs may be held at most, from counts alone.
use Rattle.std.specs.Prelude.{◌≡◌, ℕ, ◌+◌, ◌-◌, ◌*◌, ◌/◌, ◌≤◌, length}
use Rattle.network.specs.Network.{loops, NoLoops, NoOppositeArcs, touched}
use Rattle.network.specs.Places.{held_count}
use Rattle.greedy_order.specs.Part4Promises.{KeptByEveryGreedyOrder}

-- half of the arcs other than loops, rounded down, and the loops
abbrev pub most_by_half : ℕ → ℕ → ℕ
most_by_half m l = (m - l) / 2 + l

-- no greedy order of a network with m arcs, l of them loops, holds more than most
abbrev pub NoneHoldsMoreByHalf : ℕ → ℕ → ℕ → Type 0
NoneHoldsMoreByHalf m l most = KeptByEveryGreedyOrder (λ arcs order. length arcs ≡ m → loops arcs ≡ l → held_count order arcs ≤ most)

-- a sixth of three times the arcs less the touched nodes, rounded down
abbrev pub most_by_nodes : ℕ → ℕ → ℕ
most_by_nodes m t = (3 * m - t) / 6

-- no greedy order of a network with m arcs and t touched nodes, without loops and opposite arcs, holds more than most
abbrev pub NoneHoldsMoreByNodes : ℕ → ℕ → ℕ → Type 0
NoneHoldsMoreByNodes m t most = KeptByEveryGreedyOrder (λ arcs order. NoLoops arcs → NoOppositeArcs arcs → length arcs ≡ m → length (touched arcs) ≡ t → held_count order arcs ≤ most)
