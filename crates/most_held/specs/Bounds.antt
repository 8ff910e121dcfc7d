-- The most arcs of a map that an order could have held.
use Rattle.std.specs.Prelude.{◌≡◌, ℕ, ◌≤◌, Bool, cond, not, ◌&&◌, List, length, Some, None, Option, ◌==◌}
use Rattle.network.specs.declared.arc.Arc.{Arc}
use Rattle.network.specs.Counting.{count}
use Rattle.network.specs.Network.{loop, loops, touched}
use Rattle.network.specs.Places.{held_count}
use Rattle.map_model.specs.declared.Edit.{Edit}
use Rattle.map_model.specs.Model.{Model, built, run}
use Rattle.map_model.specs.Shown.{contains_edge}
use Rattle.graphmap.specs.Sources.{arcs_shown}
use Rattle.greedy_order.specs.Part3Order.{greedy_order}
use Rattle.greedy_order.specs.Part6MostHeld.{most_by_half, most_by_nodes, NoneHoldsMoreByNodes}
use Rattle.replay.specs.Runs.{network_of}
use Rattle.most_held.specs.declared.MostHeld.{MostHeld}

-- an arc of a map has an opposite: it is no loop, and the map has an arc from its target to its source
abbrev pub opposed : {N E : Type 0} → (N → ℕ) → Model N E → Arc N E → Bool
opposed ix m a = not (loop (ix a.source, ix a.target)) && contains_edge ix m a.target a.source

-- how many arcs of a map have an opposite
abbrev pub opposites : {N E : Type 0} → (N → ℕ) → Model N E → ℕ
opposites ix m = count (opposed ix m) (arcs_shown m)

-- the bound by nodes, which holds without loops and opposite arcs
abbrev pub bound_by_nodes : ℕ → ℕ → ℕ → ℕ → Option ℕ
bound_by_nodes arcs t loops opposites = cond (loops == 0 && opposites == 0) (Some (most_by_nodes arcs t)) None

-- no greedy order of a network with so many arcs and touched nodes, without loops and opposite arcs, holds more
abbrev pub Bounded : ℕ → ℕ → Option ℕ → Type 0
Bounded arcs t (Some b) = NoneHoldsMoreByNodes arcs t b
Bounded arcs t None = Unit {0}

-- both bounds of a map whose order lists t nodes
abbrev pub bounds : {N E : Type 0} → (N → ℕ) → Model N E → ℕ → MostHeld
bounds ix m t = record {
  by_half = most_by_half (length (network_of ix m)) (loops (network_of ix m));
  by_nodes = bound_by_nodes (length (network_of ix m)) t (loops (network_of ix m)) (opposites ix m);
}

abbrev pub AtMost : ℕ → Option ℕ → Type 0
AtMost h (Some b) = h ≤ b
AtMost h None = Unit {0}

-- the order of a map that edits made from a map just built holds no more than either bound
abbrev pub NoMoreAreHeld : {N E : Type 0} → (N → ℕ) → Model N E → ℕ → MostHeld → Type 0
NoMoreAreHeld {N} {E} ix m t b =
    (nodes arcs : ℕ) (es : List (Edit N E)) → m ≡ run ix (built nodes arcs) es → t ≡ length (touched (network_of ix m))
    → (held_count (greedy_order (network_of ix m)) (network_of ix m) ≤ b.by_half) × AtMost (held_count (greedy_order (network_of ix m)) (network_of ix m)) b.by_nodes
