-- Places in an order of nodes, and the arcs that an order holds.
use Rattle.std.specs.Prelude.{ℕ, suc, Bool, cond, List, [], ◌∷◌, ◌==◌, nat_le}
use Rattle.network.specs.Counting.{count, keep}
use Rattle.network.specs.Network.{Link}

-- the place of a node in an order, counted from 0; a node that the order lacks gets the place past its end
abbrev pub place : List ℕ → ℕ → ℕ
place [] x = 0
place (y ∷ ys) x = cond (y == x) 0 (suc (place ys x))

-- an order holds an arc that does not lead to a later place
unfoldable pub held : List ℕ → Link → Bool
held order a = nat_le (place order a.1) (place order a.0)

-- how many arcs of a network an order holds, a repeated arc each time
abbrev pub held_count : List ℕ → List Link → ℕ
held_count order arcs = count (held order) arcs

-- the arcs that an order holds, in the network's sequence
abbrev pub held_arcs : List ℕ → List Link → List Link
held_arcs order arcs = keep (held order) arcs
