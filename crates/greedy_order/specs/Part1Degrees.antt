-- Degrees among the nodes that are not yet taken.
-- An order is made by taking one node after another. Arcs at a taken node count no more.
use Rattle.std.specs.Prelude.{ℕ, ◌&&◌, List, ◌==◌}
use Rattle.network.specs.Counting.{count, has}
use Rattle.network.specs.Network.{Link}

-- how many arcs run from x to untaken nodes; a loop at an untaken x is one of them
unfoldable pub out_degree : List Link → List ℕ → ℕ → ℕ
out_degree arcs untaken x = count (λ a. (a.0 == x) && has untaken a.1) arcs

-- how many arcs run to x from untaken nodes; a loop at an untaken x is one of them
unfoldable pub in_degree : List Link → List ℕ → ℕ → ℕ
in_degree arcs untaken x = count (λ a. (a.1 == x) && has untaken a.0) arcs
