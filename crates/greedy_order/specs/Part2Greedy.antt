-- The steps of Eades, Lin and Smyth (1993), with ties left free: of several nodes that could be taken any may be.
-- Whatever is proved of this relation holds for every way to break ties.
use Rattle.std.specs.Prelude.{◌≡◌, ℕ, ◌+◌, ◌≤◌, true, List, [], ◌∷◌, ◌++◌}
use Rattle.network.specs.Counting.{has, without}
use Rattle.network.specs.Network.{Link}
use Rattle.greedy_order.specs.Part1Degrees.{out_degree, in_degree}

-- no untaken node is a sink: each has an arc to an untaken node
abbrev pub NoSink : List Link → List ℕ → Type 0
NoSink arcs untaken = (y : ℕ) → has untaken y ≡ true → 1 ≤ out_degree arcs untaken y

-- no untaken node is a source node: each has an arc from an untaken node
abbrev pub NoSource : List Link → List ℕ → Type 0
NoSource arcs untaken = (y : ℕ) → has untaken y ≡ true → 1 ≤ in_degree arcs untaken y

-- no untaken node has a higher difference, out-degree less in-degree, than x.
-- The difference may be negative, so sums are compared: out y − in y ≤ out x − in x
abbrev pub Highest : List Link → List ℕ → ℕ → Type 0
Highest arcs untaken x = (y : ℕ) → has untaken y ≡ true → out_degree arcs untaken y + in_degree arcs untaken x ≤ out_degree arcs untaken x + in_degree arcs untaken y

-- Greedy arcs untaken order: the steps can make this order of the untaken nodes.
-- A sink goes behind the nodes that are left, any other node that is taken goes before them.
pub data Greedy (arcs : List Link) : List ℕ → List ℕ → Type 0 where
  done : Greedy arcs [] []
  sink : {untaken rest : List ℕ} (x : ℕ) → has untaken x ≡ true → out_degree arcs untaken x ≡ 0 → Greedy arcs (without x untaken) rest → Greedy arcs untaken (rest ++ (x ∷ []))
  source : {untaken rest : List ℕ} (x : ℕ) → has untaken x ≡ true → NoSink arcs untaken → in_degree arcs untaken x ≡ 0 → Greedy arcs (without x untaken) rest → Greedy arcs untaken (x ∷ rest)
  best : {untaken rest : List ℕ} (x : ℕ) → has untaken x ≡ true → NoSink arcs untaken → NoSource arcs untaken → Highest arcs untaken x → Greedy arcs (without x untaken) rest → Greedy arcs untaken (x ∷ rest)
