-- What an arc source answers for.
use Rattle.std.specs.Prelude.{ℕ, List, map}
use Rattle.network.specs.declared.arc.Arc.{Arc}
use Rattle.network.specs.Network.{Link}

-- arcs with their weights left out and each node as its index
abbrev pub links : {N E : Type 0} → (N → ℕ) → List (Arc N E) → List Link
links index arcs = map (λ a. (index a.source, index a.target)) arcs
