-- Walks along the arcs of a network.
use Rattle.std.specs.Prelude.{◌≡◌, ℕ, List, [], ◌∷◌}
use Rattle.network.specs.Network.{Link, IsArcOf}

-- a way from s to t along arcs of the network: the first arc leaves s, each next one leaves the node that the arc before it reached, and the last reaches t
abbrev pub Walk : List Link → ℕ → List Link → ℕ → Type 0
Walk arcs s [] t = s ≡ t
Walk arcs s (a ∷ walk) t = (a.0 ≡ s) × IsArcOf arcs a × Walk arcs a.1 walk t

-- a closed walk has an arc, and comes back to the node that its first arc leaves
abbrev pub ClosedWalk : List Link → List Link → Type 0
ClosedWalk arcs [] = ⊥
ClosedWalk arcs (a ∷ walk) = Walk arcs a.0 (a ∷ walk) a.0

abbrev pub NoClosedWalk : List Link → Type 0
NoClosedWalk arcs = (walk : List Link) → ClosedWalk arcs walk → ⊥
