-- The order of the third part in another form, for proofs that follow code step by step; nothing that is promised speaks of it.
-- Taking source nodes makes no sink, so the rounds come to this: take a sink, else a source node, else a node of the highest class.
use Rattle.std.specs.Prelude.{◌≡◌, ℕ, zero, suc, Bool, true, false, cond, List, [], ◌∷◌, ◌++◌, map, reverse, length, ◌==◌, nat_eq}
use Rattle.std.proofs.Math.Option.{Option, none, some}
use Rattle.network.specs.Network.{Link, touched}
use Rattle.greedy_order.specs.Part1Degrees.{out_degree, in_degree}
use Rattle.greedy_order.specs.Part3Order.{below, after_taking, greedy_order}

-- the first node that passes
abbrev pub first : (ℕ → Bool) → List ℕ → Option ℕ
first test [] = none
first test (y ∷ ys) = cond (test y) (some y) (first test ys)

-- the first node of x ∷ ys that no other has a higher difference than
abbrev pub best_of : List Link → List ℕ → ℕ → List ℕ → ℕ
best_of arcs untaken x [] = x
best_of arcs untaken x (y ∷ ys) = best_of arcs untaken (cond (below arcs untaken x y) y x) ys

-- whether the node that is taken goes behind the rest, and the node: from the first sink and the first source node, if there are any
abbrev pub chosen : List Link → List ℕ → ℕ → List ℕ → Option ℕ → Option ℕ → Bool × ℕ
chosen arcs untaken u us (some x) source = (true, x)
chosen arcs untaken u us none (some x) = (false, x)
chosen arcs untaken u us none none = (false, best_of arcs untaken u us)

-- the choice among the untaken nodes u ∷ us
unfoldable pub choose : List Link → ℕ → List ℕ → Bool × ℕ
choose arcs u us =
    let untaken = u ∷ us in
    chosen arcs untaken u us (first (λ x. nat_eq (out_degree arcs untaken x) 0) untaken) (first (λ x. nat_eq (in_degree arcs untaken x) 0) untaken)

abbrev pub put : Bool × ℕ → List ℕ → List ℕ
put c rest = cond c.0 (rest ++ (c.1 ∷ [])) (c.1 ∷ rest)

-- at most n takings
abbrev pub run : List Link → ℕ → List ℕ → List ℕ
run arcs zero untaken = []
run arcs (suc n) [] = []
run arcs (suc n) (u ∷ us) = let c = choose arcs u us in put c (run arcs n (after_taking arcs c.1 (u ∷ us)))

unfoldable pub folded_order : List Link → List ℕ
folded_order arcs = run arcs (length (touched arcs)) (reverse (touched arcs))

-- The order looks at nodes only to tell them apart: under other indices the nodes come in the same order.
abbrev pub TheOrderOfRenamedNodesIsRenamed : Type 0
TheOrderOfRenamedNodesIsRenamed = (f : ℕ → ℕ) → ((x y : ℕ) → (f x == f y) ≡ (x == y)) → (arcs : List Link) → greedy_order (map (λ a. (f a.0, f a.1)) arcs) ≡ map f (greedy_order arcs)
