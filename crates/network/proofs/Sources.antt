-- The arcs of a source's list that pass a test, counted.
use Rattle.std.proofs.Common.{◌≡◌, ℕ, Bool, List, [], ◌∷◌, length, refl, arith}
use Rattle.std.proofs.lemmas.Bool.Decides.{nat_tests}
use Rattle.std.specs.List.{filter}
use Rattle.network.specs.declared.arc.Arc.{Arc}
use Rattle.network.specs.Counting.{count}
use Rattle.network.specs.Network.{loop, loops}
use Rattle.network.specs.Sources.{links}

-- the loops are the arcs that the test for a loop keeps
pub loops_kept : {N E : Type 0} (index : N → ℕ) (arcs : List (Arc N E)) → length (filter (λ a. loop (index a.source, index a.target)) arcs) ≡ loops (links index arcs)
loops_kept index [] = refl
loops_kept index (a ∷ arcs) = let ih = loops_kept index arcs in grind (arith, nat_tests)

-- a count is of the items that the test keeps
pub kept_counted : {X : Type 0} (test : X → Bool) (xs : List X) → length (filter test xs) ≡ count test xs
kept_counted test [] = refl
kept_counted test (x ∷ xs) = let ih = kept_counted test xs in grind (arith, nat_tests)
