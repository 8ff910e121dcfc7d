-- Along arcs that are not held the place rises, so no walk comes back without a held arc. This holds of any list as an order.
use Rattle.std.proofs.Common.{◌≡◌, ℕ, ◌+◌, ◌<◌, ◌≤◌, true, false, List, [], ◌∷◌, length, ap, ⊎_elim, arith}
use Rattle.std.proofs.lemmas.Bool.Decides.{nat_tests}
use Rattle.std.proofs.lemmas.Bool.{cases_lt}
use Rattle.network.specs.Counting.{count}
use Rattle.network.specs.Network.{Link}
use Rattle.network.specs.Walks.{Walk, ClosedWalk}
use Rattle.network.specs.Places.{held, held_count, place}

pub loop_held : (order : List ℕ) (x : ℕ) → held order (x, x) ≡ true
unfolding held
loop_held order x = grind (arith, nat_tests)

held_false : (order : List ℕ) (a : Link) → held order a ≡ false → place order a.0 < place order a.1
unfolding held
held_false order a h = grind (arith, nat_tests)

-- along arcs that are not held, the place rises
pub walk_up : (arcs : List Link) (order : List ℕ) (s : ℕ) (w : List Link) (t : ℕ) → Walk arcs s w t → count (held order) w ≡ 0 → place order s + length w ≤ place order t
walk_up arcs order s [] t e z = omega (arith, ap (place order) e)
walk_up arcs order s (a ∷ w) t h z =
    let ih = walk_up arcs order a.1 w t h.2 in
    let e = ap (place order) h.0 in
    let up = held_false order a in
    grind arith

pub closed_held : (arcs : List Link) (order : List ℕ) (walk : List Link) → ClosedWalk arcs walk → 1 ≤ held_count order walk
closed_held arcs order [] h = absurd h
closed_held arcs order (a ∷ walk) h = ⊎_elim (λ l. absurd (none (omega arith))) (λ le. le) (cases_lt (held_count order (a ∷ walk)) 1)
  where
    none : held_count order (a ∷ walk) ≡ 0 → ⊥
    none z = let up = walk_up arcs order a.0 (a ∷ walk) a.0 h z in omega arith
