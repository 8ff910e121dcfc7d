-- A map that has no arc with an opposite has no opposite arcs.
use Rattle.std.proofs.Common.{◌≡◌, ℕ, ◌≤◌, Bool, true, false, cond, not, ◌&&◌, eqb, List, [], ◌∷◌, map, length, Some, None, Option, sym, refl, ap, ◌∙◌, subst, arith}
use lib.ListN.{length-map}
use Rattle.std.proofs.lemmas.Bool.Decides.{nat_tests}
use Rattle.std.proofs.lemmas.Bool.{eqb-true}
use Rattle.network.specs.declared.arc.Arc.{Arc}
use Rattle.network.specs.Counting.{count}
use Rattle.network.specs.Network.{Link, loop, loops, opposite, from_to, NoOppositeArcs, touched}
use Rattle.network.specs.Places.{held_count}
use Rattle.network.specs.Sources.{links}
use Rattle.map_model.specs.Lists as lists
use Rattle.map_model.specs.Model as model
use Rattle.map_model.specs.Model.{Model, between, built, run}
use Rattle.map_model.specs.Shown.{triple}
use Rattle.map_model.specs.Sound.{ArcStored, Stored}
use Rattle.map_model.proofs.Showing.{every_run_keeps_the_map}
use Rattle.graphmap.specs.Sources.{shown_arc, arcs_shown}
use Rattle.greedy_order.specs.Part3Order.{greedy_order}
use Rattle.greedy_order.specs.Part6MostHeld.{most_by_half, most_by_nodes, NoneHoldsMoreByHalf}
use Rattle.greedy_order.proofs.Promised.{the_order_is_greedy}
use Rattle.replay.specs.Runs.{network_of}
use Rattle.most_held.specs.declared.MostHeld.{MostHeld}
use Rattle.most_held.specs.Bounds.{opposites, bound_by_nodes, Bounded, bounds, AtMost, NoMoreAreHeld}

-- an arc that a list shows from x to y is stored from x to y
shown_is_stored : {N E : Type 0} (ix : N → ℕ) (l : List (model.Arc N E)) → lists.All (ArcStored ix) l → (x y : ℕ)
    → 1 ≤ from_to (links ix (map shown_arc (map triple l))) x y → lists.has (between x y) l ≡ true
unfolding from_to
shown_is_stored ix [] s x y h = absurd (omega (arith, h))
shown_is_stored ix (a ∷ l) s x y h =
    let ih = shown_is_stored ix l s.1 x y in
    let p = s.0.source in
    let q = s.0.target in
    grind (arith, nat_tests)

-- where no arc passes the test "no loop, and its opposite is there", none from x to y does
none_from : {N E : Type 0} (ix : N → ℕ) (there : ℕ → ℕ → Bool) (arcs : List (Arc N E)) (x y : ℕ)
    → count (λ a. not (loop (ix a.source, ix a.target)) && there (ix a.target) (ix a.source)) arcs ≡ 0
    → 1 ≤ from_to (links ix arcs) x y → (not (eqb x y) && there y x) ≡ false
unfolding from_to
none_from ix there [] x y z h = absurd (omega (arith, h))
none_from ix there (a ∷ arcs) x y z h =
    let ih = none_from ix there arcs x y in
    let p = eqb-true (ix a.source) x in
    let q = eqb-true (ix a.target) y in
    grind (arith, nat_tests)

no_opposites : {N E : Type 0} (ix : N → ℕ) (m : Model N E) → Stored ix m → opposites ix m ≡ 0 → NoOppositeArcs (network_of ix m)
no_opposites ix m s z a b ha hb = go (opposite a b) refl
  where
    go : (t : Bool) → t ≡ opposite a b → opposite a b ≡ false
    go false e = sym e
    go true e =
        let there = shown_is_stored ix m.arcs s.arcs b.0 b.1 hb in
        let none = none_from ix (λ i j. lists.has (between i j) m.arcs) (arcs_shown m) a.0 a.1 z ha in
        let p = eqb-true a.0 b.1 in
        let q = eqb-true a.1 b.0 in
        absurd (grind (arith, nat_tests))

-- the bounds from the counts that the calls answer
pub are_bounds : {N E : Type 0} (ix : N → ℕ) (m : Model N E) (t arcs l p half : ℕ) (by : Option ℕ)
    → arcs ≡ length (arcs_shown m) → l ≡ loops (network_of ix m) → p ≡ opposites ix m → half ≡ most_by_half arcs l → by ≡ bound_by_nodes arcs t l p
    → ◌≡◌ {A = MostHeld} (record { by_half = half; by_nodes = by }) (bounds ix m t)
are_bounds ix m t arcs l p half by ea el ep eh eb =
    let long = length-map (arcs_shown m) (λ a. (ix a.source, ix a.target)) in
    let same : arcs ≡ length (network_of ix m) = ea ∙ sym long in
    cc

bounded_by : (net : List Link) (t l p : ℕ) (by : Option ℕ) → by ≡ bound_by_nodes (length net) t l p → Bounded (length net) t by
    → l ≡ loops net → t ≡ length (touched net) → (p ≡ 0 → NoOppositeArcs net) → AtMost (held_count (greedy_order net) net) by
bounded_by net t l p None e h el et free = tt
bounded_by net t l p (Some b) e h el et free = go (eqb l 0) (eqb p 0) refl refl e
  where
    go : (x y : Bool) → x ≡ eqb l 0 → y ≡ eqb p 0 → Some b ≡ cond (x && y) (Some (most_by_nodes (length net) t)) None → held_count (greedy_order net) net ≤ b
    go true true ex ey s = h net (greedy_order net) (the_order_is_greedy net) (sym el ∙ eqb-true l 0 (sym ex)) (free (eqb-true p 0 (sym ey))) refl (sym et)
    go true false ex ey s = absurd (let z : ◌≡◌ {A = ℕ} 0 1 = cc in omega arith)
    go false y ex ey s = absurd (let z : ◌≡◌ {A = ℕ} 0 1 = cc in omega arith)

pub no_more_are_held : {N E : Type 0} (ix : N → ℕ) (m : Model N E) (t arcs l p half : ℕ) (by : Option ℕ)
    → arcs ≡ length (arcs_shown m) → l ≡ loops (network_of ix m) → p ≡ opposites ix m → by ≡ bound_by_nodes arcs t l p
    → NoneHoldsMoreByHalf arcs l half → Bounded arcs t by
    → NoMoreAreHeld ix m t (record { by_half = half; by_nodes = by })
no_more_are_held ix m t arcs l p half by ea el ep eb nh nb nodes places es e et =
    let net = network_of ix m in
    let long = length-map (arcs_shown m) (λ a. (ix a.source, ix a.target)) in
    let same : length net ≡ arcs = long ∙ sym ea in
    let stored : Stored ix m = subst (Stored ix) (sym e) (every_run_keeps_the_map ix nodes places es).stored in (
      nh net (greedy_order net) (the_order_is_greedy net) same (sym el),
      bounded_by net t l p by (eb ∙ ap (λ k. bound_by_nodes k t l p) (sym same)) (subst (λ k. Bounded k t by) (sym same) nb) el et (λ z. no_opposites ix m stored (sym ep ∙ z)),
    )
