-- Link places that hold nothing.
use Rattle.std.proofs.Common.{◌≡◌, ℕ, zero, suc, ◌*◌, ◌≤◌, true, ◌&&◌, leb, length, sym, refl, ◌∙◌, arith}
use Rattle.std.proofs.lemmas.List.{length-map, length-replicate}
use Rattle.std.proofs.lemmas.Bool.{and_parts, leb-true}
use Rattle.keyed_table.specs.Chains.{room_of}
use Rattle.map_layout.specs.Layout.{Idle}
use Rattle.map_layout.specs.Edits.{Good}
use Rattle.map_layout.proofs.Building.{empty_good}
use Rattle.graphmap.specs.Places.{blank_place, blank_places, neighbors, positions_of}
use Rattle.graphmap.specs.Capacity.{counts_fit}
use Rattle.graphmap.specs.States.{emptied}

module _ (N : Type 0) where
  all_idle : (k p : ℕ) → Idle (positions_of {N = N} (blank_places k)) p
  all_idle zero p = refl
  all_idle (suc k) zero = refl
  all_idle (suc k) (suc p) = all_idle k p

  pub many_positions : (k : ℕ) → length (positions_of {N = N} (blank_places k)) ≡ k
  many_positions k = length-map (blank_places {N = N} k) (λ p. p.position) ∙ length-replicate k blank_place

  many_neighbors : (k : ℕ) → length (neighbors {N = N} (blank_places k)) ≡ k
  many_neighbors k = length-map (blank_places {N = N} k) (λ p. p.neighbor) ∙ length-replicate k blank_place

pub emptied_good : (N E : Type 0) (n m k : ℕ) → 2 * m ≤ k → Good (emptied N E n m k)
emptied_good N E n m k h =
    empty_good N E (neighbors (blank_places k)) (positions_of {N = N} (blank_places k)) n m (all_idle N k) (let e = many_positions N k in omega arith) (many_neighbors N k ∙ sym (many_positions N k))

-- ---- places that fit
pub record Fits (n m k : ℕ) : Type 0 where
  pub nodes : n ≤ 4096
  pub arcs : m ≤ 16384
  pub links : 2 * m ≤ k

pub fits : (n m k : ℕ) → counts_fit n m k ≡ true → Fits n m k
fits n m k h =
    let a = and_parts (leb n 4096) (leb m 16384 && leb (2 * m) k) h in
    let b = and_parts (leb m 16384) (leb (2 * m) k) a.1 in
    record { nodes = leb-true n 4096 a.0; arcs = leb-true m 16384 b.0; links = leb-true (2 * m) k b.1 }

pub room_is : (n : ℕ) → n ≤ 16384 → room_of n ≡ n
room_is n h = omega arith
