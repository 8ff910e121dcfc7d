-- Degrees as counts, and the neighbours that the arcs name.
use Rattle.std.proofs.Common.{◌≡◌, ℕ, ◌≤◌, Bool, List, [], ◌∷◌, length, refl, ◌∙◌, arith}
use Rattle.network.specs.Counting.{count, has, without}
use Rattle.network.specs.Network.{Link, from_to}
use Rattle.greedy_order.specs.Part3Order.{to_front, all_to_front, out_neighbours, in_neighbours, after_taking}
use Rattle.fas_layout.specs.Following.{occurrences}
use Rattle.fas_layout.proofs.Followed.{has_front}

pub occurrences_out : (arcs : List Link) (x y : ℕ) → occurrences (out_neighbours arcs x) y ≡ from_to arcs x y
unfolding from_to
occurrences_out [] x y = refl
occurrences_out (a ∷ arcs) x y = let ih = occurrences_out arcs x y in grind arith

pub occurrences_in : (arcs : List Link) (x y : ℕ) → occurrences (in_neighbours arcs x) y ≡ from_to arcs y x
unfolding from_to
occurrences_in [] x y = refl
occurrences_in (a ∷ arcs) x y = let ih = occurrences_in arcs x y in grind arith

pub has_fronts : (l us : List ℕ) (z : ℕ) → has (all_to_front l us) z ≡ has us z
has_fronts [] us z = refl
has_fronts (y ∷ l) us z = has_fronts l (to_front y us) z ∙ has_front y us z

pub has_taking : (arcs : List Link) (x : ℕ) (us : List ℕ) (z : ℕ) → has (after_taking arcs x us) z ≡ has (without x us) z
unfolding after_taking
has_taking arcs x us z = has_fronts (in_neighbours arcs x) (all_to_front (out_neighbours arcs x) (without x us)) z ∙ has_fronts (out_neighbours arcs x) (without x us) z

pub taking_is : (arcs : List Link) (x : ℕ) (us : List ℕ) → after_taking arcs x us ≡ all_to_front (in_neighbours arcs x) (all_to_front (out_neighbours arcs x) (without x us))
unfolding after_taking
taking_is arcs x us = refl

pub count_le : (f : Link → Bool) (arcs : List Link) → count f arcs ≤ length arcs
count_le f [] = omega arith
count_le f (a ∷ arcs) = let ih = count_le f arcs in grind arith
