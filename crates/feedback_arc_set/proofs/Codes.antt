-- The lent places are sets, so what is known of them under a truncation is known.
use Rattle.std.proofs.Common.{◌≡◌, ℕ, suc, Some, None, Option, refl, ap, arith}
use mathlib.Core.Logic.{∥∥₁_elim}
use base.Stored.{Coded, Coded-set, coded_ℕ, coded×, coded_list, coded_via}
use Rattle.feedback_arc_set.specs.declared.places.NeighbourPlace.{NeighbourPlace}
use Rattle.feedback_arc_set.specs.declared.places.ClassPlace.{ClassPlace}
use Rattle.feedback_arc_set.specs.declared.tables.WorkTables.{WorkTables}
use Rattle.feedback_arc_set.specs.Orders.{Clean}
use Rattle.feedback_arc_set.proofs.Reading.{fas_index_alike}

abbrev number : Option ℕ → ℕ
number None = 0
number (Some n) = suc n

number_apart : (x y : Option ℕ) → number x ≡ number y → x ≡ y
number_apart None None e = refl
number_apart None (Some n) e = absurd (omega arith)
number_apart (Some m) None e = absurd (omega arith)
number_apart (Some m) (Some n) e = let q : m ≡ n = omega arith in ap Some q

pub coded_option : Coded (Option ℕ)
coded_option = coded_via coded_ℕ number number_apart

coded_neighbour : Coded NeighbourPlace
coded_neighbour = coded_via (coded× coded_ℕ coded_option) (λ p. (p.node.value, p.next)) (λ x y e. λ i. record { node = fas_index_alike x.node y.node (ap (λ q. q.0) e) i; next = ap (λ q. q.1) e i })

coded_class : Coded ClassPlace
coded_class = coded_via coded_option (λ p. p.list.start) (λ x y e. λ i. record { list = record { start = e i } })

pub clean_known : (t : WorkTables) → ∥ Clean t ∥₁ → Clean t
clean_known t h = record {
  neighbours = ∥∥₁_elim h (Coded-set (coded_list coded_neighbour) _ _) (λ k. k.neighbours);
  classes = ∥∥₁_elim h (Coded-set (coded_list coded_class) _ _) (λ k. k.classes);
}
