-- Maps are a set, where keys and weights are.
use Rattle.std.proofs.Common.{◌≡◌, ℕ, Bool, true, false, refl, arith}
use base.Stored.{Coded, coded_ℕ, coded_bool, coded×, coded_list, coded_via}
use Rattle.network.specs.declared.direction.CompactDirection.{CompactDirection}
use Rattle.network.specs.declared.direction.CompactDirection.TheVariants.{Outgoing, Incoming}
use Rattle.map_model.specs.Model.{Link, Node, Arc, Model}

abbrev bit : CompactDirection → Bool
bit Outgoing = true
bit Incoming = false

bit_inj : (x y : CompactDirection) → bit x ≡ bit y → x ≡ y
bit_inj Outgoing Outgoing e = refl
bit_inj Outgoing Incoming e = absurd (let z : ◌≡◌ {A = ℕ} 0 1 = cc in omega arith)
bit_inj Incoming Outgoing e = absurd (let z : ◌≡◌ {A = ℕ} 0 1 = cc in omega arith)
bit_inj Incoming Incoming e = refl

coded_direction : Coded CompactDirection
coded_direction = coded_via coded_bool bit bit_inj

module _ {N : Type 0} (n : Coded N) where
  coded_link : Coded (Link N)
  coded_link = coded_via (coded× n (coded× coded_ℕ coded_direction)) (λ k. (k.key, (k.index, k.direction))) (λ x y e. λ i. record { key = (e i).0; index = (e i).1.0; direction = (e i).1.1 })

  coded_node : Coded (Node N)
  coded_node = coded_via (coded× n (coded× coded_ℕ (coded_list coded_link))) (λ k. (k.key, (k.index, k.links))) (λ x y e. λ i. record { key = (e i).0; index = (e i).1.0; links = (e i).1.1 })

  module _ {E : Type 0} (w : Coded E) where
    coded_arc : Coded (Arc N E)
    coded_arc = coded_via (coded× n (coded× coded_ℕ (coded× n (coded× coded_ℕ w)))) (λ k. (k.source, (k.source_index, (k.target, (k.target_index, k.weight)))))
        (λ x y e. λ i. record { source = (e i).0; source_index = (e i).1.0; target = (e i).1.1.0; target_index = (e i).1.1.1.0; weight = (e i).1.1.1.1 })

    pub coded_model : Coded (Model N E)
    coded_model = coded_via (coded× (coded_list coded_node) (coded× (coded_list coded_arc) (coded× coded_ℕ coded_ℕ))) (λ m. (m.nodes, (m.arcs, (m.node_places, m.arc_places))))
        (λ x y e. λ i. record { nodes = (e i).0; arcs = (e i).1.0; node_places = (e i).1.1.0; arc_places = (e i).1.1.1 })
