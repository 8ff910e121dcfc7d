-- From the ordered entries to the places of the nodes.
use Rattle.std.proofs.Common.{◌≡◌, ℕ, List, map, length, get_or, Some, None, Option, MatchOption, sym, ap, ◌∙◌, subst, arith}
use Rattle.std.proofs.lemmas.List.{length-map}
use Rattle.keys.specs.declared.node_index.NodeIndex.{NodeIndex}
use Rattle.keyed_table.specs.declared.slots.Item.{Item}
use Rattle.keyed_table.specs.Tables.{listing}
use Rattle.network.specs.Counting.{has, EachOnce}
use Rattle.network.specs.Network.{Link, touched}
use Rattle.greedy_order.specs.Part3Order.{greedy_order}
use Rattle.greedy_order.proofs.Orders.{greedy_once, greedy_has}
use Rattle.greedy_order.proofs.Promised.{the_order_is_greedy}
use Rattle.network.proofs.Touched.{touched_once}
use Rattle.fas_layout.proofs.Bridge.{greedy_length}
use Rattle.feedback_arc_set.specs.declared.fas_node.FasNode.{FasNode}
use Rattle.feedback_arc_set.specs.declared.container.FasNodeContainer.{FasNodeContainer}
use Rattle.feedback_arc_set.specs.Containers.{met_of, columns}
use Rattle.feedback_arc_set.specs.Orders.{order_in, Placed}
use Rattle.feedback_arc_set.specs.Steps.{Ranked}
use Rattle.feedback_arc_set.proofs.Reading.{map_map}

-- what is known of an answer, in other words in either case
pub matched : {X P Q : Type 0} {R S : X → Type 0} (o : Option X) → (P → Q) → ((x : X) → R x → S x) → MatchOption o P R → MatchOption o Q S
matched None f g h = f h
matched (Some x) f g h = g x h

pub order_long : (network : List Link) → length (greedy_order network) ≡ length (touched network)
order_long network = greedy_length (the_order_is_greedy network) (touched_once network)

pub ranked_placed : (network : List Link) (c : FasNodeContainer) (before after : List NodeIndex) (n : ℕ) → n ≡ length (met_of c) → Ranked network c before after → (order_in after n ≡ greedy_order network) × Placed (listing c.table) (order_in after n)
ranked_placed network c before after n len r =
    let order : order_in after n ≡ greedy_order network = ap (order_in after) len ∙ r.order in
    let t = ap length r.met in
    let long : length (order_in after n) ≡ length (met_of c) = ap length order ∙ order_long network ∙ sym (ap length r.met) in
    let items = length-map (listing c.table) (λ i. i.number) in
    let ps : get_places c ≡ (columns c).places = sym (map_map (λ (v : FasNode). v.place) (λ (i : Item NodeIndex FasNode). i.value) (listing c.table)) in (
      order,
      record {
        once = subst EachOnce (sym order) (greedy_once (the_order_is_greedy network));
        listed = λ x. ap (λ l. has l x) order ∙ greedy_has (the_order_is_greedy network) x ∙ ap (λ l. has l x) (sym r.met);
        each = λ i b.
            let p = r.places i (omega arith) in
            let e : get_or (get_places c) i 0 ≡ get_or (columns c).places i 0 = ap (λ l. get_or l i 0) ps in
            ((let q = p.0 in omega arith), ap (λ l. get_or l (get_or (get_places c) i 0) 0) order ∙ ap (λ v. get_or (greedy_order network) v 0) e ∙ p.1);
      },
    )
  where
    get_places : FasNodeContainer → List ℕ
    get_places c = map (λ n. n.value.place) (listing c.table)
