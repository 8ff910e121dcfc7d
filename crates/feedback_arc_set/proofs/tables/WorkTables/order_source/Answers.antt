use Rattle.std.proofs.Common.{◌≡◌, length, drop, replicate, sym, ap, ◌∙◌, arith}
use Rattle.std.proofs.lemmas.List.{length-replicate}
use Rattle.keyed_table.specs.Chains.{blank_slot}
use Rattle.network.specs.Sources.{links}
use Rattle.feedback_arc_set.specs.Containers.{slots_of}
use Rattle.feedback_arc_set.specs.Orders.{node_places, entry_places, order_places}
use Rattle.feedback_arc_set.proofs.Placing.{matched, ranked_placed}
use Rattle.feedback_arc_set.proofs.tables.WorkTables.order_source.Goals as goal

pub returns-clause-ordered : goal.returns-clause-ordered
returns-clause-ordered g c =
    let net = links g.S.Node.NodeKey.index (g.S.ArcSource.arcs c.args.source.now) in
    let before = order_places c.args.self.now in
    let after = c.order_nodes.new.order in
    let slots : slots_of c.clear.new.self ≡ length (entry_places c.args.self.now) = ap length c.clear.ensures.blank ∙ length-replicate _ blank_slot in
    let most : c.min-most.result ≡ node_places c.args.self.now =
    let a = c.min-most.ensures in let b = c.min.ensures in let f = c.free-free.ensures in let l = ap length c.clear.ensures.none in omega arith in
    matched c.order_nodes.result
    (λ q. ((let b = q.0 in omega arith), record { none = q.1; blank = q.2 ∙ ap (λ n. replicate n blank_slot) slots; order = q.3 }))
    (λ n q.
    let k = q.2 in
    let r = ranked_placed net c.order_nodes.new.nodes before after n q.0 q.2 in (
      (let b = q.1 in omega arith),
      record {
        count = q.0 ∙ ap length k.met;
        order = r.0;
        rest = ap (λ v. drop v c.order_nodes.new.order) q.0 ∙ k.rest ∙ ap (λ v. drop v (order_places c.args.self.now)) (sym q.0);
        long = omega arith;
        placed = r.1;
      },
    ))
    c.order_nodes.ensures.ordered
