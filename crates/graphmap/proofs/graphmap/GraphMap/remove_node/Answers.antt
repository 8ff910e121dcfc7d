use Rattle.std.proofs.Common.{ap, ◌∙◌}
use Rattle.map_layout.specs.Layout.{model}
use Rattle.map_layout.proofs.Editing.{node_removed_to, places_node_removed}
use Rattle.map_model.specs.Model.{node_removed_at}
use Rattle.graphmap.specs.States.{state}
use Rattle.graphmap.proofs.Holding.{kept, shows}
use Rattle.graphmap.proofs.graphmap.GraphMap.remove_node.Goals as goal

pub invariant_of-self : goal.invariant_of-self
invariant_of-self g c =
    let m = c.args.self.now in
    let st = state m.tables in
    let st' = state c.remove_node.new.self in
    let i = c.node_index.result.value in
    let call = c.remove_node.ensures in
    let w = kept st m.good c.remove_node.new.self (node_removed_at (model st) i).1 m.few (places_node_removed (model st) i)
    (λ k. node_removed_to i st st' k (call.rep k) (call.shown k)) in
    record { few = w.0; good = w.1 }

pub returns : goal.returns
returns g c =
    let m = c.args.self.now in
    let st = state m.tables in
    let st' = state c.remove_node.new.self in
    let i = c.node_index.result.value in
    let call = c.remove_node.ensures in
    record {
      answer = call.answer ∙ ap (λ z. (node_removed_at (model st) z).0) c.node_index.ensures;
      shown =
          shows st m.good st' (node_removed_at (model st) i).1 g.row.N.coded g.row.E.coded (λ k. node_removed_to i st st' k (call.rep k) (call.shown k))
          ∙ ap (λ z. (node_removed_at (model st) z).1) c.node_index.ensures;
    }
