use Rattle.std.proofs.Common.{sym, ◌∙◌, subst}
use Rattle.map_layout.specs.Layout.{model}
use Rattle.map_layout.proofs.Editing.{Edited, node_added_to, places_node_added}
use Rattle.map_model.specs.Model.{node_added_at}
use Rattle.graphmap.specs.States.{state}
use Rattle.graphmap.proofs.Holding.{kept, shows}
use Rattle.graphmap.proofs.graphmap.GraphMap.add_node.Goals as goal

pub invariant_of-self : goal.invariant_of-self
invariant_of-self g c =
    let m = c.args.self.now in
    let st = state m.tables in
    let n = c.new.result in
    let call = c.add_node.ensures in
    let after = (node_added_at (model st) n.key n.index.value).1 in
    let w = kept st m.good c.add_node.new.self after m.few (places_node_added (model st) n.key n.index.value)
    (λ k. subst (λ z. Edited z after) (sym call.state) (node_added_to st n.key n.index k)) in
    record { few = w.0; good = w.1 }

pub returns : goal.returns
returns g c =
    let m = c.args.self.now in
    let st = state m.tables in
    let n = c.new.result in
    let e = c.new.ensures in
    let call = c.add_node.ensures in
    let after = (node_added_at (model st) n.key n.index.value).1 in
    record {
      answer = call.answer ∙ (λ x. (node_added_at (model st) (e.key x) (e.index x)).0);
      shown =
          shows st m.good (state c.add_node.new.self) after g.row.N.coded g.row.E.coded
          (λ k. subst (λ z. Edited z after) (sym call.state) (node_added_to st n.key n.index k))
          ∙ (λ x. (node_added_at (model st) (e.key x) (e.index x)).1);
    }
