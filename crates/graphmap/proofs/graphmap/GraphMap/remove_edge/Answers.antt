use Rattle.std.proofs.Common.{refl, ◌∙◌}
use Rattle.map_layout.specs.Layout.{model}
use Rattle.map_layout.proofs.Editing.{removal_answers, edge_removed_to}
use Rattle.map_model.specs.Model.{edge_removed_at}
use Rattle.graphmap.specs.States.{state}
use Rattle.graphmap.proofs.Holding.{kept, shows}
use Rattle.graphmap.proofs.graphmap.GraphMap.remove_edge.Goals as goal

pub invariant_of-self : goal.invariant_of-self
invariant_of-self g c =
    let m = c.args.self.now in
    let st = state m.tables in
    let ends = c.between.result in
    let w = kept st m.good c.remove_edge.new.self (edge_removed_at (model st) ends.source.value ends.target.value).1 m.few refl
    (edge_removed_to ends.source ends.target st (state c.remove_edge.new.self) c.remove_edge.result c.remove_edge.ensures.done) in
    record { few = w.0; good = w.1 }

pub returns : goal.returns
returns g c =
    let m = c.args.self.now in
    let st = state m.tables in
    let st' = state c.remove_edge.new.self in
    let ends = c.between.result in
    let e = c.between.ensures in
    let r = c.remove_edge.result in
    let done = c.remove_edge.ensures.done in
    record {
      answer = removal_answers ends.source ends.target st st' r done ∙ (λ x. (edge_removed_at (model st) (e.source x) (e.target x)).0);
      shown =
          shows st m.good st' (edge_removed_at (model st) ends.source.value ends.target.value).1 g.row.N.coded g.row.E.coded (edge_removed_to ends.source ends.target st st' r done)
          ∙ (λ x. (edge_removed_at (model st) (e.source x) (e.target x)).1);
    }
