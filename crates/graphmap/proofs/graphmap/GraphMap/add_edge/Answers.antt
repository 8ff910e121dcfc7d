use Rattle.std.proofs.Common.{◌∙◌}
use Rattle.map_layout.specs.Layout.{model}
use Rattle.map_layout.proofs.Editing.{edge_answers, edge_added_to, places_edge_added}
use Rattle.map_model.specs.Model.{edge_added_at}
use Rattle.graphmap.specs.States.{state}
use Rattle.graphmap.proofs.Holding.{kept, shows, fits}
use Rattle.graphmap.proofs.graphmap.GraphMap.add_edge.Goals as goal

pub add_edge-requires : goal.add_edge-requires
add_edge-requires g c = let m = c.args.self.now in fits (state m.tables) m.good m.few

pub invariant_of-self : goal.invariant_of-self
invariant_of-self g c =
    let m = c.args.self.now in
    let st = state m.tables in
    let a = c.new.result in
    let b = c.new-2.result in
    let v = c.args.weight in
    let w = kept st m.good c.add_edge.new.self (edge_added_at (model st) a.key a.index.value b.key b.index.value v).1 m.few (places_edge_added (model st) a.key b.key a.index.value b.index.value v)
    (λ k. edge_added_to a.key b.key a.index b.index v st (state c.add_edge.new.self) c.add_edge.result k c.add_edge.ensures.done) in
    record { few = w.0; good = w.1 }

pub returns : goal.returns
returns g c =
    let m = c.args.self.now in
    let st = state m.tables in
    let st' = state c.add_edge.new.self in
    let a = c.new.result in
    let b = c.new-2.result in
    let d = c.new.ensures in
    let e = c.new-2.ensures in
    let v = c.args.weight in
    let r = c.add_edge.result in
    let done = c.add_edge.ensures.done in
    record {
      answer = edge_answers a.key b.key a.index b.index v st st' r done ∙ (λ x. (edge_added_at (model st) (d.key x) (d.index x) (e.key x) (e.index x) v).0);
      shown =
          shows st m.good st' (edge_added_at (model st) a.key a.index.value b.key b.index.value v).1 g.row.N.coded g.row.E.coded (λ k. edge_added_to a.key b.key a.index b.index v st st' r k done)
          ∙ (λ x. (edge_added_at (model st) (d.key x) (d.index x) (e.key x) (e.index x) v).1);
    }
