use Rattle.std.proofs.Common.{set, refl, ap, ◌∙◌}
use Rattle.feedback_arc_set.specs.Containers.{nodes_of}
use Rattle.feedback_arc_set.specs.Nodes.{placed_node}
use Rattle.feedback_arc_set.proofs.Reading.{kept_by, written_by}
use Rattle.feedback_arc_set.proofs.container.FasNodeContainer.set_place.Goals as goal

pub returns-clause-written : goal.returns-clause-written
returns-clause-written c =
    let ns = nodes_of c.args.self.now in
    let ms = nodes_of c.set_node.new.self in
    let i = c.args.ix.value in
    let old = c.node.result in
    let new = placed_node c.args.place c.node.result in
    let e = c.node.ensures in
    let w = c.set_node.ensures.written ∙ ap (set (nodes_of c.args.self.now) c.args.ix.value) c.placed-node.ensures in
    record {
      positions = kept_by (λ n. n.position) ns ms i old new e w refl;
      out_degrees = kept_by (λ n. n.out_degree) ns ms i old new e w refl;
      in_degrees = kept_by (λ n. n.in_degree) ns ms i old new e w refl;
      first_outs = kept_by (λ n. n.first_out) ns ms i old new e w refl;
      first_ins = kept_by (λ n. n.first_in) ns ms i old new e w refl;
      places = written_by (λ n. n.place) ns ms i new c.args.place w refl;
    }
