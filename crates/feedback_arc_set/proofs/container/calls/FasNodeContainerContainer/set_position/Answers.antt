use Rattle.std.proofs.Common.{◌≡◌, map, get_or, set, refl, ap, ◌∙◌}
use Rattle.linked_list.specs.Places.{Position}
use Rattle.feedback_arc_set.specs.declared.fas_node.FasNode.{FasNode}
use Rattle.feedback_arc_set.specs.Containers.{nodes_of, unlisted}
use Rattle.feedback_arc_set.specs.Nodes.{blank_node}
use Rattle.feedback_arc_set.proofs.Reading.{kept_by, written_by}
use Rattle.feedback_arc_set.proofs.container.calls.FasNodeContainerContainer.set_position.Goals as goal

abbrev positioned : Position → FasNode → FasNode
positioned p n = record { position = p; out_degree = n.out_degree; in_degree = n.in_degree; first_out = n.first_out; first_in = n.first_in; place = n.place }

pub returns : goal.returns
returns c =
    let ns = nodes_of c.args.self.now in
    let ms = nodes_of c.set_node.new.self in
    let r = c.node-node.ensures ∙ ap (λ i. get_or (nodes_of c.args.self.now) i blank_node) c.new-ix.ensures in
    let w = c.set_node.ensures.written ∙ ap (λ i. set (nodes_of c.args.self.now) i (positioned c.args.position c.node-node.result)) c.new-ix.ensures in
    let n = c.set_node.ensures.names in
    let k : map unlisted (nodes_of c.set_node.new.self) ≡ map unlisted (nodes_of c.args.self.now) = kept_by unlisted ns ms c.args.i c.node-node.result _ r w refl in
    record {
      placed = written_by (λ n. n.position) ns ms c.args.i _ c.args.position w refl;
      kept = λ i. (n.slots i, n.met i, n.names i, k i);
    }
