use Rattle.std.proofs.Common.{map, get_or, None, sym, ap, ◌∙◌, subst}
use Rattle.network.specs.declared.direction.CompactDirection.TheVariants.{Incoming, Outgoing}
use Rattle.fas_layout.specs.Following.{LostAll}
use Rattle.fas_layout.proofs.Followed.{updated}
use Rattle.feedback_arc_set.specs.Containers.{columns, nodes_of}
use Rattle.feedback_arc_set.specs.Listed.{starts}
use Rattle.feedback_arc_set.specs.Nodes.{neighbours_of, blank_node}
use Rattle.feedback_arc_set.proofs.Reading.{get_d_field}
use Rattle.feedback_arc_set.proofs.buckets.Buckets.update_neighbour_node_buckets.Goals as goal

pub returns-clause-updated : goal.returns-clause-updated
returns-clause-updated c =
    let P = neighbours_of c.args.neighbours.now in
    let t0 = columns c.args.nodes.now in
    let t1 = columns c.lower_all.new.nodes in
    let t2 = columns c.lower_all-2.new.nodes in
    let s0 = starts c.args.self.now in
    let s1 = starts c.lower_all.new.self in
    let s2 = starts c.lower_all-2.new.self in
    let fo = ap (λ n. n.first_out) c.node-node.ensures ∙ sym (get_d_field (λ n. n.first_out) (nodes_of c.args.nodes.now) c.args.ix.value blank_node) in
    let fi = ap (λ n. n.first_in) c.node-node.ensures ∙ sym (get_d_field (λ n. n.first_in) (nodes_of c.args.nodes.now) c.args.ix.value blank_node) in
    updated c.args.self.now.arcs P t0 t1 t2 s0 s1 s2 _ _
    (subst (LostAll Incoming c.args.self.now.arcs (neighbours_of c.args.neighbours.now) (columns c.args.nodes.now) (starts c.args.self.now) (columns c.lower_all.new.nodes) (starts c.lower_all.new.self)) fo c.lower_all.ensures.lost)
    (subst (λ m. LostAll Outgoing m (neighbours_of c.args.neighbours.now) (columns c.lower_all.new.nodes) (starts c.lower_all.new.self) (columns c.lower_all-2.new.nodes) (starts c.lower_all-2.new.self) (get_or (map (λ n. n.first_in) (nodes_of c.args.nodes.now)) c.args.ix.value None)) c.lower_all.ensures.sizes.arcs
    (subst (LostAll Outgoing c.lower_all.new.self.arcs (neighbours_of c.args.neighbours.now) (columns c.lower_all.new.nodes) (starts c.lower_all.new.self) (columns c.lower_all-2.new.nodes) (starts c.lower_all-2.new.self)) fi c.lower_all-2.ensures.lost))
