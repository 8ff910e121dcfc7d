use Rattle.std.proofs.Common.{length, set, sym, ap, ◌∙◌}
use Rattle.linked_list.specs.Places.{is_in, at}
use Rattle.fas_layout.specs.Columns.{class_at}
use Rattle.fas_layout.proofs.Lowered.{lost_one}
use Rattle.feedback_arc_set.specs.Containers.{columns, nodes_of}
use Rattle.feedback_arc_set.specs.Listed.{starts}
use Rattle.feedback_arc_set.proofs.Reading.{lowered_columns, unlisted_same, unlisted_long}
use Rattle.feedback_arc_set.proofs.buckets.Buckets.lower.Goals as goal

pub returns-clause-lost : goal.returns-clause-lost
returns-clause-lost c =
    let n0 = c.args.nodes.now in
    let n1 = c.remove.new.nodes in
    let n2 = c.set_node.new.self in
    let n3 = c.push_front.new.nodes in
    let s1 = c.remove.ensures.sizes in
    let s2 = c.push_front.ensures.sizes in
    let k = c.remove.ensures.kept in
    let w = lowered_columns c.args.direction (nodes_of c.remove.new.nodes) (nodes_of c.set_node.new.self) c.args.ix.value c.node.result c.node.ensures
    (c.set_node.ensures.written ∙ ap (set (nodes_of c.remove.new.nodes) c.args.ix.value) c.lowered-node.ensures) in
    lost_one c.args.direction c.args.self.now.arcs c.args.ix.value c.suitable_bucket-class.result c.suitable_bucket-class-2.result
    (columns n0) (columns n1) (columns n2) (columns n3)
    (starts c.args.self.now) (starts c.remove.new.self) (starts c.push_front.new.self)
    c.remove.ensures.filed (unlisted_same n1 n0 k)
    w.positions w.falls w.other w.links
    c.push_front.ensures.filed (unlisted_same n3 n2 c.push_front.ensures.kept)
    c.suitable_bucket-class.ensures
    (c.suitable_bucket-class-2.ensures ∙ ap (λ a. class_at a (columns c.set_node.new.self) c.args.ix.value) s1.arcs)
    s1.size (s2.size ∙ s1.size) (ap length w.positions ∙ unlisted_long n1 n0 k)
    (sym (c.if-not-is_in_list.ensures.answer ∙ ap (λ i. is_in (at (columns c.args.nodes.now).positions i)) c.get.ensures))
