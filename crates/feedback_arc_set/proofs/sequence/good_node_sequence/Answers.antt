use Rattle.std.proofs.Common.{◌++◌, map, length, drop, sym, ◌∙◌, arith, rules}
use Rattle.greedy_order.specs.Part7Folded.{run}
use Rattle.fas_layout.specs.Laying.{down, links_from}
use Rattle.fas_layout.specs.Stages.{Ordered}
use Rattle.feedback_arc_set.specs.Containers.{columns, key_in}
use Rattle.feedback_arc_set.specs.Listed.{starts, order_places}
use Rattle.feedback_arc_set.specs.Nodes.{neighbours_of}
use Rattle.feedback_arc_set.proofs.Reading.{names_long}
use Rattle.feedback_arc_set.proofs.Ranking.{begins, ranked_from, classes_blank_from, blank_classes}
use Rattle.feedback_arc_set.proofs.sequence.good_node_sequence.Goals as goal

pub lay_out-requires-clause-empty : goal.lay_out-requires-clause-empty
lay_out-requires-clause-empty c = blank_classes c.args.classes.now c.requires.empty

pub returns-clause-ranked : goal.returns-clause-ranked
returns-clause-ranked c =
    let s = c.lay_out.ensures.sizes in
    let k1 = c.lay_out.ensures.names in
    let k2 = c.take_all.ensures.names in
    let n = c.len-count.ensures in
    let p = c.requires.places in
    let long = names_long c.lay_out.new.nodes c.args.nodes.now c.lay_out.ensures.names in
    let done : Ordered (key_in c.lay_out.new.nodes) (map (key_in c.lay_out.new.nodes) (run (links_from (neighbours_of c.args.neighbours.now).nodes 0 c.args.arcs) c.len-count.result (down c.len-count.result)) ++ drop c.len-count.result c.args.order.now) (order_places c.take_all.new.halves) (columns c.take_all.new.nodes) (starts c.take_all.new.buckets) =
    c.take_all.ensures.ordered (links_from (neighbours_of c.args.neighbours.now).nodes 0 c.args.arcs) _
    (begins c.args.arcs (links_from (neighbours_of c.args.neighbours.now).nodes 0 c.args.arcs) (neighbours_of c.lay_out.new.neighbours) c.lay_out.new.nodes c.lay_out.new.buckets c.args.order.now c.len-count.result (c.len-count.ensures ∙ sym long) (omega arith) s.arcs s.top (rw c.len-count.ensures c.lay_out.ensures.stands)) in
    λ network l e own.
    ranked_from network c.args.nodes.now c.lay_out.new.nodes c.take_all.new.nodes (neighbours_of c.args.neighbours.now).nodes c.args.order.now (order_places c.take_all.new.halves) _ (starts c.take_all.new.buckets) c.args.arcs c.len-count.result l c.len-count.ensures own e k1 k2 done (search rules)

pub returns-clause-classes : goal.returns-clause-classes
returns-clause-classes c =
    let s = c.lay_out.ensures.sizes in
    let n = c.len-count.ensures in
    let p = c.requires.places in
    let long = names_long c.lay_out.new.nodes c.args.nodes.now c.lay_out.ensures.names in
    let done : Ordered (key_in c.lay_out.new.nodes) (map (key_in c.lay_out.new.nodes) (run (links_from (neighbours_of c.args.neighbours.now).nodes 0 c.args.arcs) c.len-count.result (down c.len-count.result)) ++ drop c.len-count.result c.args.order.now) (order_places c.take_all.new.halves) (columns c.take_all.new.nodes) (starts c.take_all.new.buckets) =
    c.take_all.ensures.ordered (links_from (neighbours_of c.args.neighbours.now).nodes 0 c.args.arcs) _
    (begins c.args.arcs (links_from (neighbours_of c.args.neighbours.now).nodes 0 c.args.arcs) (neighbours_of c.lay_out.new.neighbours) c.lay_out.new.nodes c.lay_out.new.buckets c.args.order.now c.len-count.result (c.len-count.ensures ∙ sym long) (omega arith) s.arcs s.top (rw c.len-count.ensures c.lay_out.ensures.stands)) in
    classes_blank_from _ c.take_all.new.buckets.places.now (length c.args.classes.now) (search rules) (omega arith) done.empty
