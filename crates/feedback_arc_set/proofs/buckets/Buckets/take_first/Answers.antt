use Rattle.std.proofs.Common.{get_or, None, sym, ap, ◌∙◌, subst, arith}
use Rattle.fas_layout.specs.Following.{Updated}
use Rattle.fas_layout.specs.Stages.{Capped, lifted}
use Rattle.fas_layout.proofs.Taking.{none_took, took, took_capped}
use Rattle.feedback_arc_set.specs.Containers.{columns, nodes_of}
use Rattle.feedback_arc_set.specs.Listed.{starts}
use Rattle.feedback_arc_set.specs.Nodes.{neighbours_of, blank_node}
use Rattle.feedback_arc_set.proofs.Reading.{get_d_field, unlisted_same}
use Rattle.feedback_arc_set.proofs.buckets.Buckets.take_first.Goals as goal

pub returns-in_err-taken-clause-first : goal.returns-in_err-taken-clause-first
returns-in_err-taken-clause-first c =
    let p = c.in_err-taken.ensures in
    let k = unlisted_same c.pop.new.nodes c.args.nodes.now p.kept in
    rw c.from_residual.ensures (record {
      took = λ arcs us r s. none_took c.args.self.now.arcs arcs (neighbours_of c.args.neighbours.now) (columns c.args.nodes.now) (columns c.pop.new.nodes) (starts c.args.self.now) (starts c.pop.new.self) us c.args.class s p.popped k p.sizes.size;
      capped = λ arcs us r s cap. subst (λ t. Capped c.args.self.now.arcs arcs t us) (sym p.sizes.top) cap;
      full = λ z. absurd (let n = c.if-room-eq0.false in omega arith);
      placed = k.links.placed;
      arcs = p.sizes.arcs;
      lender = p.sizes.lender;
    })

pub returns-clause-first : goal.returns-clause-first
returns-clause-first c =
    let p = c.in_ok-taken.ensures in
    let u = c.update_neighbour_node_buckets.ensures in
    let m = c.args.self.now.arcs in
    let x = c.in_ok-taken.taken.value in
    let P = neighbours_of c.args.neighbours.now in
    let t0 = columns c.args.nodes.now in
    let t1 = columns c.pop.new.nodes in
    let t2 = columns c.update_neighbour_node_buckets.new.nodes in
    let s0 = starts c.args.self.now in
    let s1 = starts c.pop.new.self in
    let s2 = starts c.update_neighbour_node_buckets.new.self in
    let k = unlisted_same c.pop.new.nodes c.args.nodes.now p.kept in
    let up = subst (λ a. Updated a (neighbours_of c.args.neighbours.now) (columns c.pop.new.nodes) (starts c.pop.new.self) (columns c.update_neighbour_node_buckets.new.nodes) (starts c.update_neighbour_node_buckets.new.self) (get_or (columns c.pop.new.nodes).first_outs c.in_ok-taken.taken.value None) (get_or (columns c.pop.new.nodes).first_ins c.in_ok-taken.taken.value None)) p.sizes.arcs u.updated in
    let d = ap (λ n. n.out_degree) c.node.ensures ∙ sym (get_d_field (λ n. n.out_degree) (nodes_of c.pop.new.nodes) c.in_ok-taken.taken.value blank_node) in
    record {
      took = λ arcs us r s. took m arcs P t0 t1 t2 s0 s1 s2 us c.args.class x s p.popped k p.sizes.size up;
      capped = λ arcs us r s. took_capped m arcs P t0 t1 s0 s1 us c.args.class x c.args.self.now.top c.update_neighbour_node_buckets.new.self.top c.node.result.out_degree s p.popped k.out_degrees d
          (u.sizes.top ∙ c.lifted-self.ensures ∙ ap (λ a. lifted a c.pop.new.self.top c.node.result.out_degree) p.sizes.arcs ∙ ap (λ t. lifted c.args.self.now.arcs t c.node.result.out_degree) p.sizes.top);
      full = λ z. absurd (let n = c.if-room-eq0.false in omega arith);
      placed = u.updated.links.placed ∙ k.links.placed;
      arcs = u.sizes.arcs ∙ p.sizes.arcs;
      lender = u.sizes.lender ∙ p.sizes.lender;
    }
