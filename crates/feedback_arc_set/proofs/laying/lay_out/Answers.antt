use Rattle.std.proofs.Common.{◌*◌, length, ap, ◌∙◌, arith}
use Rattle.fas_layout.specs.Laying.{links_from}
use Rattle.linked_list.specs.Places.{is_in, at}
use Rattle.fas_layout.proofs.Laid.{laid_none, laid_stands, laid_wide, length_links, ends_cover}
use Rattle.feedback_arc_set.specs.Containers.{columns, nodes_of}
use Rattle.feedback_arc_set.specs.Listed.{starts}
use Rattle.feedback_arc_set.specs.Nodes.{neighbours_of, blank_node}
use Rattle.feedback_arc_set.proofs.Reading.{get_d_field, names_long}
use Rattle.feedback_arc_set.proofs.laying.lay_out.Goals as goal

pub lay_all-requires-clause-laid : goal.lay_all-requires-clause-laid
lay_all-requires-clause-laid c =
    let ns = nodes_of c.args.nodes.now in
    let b = c.requires.blank in
    laid_none (neighbours_of c.args.neighbours.now) (columns c.args.nodes.now) (length ns) (2 * c.args.buckets.now.arcs) (λ z. (
      get_d_field (λ n. n.first_out) ns z blank_node ∙ ap (λ n. n.first_out) (b z),
      get_d_field (λ n. n.first_in) ns z blank_node ∙ ap (λ n. n.first_in) (b z),
      get_d_field (λ n. n.out_degree) ns z blank_node ∙ ap (λ n. n.out_degree) (b z),
      get_d_field (λ n. n.in_degree) ns z blank_node ∙ ap (λ n. n.in_degree) (b z),
    ))

pub returns-clause-stands : goal.returns-clause-stands
returns-clause-stands c =
    let m = c.args.buckets.now.arcs in
    let ns = nodes_of c.args.nodes.now in
    let N = (neighbours_of c.args.neighbours.now).nodes in
    let E = links_from (neighbours_of c.args.neighbours.now).nodes 0 c.args.buckets.now.arcs in
    let P = neighbours_of c.lay_all.new.neighbours in
    let t = columns c.lay_all.new.nodes in
    let u = columns c.file_all.new.nodes in
    let l = c.lay_all.ensures in
    let f = c.file_all.ensures in
    let w = c.requires.wide in
    let k = length_links (neighbours_of c.args.neighbours.now).nodes 0 c.args.buckets.now.arcs in
    let long = names_long c.lay_all.new.nodes c.args.nodes.now l.names in
    let s = f.sizes.size in
    laid_stands P t u (starts c.file_all.new.buckets) E m (length (nodes_of c.args.nodes.now)) (omega arith)
    (ends_cover N m (length (nodes_of c.args.nodes.now)) 0 m (omega arith) c.requires.ends)
    (omega arith) l.laid
    (rw long at (f.filed
    (λ z. ap (λ v. is_in (at v z)) l.positions ∙ ap is_in (get_d_field (λ v. v.position) ns z blank_node ∙ ap (λ v. v.position) (c.requires.blank z)))
    c.requires.empty
    (λ z r. let q = laid_wide P t (length (nodes_of c.args.nodes.now)) 0 m E l.laid (omega arith) z (omega arith) in omega arith)))
    f.kept
