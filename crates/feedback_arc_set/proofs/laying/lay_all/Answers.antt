use Rattle.std.proofs.Common.{◌+◌, ◌-◌, ◌*◌, ◌<◌, ◌∷◌, length, get_or, sym, ap, ◌∙◌, subst, arith}
use Rattle.fas_layout.specs.Laying.{Laid, link_at, links_from}
use Rattle.fas_layout.proofs.Laid.{laid_step, laid_few, length_links}
use Rattle.feedback_arc_set.specs.Containers.{columns, nodes_of}
use Rattle.feedback_arc_set.specs.Nodes.{neighbours_of}
use Rattle.feedback_arc_set.proofs.Reading.{same_names, names_long}
use Rattle.feedback_arc_set.proofs.laying.lay_all.Goals as goal

pub lay_arc-requires-clause-few : goal.lay_arc-requires-clause-few
lay_arc-requires-clause-few c =
    let inv = c.loop-i.invariant in
    let b = c.loop-i.auto.i in
    let few = c.requires.few in
    let n = names_long c.loop-i.nodes c.args.nodes.now inv.3 in
    let e = c.requires.ends (c.loop-i.i - 1) (omega arith) in
    let e0 = e.0 in let e1 = e.1 in
    let s0 = ap (λ l. get_or l (2 * (c.loop-i.i - 1) + 1) 0) inv.1 in
    let t0 = ap (λ l. get_or l (2 * (c.loop-i.i - 1)) 0) inv.1 in
    let s : (link_at (neighbours_of c.loop-i.neighbours).nodes (c.loop-i.i - 1)).0 < length (nodes_of c.args.nodes.now) = omega arith in
    let t : (link_at (neighbours_of c.loop-i.neighbours).nodes (c.loop-i.i - 1)).1 < length (nodes_of c.args.nodes.now) = omega arith in
    let k = length_links (neighbours_of c.loop-i.neighbours).nodes c.loop-i.i (c.args.arcs - c.loop-i.i) in
    let f = (laid_few (neighbours_of c.loop-i.neighbours) (columns c.loop-i.nodes) (length (nodes_of c.args.nodes.now)) (2 * c.loop-i.i) (links_from (neighbours_of c.loop-i.neighbours).nodes c.loop-i.i (c.args.arcs - c.loop-i.i)) inv.0 _ s).0 in
    let g = (laid_few (neighbours_of c.loop-i.neighbours) (columns c.loop-i.nodes) (length (nodes_of c.args.nodes.now)) (2 * c.loop-i.i) (links_from (neighbours_of c.loop-i.neighbours).nodes c.loop-i.i (c.args.arcs - c.loop-i.i)) inv.0 _ t).1 in
    (omega arith, omega arith)

pub loop-i-preserved : goal.loop-i-preserved
loop-i-preserved c =
    let inv = c.loop-i.invariant in
    let b = c.loop-i.auto.i in
    let l = c.lay_arc.ensures in
    let n = names_long c.loop-i.nodes c.args.nodes.now inv.3 in (
      laid_step (neighbours_of c.loop-i.neighbours) (neighbours_of c.lay_arc.new.neighbours) (columns c.loop-i.nodes) (columns c.lay_arc.new.nodes) (length (nodes_of c.args.nodes.now)) c.args.arcs c.loop-i.i c.loop-i-test.true b l.ends
          (λ rest h. subst (λ v. Laid (neighbours_of c.lay_arc.new.neighbours) (columns c.lay_arc.new.nodes) v (2 * (c.loop-i.i - 1)) (link_at (neighbours_of c.loop-i.neighbours).nodes (c.loop-i.i - 1) ∷ rest)) n
          (l.laid rest (subst (λ v. Laid (neighbours_of c.loop-i.neighbours) (columns c.loop-i.nodes) v (2 * (c.loop-i.i - 1) + 2) rest) (sym n) h)))
          inv.0,
      l.ends ∙ inv.1,
      l.positions ∙ inv.2,
      same_names c.lay_arc.new.nodes c.loop-i.nodes c.args.nodes.now l.names inv.3,
      λ h. l.blank (2 * c.args.arcs) (omega arith) (inv.4 h),
    )
