use Rattle.std.proofs.Common.{◌≡◌, ◌+◌, ◌*◌, ◌<◌, ◌∷◌, length, sym, ◌∙◌, subst, arith}
use Rattle.std.proofs.lemmas.List.{length-map}
use Rattle.fas_layout.specs.Laying.{Laid, link_at}
use Rattle.fas_layout.proofs.Laid.{laid_arc}
use Rattle.feedback_arc_set.specs.Containers.{columns, nodes_of}
use Rattle.feedback_arc_set.specs.Nodes.{neighbours_of}
use Rattle.feedback_arc_set.proofs.Reading.{columns_sized}
use Rattle.feedback_arc_set.proofs.laying.lay_arc.Goals as goal

pub returns-clause-laid : goal.returns-clause-laid
returns-clause-laid c =
    let P = neighbours_of c.args.neighbours.now in
    let P1 = neighbours_of c.lead.new.neighbours in
    let P2 = neighbours_of c.lead-2.new.neighbours in
    let t = columns c.args.nodes.now in
    let t1 = columns c.lead.new.nodes in
    let t2 = columns c.lead-2.new.nodes in
    let n = length (nodes_of c.args.nodes.now) in
    let l1 = c.lead.ensures in
    let l2 = c.lead-2.ensures in
    let a = c.node_at-source.result.value in
    let b = c.node_at-target.result.value in
    let ends : (c.node_at-source.result.value, c.node_at-target.result.value) ≡ link_at (neighbours_of c.args.neighbours.now).nodes c.args.i = λ j. (c.node_at-source.ensures j, c.node_at-target.ensures j) in
    let ra : c.node_at-source.result.value < length (nodes_of c.args.nodes.now) = let e = c.node_at-source.ensures in let r = c.requires.ends.0 in omega arith in
    let rb : c.node_at-target.result.value < length (nodes_of c.args.nodes.now) = let e = c.node_at-target.ensures in let r = c.requires.ends.1 in omega arith in
    let rp : 2 * c.args.i + 1 < length (neighbours_of c.args.neighbours.now).nodes = let k = length-map c.args.neighbours.now (λ q. q.node.value) in let r = c.requires.room.0 in omega arith in
    let even = length-map c.args.neighbours.now (λ q. q.next) ∙ sym (length-map c.args.neighbours.now (λ q. q.node.value)) in
    λ arcs l.
    subst (λ v. Laid (neighbours_of c.lead-2.new.neighbours) (columns c.lead-2.new.nodes) (length (nodes_of c.args.nodes.now)) (2 * c.args.i) (v ∷ arcs)) ends
    (laid_arc P P1 P2 t t1 t2 n (2 * c.args.i) a b (columns_sized (nodes_of c.args.nodes.now)) even ra rb rp (sym c.node_at-target.ensures) (sym c.node_at-source.ensures) l1.leads l1.led l2.leads l2.led arcs l)
