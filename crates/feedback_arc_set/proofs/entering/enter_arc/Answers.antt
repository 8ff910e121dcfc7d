use Rattle.std.proofs.Common.{◌+◌, ◌*◌, arith}
use Rattle.std.proofs.lemmas.List.{length-map}
use Rattle.feedback_arc_set.specs.Containers.{met_of}
use Rattle.feedback_arc_set.specs.Nodes.{neighbours_of}
use Rattle.feedback_arc_set.proofs.Finding.{refused_source, refused_target, arc_entered, places_written}
use Rattle.feedback_arc_set.proofs.entering.enter_arc.Goals as goal

pub returns-in_err-source-clause-refused : goal.returns-in_err-source-clause-refused
returns-in_err-source-clause-refused c = λ z links l e m. refused_source links c.args.i c.args.source.value c.args.target.value l e c.args.most (met_of c.args.nodes.now) m c.in_err-source.ensures.met

pub returns-in_err-target-clause-refused : goal.returns-in_err-target-clause-refused
returns-in_err-target-clause-refused c = λ z links l e m. refused_target links c.args.i c.args.source.value c.args.target.value l e c.args.most (met_of c.args.nodes.now) (met_of c.enter.new.self) m c.in_ok-source.ensures.met.0.met c.in_err-target.ensures.met

pub returns-clause-entered : goal.returns-clause-entered
returns-clause-entered c =
    let p = c.in_ok-source.ensures.met in
    let q = c.in_ok-target.ensures.met in
    let ps = c.args.neighbours.now in
    let qs = c.set_neighbour.new.places in
    let rs = c.set_neighbour-2.new.places in
    let w = places_written ps qs rs (2 * c.args.i) (2 * c.args.i + 1) c.in_ok-source.source c.in_ok-target.target c.set_neighbour.ensures c.set_neighbour-2.ensures in
    let k = length-map c.args.neighbours.now (λ v. v.node.value) in
    λ links l e h. arc_entered links c.args.i c.args.source.value c.args.target.value l e c.args.nodes.now c.enter.new.self c.enter-2.new.self (neighbours_of ps).nodes (neighbours_of rs).nodes c.in_ok-source.source.value c.in_ok-target.target.value p.0 q.0 (let r = c.requires.room.0 in omega arith) w h
