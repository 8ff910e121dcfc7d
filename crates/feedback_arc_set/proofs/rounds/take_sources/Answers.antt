use Rattle.std.proofs.Common.{◌*◌, sym, ap, ◌∙◌, arith}
use Rattle.feedback_arc_set.specs.Containers.{key_in}
use Rattle.feedback_arc_set.specs.Nodes.{neighbours_of}
use Rattle.feedback_arc_set.proofs.Reading.{same_names}
use Rattle.feedback_arc_set.proofs.Stepping.{same_key, source_again, sources_end}
use Rattle.feedback_arc_set.proofs.rounds.take_sources.Goals as goal

pub loop-source-preserved : goal.loop-source-preserved
loop-source-preserved c =
    let inv = c.loop-source.invariant in
    let f = c.in-Some.ensures in
    let p = c.push_head.ensures in
    let n = same_names c.take_first.new.nodes c.loop-source.nodes c.args.nodes.now f.names inv.1 in (
      λ arcs goal s.
          source_again arcs (neighbours_of c.args.neighbours.now) (key_in c.args.nodes.now) goal c.loop-source.nodes c.take_first.new.nodes c.push_head.new.nodes c.loop-source.buckets c.take_first.new.self c.loop-source.halves c.push_head.new.self c.source_class-class.result c.room.result c.in-Some.source.value
          f.first f.room (same_key c.take_first.new.nodes c.args.nodes.now n c.in-Some.source.value) inv.3 p.order p.written p.front p.back (inv.0 arcs goal s),
      same_names c.push_head.new.nodes c.take_first.new.nodes c.args.nodes.now p.names n,
      (let a = p.front in let b = p.back in let d = inv.2 in omega arith),
      inv.3 ∙ ap (λ a. 2 * a) (sym f.first.arcs),
      record { classes = f.first.lender ∙ inv.4.classes; order = p.lender ∙ inv.4.order },
    )

pub returns-clause-stage : goal.returns-clause-stage
returns-clause-stage c =
    let inv = c.loop-source.invariant in
    let f = c.in_default.ensures in
    λ arcs goal s. sources_end arcs (neighbours_of c.args.neighbours.now) (key_in c.args.nodes.now) goal c.loop-source.nodes c.take_first.new.nodes c.loop-source.buckets c.take_first.new.self c.loop-source.halves c.source_class-class.result c.room.result f.first c.room.ensures inv.3 (inv.0 arcs goal s)
