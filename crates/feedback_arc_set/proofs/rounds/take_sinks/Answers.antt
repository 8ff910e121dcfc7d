use Rattle.std.proofs.Common.{refl, ◌∙◌, arith}
use Rattle.feedback_arc_set.specs.Containers.{key_in}
use Rattle.feedback_arc_set.specs.Nodes.{neighbours_of}
use Rattle.feedback_arc_set.proofs.Reading.{same_names}
use Rattle.feedback_arc_set.proofs.Stepping.{same_key, sink_again, sinks_end}
use Rattle.feedback_arc_set.proofs.rounds.take_sinks.Goals as goal

pub loop-sink-preserved : goal.loop-sink-preserved
loop-sink-preserved c =
    let inv = c.loop-sink.invariant in
    let f = c.in-Some.ensures in
    let p = c.push_tail.ensures in
    let n = same_names c.take_first.new.nodes c.loop-sink.nodes c.args.nodes.now f.names inv.1 in (
      λ arcs goal s.
          sink_again arcs (neighbours_of c.args.neighbours.now) (key_in c.args.nodes.now) goal c.loop-sink.nodes c.take_first.new.nodes c.push_tail.new.nodes c.loop-sink.buckets c.take_first.new.self c.loop-sink.halves c.push_tail.new.self 0 c.room.result c.in-Some.sink.value
          f.first f.room (same_key c.take_first.new.nodes c.args.nodes.now n c.in-Some.sink.value) refl p.order p.written p.front p.back (inv.0 arcs goal s),
      same_names c.push_tail.new.nodes c.take_first.new.nodes c.args.nodes.now p.names n,
      (let a = p.front in let b = p.back in let d = inv.2 in omega arith),
      record { classes = f.first.lender ∙ inv.3.classes; order = p.lender ∙ inv.3.order },
    )

pub returns-clause-stage : goal.returns-clause-stage
returns-clause-stage c =
    let inv = c.loop-sink.invariant in
    let f = c.in_default.ensures in
    λ arcs goal s. sinks_end arcs (neighbours_of c.args.neighbours.now) (key_in c.args.nodes.now) goal c.loop-sink.nodes c.take_first.new.nodes c.loop-sink.buckets c.take_first.new.self c.loop-sink.halves 0 c.room.result f.first c.room.ensures refl (inv.0 arcs goal s)
