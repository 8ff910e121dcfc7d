use Rattle.std.proofs.Common.{refl, ◌∙◌}
use Rattle.feedback_arc_set.specs.Containers.{key_in}
use Rattle.feedback_arc_set.specs.Nodes.{neighbours_of}
use Rattle.feedback_arc_set.proofs.Reading.{same_names}
use Rattle.feedback_arc_set.proofs.Stepping.{same_key, round_neither, best_again, best_over}
use Rattle.feedback_arc_set.proofs.rounds.take_all.Goals as goal

pub rounds-preserved : goal.rounds-preserved
rounds-preserved c =
    let P = neighbours_of c.args.neighbours.now in
    let n0 = c.args.nodes.now in
    let n1 = c.rounds.nodes in
    let n2 = c.take_sinks.new.nodes in
    let n3 = c.take_sources.new.nodes in
    let n4 = c.take_first.new.nodes in
    let k1 = c.rounds.invariant.1 in
    let k2 = c.take_sinks.ensures.names in
    let k3 = same_names n3 n1 n0 (same_names n3 n2 n1 c.take_sources.ensures.names k2) k1 in
    let f = c.in-Some.ensures in
    let k4 = same_names n4 n3 n0 f.names k3 in
    let p = c.push_head.ensures in (
      λ arcs goal s.
          best_again arcs P (key_in n0) goal n3 n4 c.take_sources.new.buckets _ c.take_first.new.self c.take_sources.new.halves c.room.result
          c.best_class-class.ensures.above c.best_class-class.ensures.member refl refl c.push_head.new.nodes c.push_head.new.self c.in-Some.best.value
          f.first f.room (same_key n4 n0 k4 c.in-Some.best.value) p.order p.written p.front p.back
          (round_neither arcs P goal n0 n1 n2 n3 c.rounds.buckets c.take_sinks.new.buckets c.take_sources.new.buckets c.rounds.halves c.take_sinks.new.halves c.take_sources.new.halves k1 k2
          (c.take_sinks.ensures.stage arcs goal) (c.take_sources.ensures.stage arcs goal) (c.rounds.invariant.0 arcs goal s)),
      same_names c.push_head.new.nodes n4 n0 p.names k4,
      record { classes = f.first.lender ∙ c.take_sources.ensures.lenders.classes ∙ c.take_sinks.ensures.lenders.classes ∙ c.rounds.invariant.2.classes; order = p.lender ∙ c.take_sources.ensures.lenders.order ∙ c.take_sinks.ensures.lenders.order ∙ c.rounds.invariant.2.order },
    )

pub returns-clause-ordered : goal.returns-clause-ordered
returns-clause-ordered c =
    let P = neighbours_of c.args.neighbours.now in
    let n0 = c.args.nodes.now in
    let n1 = c.rounds.nodes in
    let n2 = c.take_sinks.new.nodes in
    let n3 = c.take_sources.new.nodes in
    let n4 = c.take_first.new.nodes in
    let k1 = c.rounds.invariant.1 in
    let k2 = c.take_sinks.ensures.names in
    let f = c.in-None.ensures in
    λ arcs goal s.
    best_over arcs P (key_in n0) goal n3 n4 c.take_sources.new.buckets _ c.take_first.new.self c.take_sources.new.halves c.room.result
    c.best_class-class.ensures.above c.best_class-class.ensures.member refl refl f.first c.room.ensures
    (round_neither arcs P goal n0 n1 n2 n3 c.rounds.buckets c.take_sinks.new.buckets c.take_sources.new.buckets c.rounds.halves c.take_sinks.new.halves c.take_sources.new.halves k1 k2
    (c.take_sinks.ensures.stage arcs goal) (c.take_sources.ensures.stage arcs goal) (c.rounds.invariant.0 arcs goal s))
