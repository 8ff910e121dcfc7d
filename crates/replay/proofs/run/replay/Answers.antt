use Rattle.std.proofs.Common.{length, refl, ap, ◌∙◌}
use Rattle.std.proofs.lemmas.Bool.{cond-true}
use Rattle.std.proofs.lemmas.Result.{err_from_is_err_and}
use Rattle.graphmap.specs.Capacity.{places_fit}
use Rattle.graphmap.specs.Maps.{map_model}
use Rattle.replay.proofs.Running.{fit_true, fit_false, all_promises, ran}
use Rattle.replay.proofs.run.replay.Goals as goal

pub returns-in_err-with_capacity : goal.returns-in_err-with_capacity
returns-in_err-with_capacity g c =
    let p = err_from_is_err_and c.from_residual.result c.from_residual.ensures.1 in
    let w = c.in_err-with_capacity.ensures in
    let f = fit_false (places_fit c.args.places.now) c.in_err-with_capacity.field-0.0 w.answer in
    rw (p.1, p.2) (record { run = (f.0, f.1, (w.refused f.0).0, (w.refused f.0).1, refl, refl); promises = all_promises })

pub returns : goal.returns
returns g c =
    let w = c.in_ok-with_capacity.ensures in
    let p = c.args.places.now in
    let f = fit_true (places_fit p) w.answer in
    record {
      run = (
        f,
        ran g.N.NodeKey.index g.met.N.NodeKey.differs (length p.nodes.now) (length p.arcs.now) c.args.steps.now c.replay_edits.new.steps
            (map_model c.with_capacity.new.self) (map_model c.replay_edits.new.map) (map_model c.open.result.map.now) c.args.ordering.now c.greedy_feedback_arc_set.new.self c.greedy_feedback_arc_set.result
            (w.shown ∙ cond-true (places_fit p) _ _ f) c.replay_edits.ensures.shown c.replay_edits.ensures.steps (ap map_model c.open.ensures) c.greedy_feedback_arc_set.ensures.answer c.greedy_feedback_arc_set.ensures.leaves,
      );
      promises = all_promises;
    }
