use Rattle.std.proofs.Common.{get_or}
use Rattle.graphmap.specs.Maps.{map_model}
use Rattle.map_model.proofs.Listing.{all_edges_show}
use Rattle.replay.proofs.Replayed.{going_none, going_at, going_more, going_all}
use Rattle.replay.proofs.edits.replay_edits.Goals as goal

pub loop-step-init : goal.loop-step-init
loop-step-init g c = going_none g.N.NodeKey.index (map_model c.args.map.now) c.args.steps.now

pub loop-step-preserved : goal.loop-step-preserved
loop-step-preserved g c =
    let ix = g.N.NodeKey.index in
    let m = map_model c.args.map.now in
    let s = c.args.steps.now in
    let l = c.loop-step in
    let d = c.step-item.result in
    going_more ix m s (map_model l.map) (map_model c.apply.new.map) l.steps l.step-index (get_or l.steps l.step-index d) d c.apply.result c.loop-step-test.true l.invariant
    (going_at ix m s (map_model l.map) l.steps l.step-index d l.invariant) c.apply.ensures.answer c.apply.ensures.shown

pub returns : goal.returns
returns g c =
    let l = c.loop-step in
    let all = going_all g.N.NodeKey.index (map_model c.args.map.now) c.args.steps.now (map_model l.map) l.steps l.step-index c.loop-step-test.false l.invariant in
    record { steps = all.0; shown = all.1; promise = all_edges_show }
