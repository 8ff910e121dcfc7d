use Rattle.std.proofs.Common.{◌≡◌, ap, ◌∙◌, min, length, is_some}
use Rattle.graphmap.specs.Maps.{map_model}
use Rattle.map_model.specs.Model.{built, run, answers}
use Rattle.replay.specs.Steps.{edits_of, recorded}
use Rattle.edit_records.specs.Records.{index, built_for, after_replay}
use Rattle.edit_records.proofs.Rounds.{some_left_by, taken}
use Rattle.edit_records.proofs.records.replays_as.Goals as goal

pub returns : goal.returns
returns g c =
    let m = built_for c.args.nodes c.args.arcs in
    let edits = edits_of c.args.steps.now in
    let words = g.W.RecordWords.words c.args.words in
    let nodes : length c.places.result.nodes.now ≡ min c.args.nodes 4096 = c.places.ensures.nodes ∙ c.in_ok-tables.ensures.0 ∙ c.min-nodes.ensures in
    let arcs : length c.places.result.arcs.now ≡ min c.args.arcs 16384 = c.places.ensures.arcs ∙ c.in_ok-tables.ensures.1 ∙ c.min-arcs.ensures in
    let fresh : map_model c.with_capacity.new.self ≡ m =
    taken _ c.with_capacity.result _ _ _ c.with_capacity.ensures.answer (cc) c.with_capacity.ensures.shown
    ∙ ap (λ n. built n (length c.places.result.arcs.now)) nodes ∙ ap (built (min c.args.nodes 4096)) arcs in
    let map : map_model c.open.result.map.now ≡ run index m edits = ap map_model c.open.ensures ∙ c.replay_edits.ensures.shown ∙ ap (λ x. run index x edits) fresh in
    let steps : c.replay_edits.new.steps ≡ recorded edits (answers index m edits) = c.replay_edits.ensures.steps ∙ ap (λ x. recorded edits (answers index x edits)) fresh in
    c.is_some.ensures ∙ some_left_by g.W.RecordWords.words c.after_replay.result
    ∙ ap is_some (c.after_replay.ensures ∙ ap (λ s. after_replay s (map_model c.open.result.map.now) words) steps ∙ ap (λ x. after_replay (recorded edits (answers index m edits)) x words) map)
