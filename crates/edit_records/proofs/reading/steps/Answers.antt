use Rattle.std.proofs.Common.{◌++◌, ◌+◌, ◌-◌, ◌∷◌, [], sym, ap, ◌∙◌}
use Rattle.std.specs.Option.{option_map, option_and_then}
use Rattle.std.proofs.lemmas.List.{map_push}
use Rattle.replay.specs.Steps.{edits_of}
use Rattle.edit_records.specs.Reading.{times, one_more}
use Rattle.edit_records.proofs.Rounds.{one_left}
use Rattle.edit_records.proofs.reading.steps.Goals as goal

pub returns-in_default-edit : goal.returns-in_default-edit
returns-in_default-edit g c =
    let so_far = edits_of c.loop.steps.items in
    ap (λ e. option_and_then (times (c.in-Some.counted.0 - (c.loop.counter + 1)) one_more) (option_map (λ r. (so_far ++ r.0 ∷ [], r.1)) e)) c.in_default-edit.ensures
    ∙ sym (one_left one_more c.in-Some.counted.0 c.loop.counter (so_far, g.W.RecordWords.words c.loop.rest) c.loop-test.true)
    ∙ c.loop.invariant
    ∙ ap (option_and_then (λ r. times r.0 one_more ([], r.1))) c.in-Some.ensures

pub loop-preserved : goal.loop-preserved
loop-preserved g c =
    let so_far = edits_of c.loop.steps.items in
    ap (λ es. times (c.in-Some.counted.0 - (c.loop.counter + 1)) one_more (es, g.W.RecordWords.words c.in-Some-edit.read.1)) (ap edits_of c.in_ok-push.ensures.items ∙ map_push (λ s. s.edit) c.loop.steps.items _)
    ∙ ap (λ e. option_and_then (times (c.in-Some.counted.0 - (c.loop.counter + 1)) one_more) (option_map (λ r. (so_far ++ r.0 ∷ [], r.1)) e)) c.in-Some-edit.ensures
    ∙ sym (one_left one_more c.in-Some.counted.0 c.loop.counter (so_far, g.W.RecordWords.words c.loop.rest) c.loop-test.true)
    ∙ c.loop.invariant
