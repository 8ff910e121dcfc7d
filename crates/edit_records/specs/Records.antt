-- The records that agree.
use Rattle.std.specs.Prelude.{ℕ, Bool, List, Option, is_some, min}
use Rattle.std.specs.Option.{option_and_then}
use Rattle.keys.specs.declared.junction.Junction.{Junction}
use Rattle.map_model.specs.declared.Edit.{Edit}
use Rattle.map_model.specs.Model.{Model, built, run, answers}
use Rattle.replay.specs.declared.step.Step.{Step}
use Rattle.replay.specs.Steps.{recorded}
use Rattle.edit_records.specs.Reading.{Words, number_at, edits_at}
use Rattle.edit_records.specs.Showing.{after_answers, after_map}

abbrev pub index : Junction → ℕ
index j = j.value

-- a map with so many places, as far as a map can have them
abbrev pub built_for : ℕ → ℕ → Model Junction ℕ
built_for nodes arcs = built (min nodes 4096) (min arcs 16384)

-- the words after the answers of these steps, and after what this map shows
abbrev pub after_replay : List (Step Junction ℕ) → Model Junction ℕ → Words → Option Words
after_replay steps m words = option_and_then (after_map m) (after_answers steps words)

-- the words after the answers that the edits get on this map, and after what the map then shows
abbrev pub after_run : Model Junction ℕ → List (Edit Junction ℕ) → Words → Option Words
after_run m edits words = after_replay (recorded edits (answers index m edits)) (run index m edits) words

-- the words of a record: numbers of places for nodes and arcs, the edits, their answers, and the map that they leave
abbrev pub after_record : Words → Option Words
after_record words =
    option_and_then (λ nodes. option_and_then (λ arcs. option_and_then (λ edits.
    after_run (built_for nodes.0 arcs.0) edits.0 edits.1)
    (edits_at arcs.1)) (number_at nodes.1)) (number_at words)

-- whether the answers and the map are the recorded ones; words that are no record do not agree
abbrev pub agrees : Words → Bool
agrees words = is_some (after_record words)
