-- Edits with their answers.
use Rattle.std.specs.Prelude.{List, [], ◌∷◌, map, Some}
use Rattle.map_model.specs.declared.Edit.{Edit}
use Rattle.map_model.specs.declared.Answer.{Answer}
use Rattle.replay.specs.declared.step.Step.{Step}

-- the edits of a list of steps
abbrev pub edits_of : {N E : Type 0} → List (Step N E) → List (Edit N E)
edits_of steps = map (λ s. s.edit) steps

-- each edit with its answer
abbrev pub recorded : {N E : Type 0} → List (Edit N E) → List (Answer N E) → List (Step N E)
recorded [] rs = []
recorded (e ∷ es) [] = []
recorded (e ∷ es) (r ∷ rs) = record { edit = e; answer = Some r } ∷ recorded es rs
