-- Edits and answers as text.
use Rattle.std.specs.Prelude.{ℕ, true, false, List, [], ◌∷◌, ◌++◌, Some, None, Option, Ok, Err, codes}
use Rattle.std.specs.Fmt.{decimal}
use Rattle.fault.specs.Faults.{refusal_text}
use Rattle.keys.specs.declared.junction.Junction.{Junction}
use Rattle.map_model.specs.declared.Answer.{Answer}
use Rattle.map_model.specs.declared.Answer.TheVariants.{NodeAdded, EdgeAdded, NodeRemoved, EdgeRemoved}
use Rattle.map_model.specs.declared.Edit.{Edit}
use Rattle.map_model.specs.declared.Edit.TheVariants.{AddNode, AddEdge, RemoveNode, RemoveEdge}
use Rattle.replay.specs.declared.step.Step.{Step}

-- the number of a junction
abbrev pub named : Junction → List ℕ
named j = decimal j.value

-- an edit: a word, then its numbers, one space apart
abbrev pub edit_text : Edit Junction ℕ → List ℕ
edit_text (AddNode n) = codes "node " ++ named n
edit_text (AddEdge a b w) = codes "arc " ++ (named a ++ (codes " " ++ (named b ++ (codes " " ++ decimal w))))
edit_text (RemoveNode n) = codes "remove-node " ++ named n
edit_text (RemoveEdge a b) = codes "remove-arc " ++ (named a ++ (codes " " ++ named b))

-- what an edit answered; a refusal by its number and place
abbrev pub answer_text : Answer Junction ℕ → List ℕ
answer_text (NodeAdded (Ok n)) = codes "granted"
answer_text (NodeAdded (Err f)) = refusal_text f
answer_text (EdgeAdded (Ok None)) = codes "new"
answer_text (EdgeAdded (Ok (Some w))) = codes "was " ++ decimal w
answer_text (EdgeAdded (Err f)) = refusal_text f
answer_text (NodeRemoved true) = codes "removed"
answer_text (NodeRemoved false) = codes "absent"
answer_text (EdgeRemoved (Some w)) = codes "was " ++ decimal w
answer_text (EdgeRemoved None) = codes "absent"

-- nothing where the edit was not made
abbrev pub answered : Option (Answer Junction ℕ) → List ℕ
answered None = []
answered (Some a) = answer_text a

-- an edit with its answer, on a line
abbrev pub step_line : Step Junction ℕ → List ℕ
step_line s = edit_text s.edit ++ (codes ": " ++ (answered s.answer ++ (10 ∷ [])))
