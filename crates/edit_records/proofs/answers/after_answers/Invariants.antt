use Rattle.std.proofs.Common.{◌≡◌, drop}
use Rattle.edit_records.specs.Showing.{after_steps}
use Rattle.edit_records.proofs.answers.after_answers.Given as goal

abbrev pub invariant-loop-step : goal.invariant-loop-step
invariant-loop-step g l = after_steps (drop l.step-index l.steps) (g.W.RecordWords.words l.rest) ≡ after_steps l.steps (g.W.RecordWords.words l.initial.rest)
