use Rattle.std.proofs.Common.{◌≡◌, ◌-◌, []}
use Rattle.replay.specs.Steps.{edits_of}
use Rattle.edit_records.specs.Reading.{times, one_more}
use Rattle.edit_records.proofs.reading.steps.Given as goal

abbrev pub invariant-loop : goal.invariant-loop
invariant-loop g l = times (l.count - l.counter) one_more (edits_of l.steps.items, g.W.RecordWords.words l.rest) ≡ times l.initial.count one_more ([], g.W.RecordWords.words l.initial.rest)
