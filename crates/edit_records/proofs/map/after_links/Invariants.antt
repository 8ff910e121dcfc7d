use Rattle.std.proofs.Common.{◌≡◌, ◌-◌}
use Rattle.edit_records.specs.Reading.{times}
use Rattle.edit_records.specs.Showing.{after_link}
use Rattle.edit_records.proofs.map.after_links.Given as goal

abbrev pub invariant-loop : goal.invariant-loop
invariant-loop g l = times (l.count - l.counter) after_link (g.W.RecordWords.words l.rest) ≡ times l.initial.count after_link (g.W.RecordWords.words l.initial.rest)
