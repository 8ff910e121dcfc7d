use Rattle.std.proofs.Common.{sym, ap, ◌∙◌}
use Rattle.std.specs.Option.{option_and_then}
use Rattle.edit_records.specs.Reading.{times}
use Rattle.edit_records.specs.Showing.{after_link}
use Rattle.edit_records.proofs.Rounds.{one_left}
use Rattle.edit_records.proofs.map.after_links.Goals as goal

pub loop-preserved : goal.loop-preserved
loop-preserved g c =
    ap (option_and_then (times _ after_link)) c.in_ok-rest.ensures
    ∙ sym (one_left after_link c.in_ok-count.count c.loop.counter (g.W.RecordWords.words c.loop.rest) c.loop-test.true)
    ∙ c.loop.invariant
