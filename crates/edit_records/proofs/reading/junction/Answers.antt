use Rattle.std.proofs.Common.{Some, ap, ◌∙◌}
use Rattle.std.specs.Option.{option_map}
use Rattle.edit_records.specs.Reading.{junction}
use Rattle.edit_records.proofs.Rounds.{junction_is}
use Rattle.edit_records.proofs.reading.junction.Goals as goal

pub returns : goal.returns
returns g c =
    ap (λ j. Some (j, g.W.RecordWords.words c.in_ok-value.rest)) (junction_is c.new.result c.in_ok-value.value c.new.ensures)
    ∙ ap (option_map (λ r. (junction r.0, r.1))) c.in_ok-value.ensures
