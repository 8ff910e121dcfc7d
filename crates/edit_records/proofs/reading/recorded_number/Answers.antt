use Rattle.std.proofs.Common.{arith}
use Rattle.std.proofs.lemmas.Bool.Decides.{nat_tests}
use Rattle.std.proofs.lemmas.Str.Parse.{numerals_by_value, tells_all_ascii_digits, parse_plain}
use Rattle.edit_lines.proofs.Numbers.{not_plus}
use Rattle.edit_records.proofs.Numbers.{parsed}
use Rattle.edit_records.proofs.reading.recorded_number.Goals as goal

pub returns : goal.returns
unfolding lib.Utf8.encode
returns c =
    let w = c.args.word.now in
    parsed w c.parse.result _ (let e = c.if-is_empty.ensures in grind (arith, nat_tests))
    (parse_plain (numerals_by_value _ tells_all_ascii_digits) 32 w c.parse.result c.parse.ensures.value.0 (not_plus w c.if-starts_with.ensures.cases))
    c.ok.ensures.value
