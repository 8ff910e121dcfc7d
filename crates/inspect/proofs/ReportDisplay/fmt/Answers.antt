use Rattle.std.proofs.Common.{refl, arith}
use Rattle.std.proofs.Output.{has_written_append, has_written_of_eq}
use Rattle.fault.specs.Faults.{refusal_line}
use Rattle.inspect.specs.Report.{answer_of}
use Rattle.inspect.proofs.Lines.{report_told}
use Rattle.inspect.proofs.ReportDisplay.fmt.Goals as goal

pub returns-in-Ok-clause-writes : goal.returns-in-Ok-clause-writes
returns-in-Ok-clause-writes g c = λ plain ok.
    let read = c.in_ok-writeln.ensures.writes plain refl in
    has_written_of_eq _ _ _ _ _ (report_told c.args.self.now.length (answer_of c.args.self.now.answer) _ (omega arith) (rw c.in-Ok.is)) (has_written_append _ _ _ _ _ _ read (c.write.ensures.writes read.plain ok))

pub returns-in-Err-clause-writes : goal.returns-in-Err-clause-writes
unfolding refusal_line
returns-in-Err-clause-writes g c = λ plain ok.
    let read = c.in_ok-writeln.ensures.writes plain refl in
    has_written_of_eq _ _ _ _ _ (report_told c.args.self.now.length (answer_of c.args.self.now.answer) _ (omega arith) (rw c.in-Err.is)) (has_written_append _ _ _ _ _ _ read (c.writeln-in-Err.ensures.writes read.plain ok))
