use Rattle.std.proofs.Common.{arith}
use Rattle.std.proofs.lemmas.Bool.Decides.{nat_tests}
use Rattle.graphmap.proofs.tables.Tables.lacks_arc.Goals as goal

pub returns : goal.returns
returns g c = let e = c.free.ensures in grind (arith, nat_tests)
