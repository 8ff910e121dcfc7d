use Rattle.std.proofs.Common.{arith}
use Rattle.std.proofs.lemmas.Bool.Decides.{nat_tests}
use Rattle.keyed_table.proofs.Calls.{count}
use Rattle.graphmap.proofs.tables.Tables.lacks_nodes.Goals as goal

pub returns : goal.returns
returns g c =
    let t = c.args.self.now.nodes in
    let n = count t in
    let b = t.kept.0 in
    let f = c.free.ensures in
    let k = c.new_keys.ensures in
    grind (arith, nat_tests)
