use Rattle.std.proofs.Common.{arith}
use Rattle.network.proofs.Dropping.{first_at}
use Rattle.network.proofs.arcs.ArcsIterator.next.Goals as goal

pub returns-clause-steps : goal.returns-clause-steps
returns-clause-steps g c =
    let s = c.in_ok-position.ensures.steps in
    let all = c.args.self.now.all in
    first_at (g.S.ArcSource.arcs c.args.self.now.source.now) c.args.self.now.positions.start _ c.arc_at.result (cc) (omega arith) (cc)
