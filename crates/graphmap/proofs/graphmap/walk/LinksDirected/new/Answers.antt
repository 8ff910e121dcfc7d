use Rattle.graphmap.specs.States.{state}
use Rattle.graphmap.proofs.Showing.{begins, begins_ending}
use Rattle.graphmap.proofs.graphmap.walk.LinksDirected.new.Goals as goal

pub invariant_of-result : goal.invariant_of-result
invariant_of-result g c = let m = c.args.map.now in record { ends = begins_ending (state m.tables) c.args.node.index.value c.args.direction c.oldest.result c.oldest.ensures m.good }

pub returns-clause-begins : goal.returns-clause-begins
returns-clause-begins g c = let m = c.args.map.now in begins (state m.tables) c.args.node.index.value c.args.direction c.oldest.result c.oldest.ensures m.good
