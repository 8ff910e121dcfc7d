use Rattle.graphmap.proofs.Walking.{same_walk}
use Rattle.graphmap.proofs.graphmap.walk.LinksDirectedClone.clone.Goals as goal

pub returns : goal.returns
returns g c = let s = c.args.self.now in record { cases = same_walk s.map s.node s.direction s.place _ s.ends }
