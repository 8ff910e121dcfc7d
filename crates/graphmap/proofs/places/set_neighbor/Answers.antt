use Rattle.std.proofs.Common.{refl}
use lib.Seq.{map-set, map-set_same}
use Rattle.graphmap.proofs.places.set_neighbor.Goals as goal

pub returns-then-i-links-clause-neighbors : goal.returns-then-i-links-clause-neighbors
returns-then-i-links-clause-neighbors g c = map-set (λ s. s.neighbor) c.args.links.now.slots.now c.args.i _

pub returns-then-i-links-clause-positions : goal.returns-then-i-links-clause-positions
returns-then-i-links-clause-positions g c = map-set_same (λ s. s.position) c.args.links.now.slots.now c.args.i _ _ refl
