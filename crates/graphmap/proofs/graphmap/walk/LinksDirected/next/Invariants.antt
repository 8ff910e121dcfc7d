use Rattle.std.proofs.Common.{◌≡◌, length}
use Rattle.graphmap.specs.Cursors.{walk_left}
use Rattle.graphmap.specs.Links.{places_left}
use Rattle.graphmap.specs.States.{state}
use Rattle.graphmap.proofs.graphmap.walk.LinksDirected.next.Given as goal

abbrev pub invariant-loop-self : goal.invariant-loop-self
invariant-loop-self g l =
    let now = l.self in
    let old = l.initial.self in
    record {
      map : now.map.now ≡ old.map.now;
      node : now.node ≡ old.node;
      direction : now.direction ≡ old.direction;
      left : walk_left old ≡ walk_left now;
    }

abbrev pub decreases-loop-self : goal.decreases-loop-self
decreases-loop-self g l = length (places_left (state l.self.map.now.tables) l.self.place)
