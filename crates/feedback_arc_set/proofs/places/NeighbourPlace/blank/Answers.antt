use Rattle.std.proofs.Common.{None, ap}
use Rattle.feedback_arc_set.specs.declared.places.NeighbourPlace.{NeighbourPlace}
use Rattle.feedback_arc_set.specs.Nodes.{blank_index}
use Rattle.feedback_arc_set.proofs.Reading.{fas_index_alike}
use Rattle.feedback_arc_set.proofs.places.NeighbourPlace.blank.Goals as goal

pub returns : goal.returns
returns c = let with : _ → NeighbourPlace = λ n. record { node = n; next = None } in ap with (fas_index_alike c.new.result blank_index c.new.ensures)
