use Rattle.greedy_order.proofs.Promised.{no_arc_is_held_exactly_without_closed_walk}
use Rattle.greedy_order.proofs.theorems.no_arc_is_held_exactly_without_closed_walk.Goals as goal

pub returns : goal.returns
returns c = no_arc_is_held_exactly_without_closed_walk
