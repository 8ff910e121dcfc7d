use Rattle.greedy_order.proofs.Promised.{every_closed_walk_has_a_held_arc}
use Rattle.greedy_order.proofs.theorems.every_closed_walk_has_a_held_arc.Goals as goal

pub returns : goal.returns
returns c = every_closed_walk_has_a_held_arc
