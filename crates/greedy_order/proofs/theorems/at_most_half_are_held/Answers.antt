use Rattle.greedy_order.proofs.Promised.{at_most_half_are_held}
use Rattle.greedy_order.proofs.theorems.at_most_half_are_held.Goals as goal

pub returns : goal.returns
returns c = at_most_half_are_held
