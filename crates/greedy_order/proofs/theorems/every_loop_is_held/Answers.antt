use Rattle.greedy_order.proofs.Promised.{every_loop_is_held}
use Rattle.greedy_order.proofs.theorems.every_loop_is_held.Goals as goal

pub returns : goal.returns
returns c = every_loop_is_held
