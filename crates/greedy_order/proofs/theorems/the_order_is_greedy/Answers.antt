use Rattle.greedy_order.proofs.Promised.{the_order_is_greedy}
use Rattle.greedy_order.proofs.theorems.the_order_is_greedy.Goals as goal

pub returns : goal.returns
returns c = the_order_is_greedy
