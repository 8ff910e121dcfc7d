use Rattle.greedy_order.proofs.Promised.{known_orders_stand}
use Rattle.greedy_order.proofs.theorems.known_orders.Goals as goal

pub returns : goal.returns
returns c = known_orders_stand
