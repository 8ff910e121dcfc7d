use Rattle.greedy_order.proofs.Promised.{the_order_keeps_the_promises}
use Rattle.greedy_order.proofs.theorems.the_order_keeps_the_promises.Goals as goal

pub returns : goal.returns
returns c = the_order_keeps_the_promises
