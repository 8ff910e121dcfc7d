use Rattle.greedy_order.proofs.Promised.{the_touched_nodes_are_listed}
use Rattle.greedy_order.proofs.theorems.every_greedy_order_lists_the_touched_nodes.Goals as goal

pub returns : goal.returns
returns c = the_touched_nodes_are_listed
