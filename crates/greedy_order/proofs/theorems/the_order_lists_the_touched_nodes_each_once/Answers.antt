use Rattle.greedy_order.proofs.Promised.{the_order_lists_the_touched_nodes_each_once}
use Rattle.greedy_order.proofs.theorems.the_order_lists_the_touched_nodes_each_once.Goals as goal

pub returns : goal.returns
returns c = the_order_lists_the_touched_nodes_each_once
