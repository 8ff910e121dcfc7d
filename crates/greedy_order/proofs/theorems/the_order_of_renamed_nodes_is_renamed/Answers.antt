use Rattle.greedy_order.proofs.Renaming.{the_order_of_renamed_nodes_is_renamed}
use Rattle.greedy_order.proofs.theorems.the_order_of_renamed_nodes_is_renamed.Goals as goal

pub returns : goal.returns
returns c = the_order_of_renamed_nodes_is_renamed
