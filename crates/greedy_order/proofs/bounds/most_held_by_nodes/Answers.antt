use Rattle.std.proofs.Common.{arith}
use Rattle.greedy_order.proofs.Promised.{none_holds_more_by_nodes}
use Rattle.greedy_order.proofs.bounds.most_held_by_nodes.Goals as goal

pub returns : goal.returns
returns c = record { value = omega arith; bound = none_holds_more_by_nodes _ _ _ (omega arith) }
