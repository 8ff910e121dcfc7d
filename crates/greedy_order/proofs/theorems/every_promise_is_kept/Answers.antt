use Rattle.greedy_order.proofs.Promised.{every_promise_is_kept}
use Rattle.greedy_order.proofs.theorems.every_promise_is_kept.Goals as goal

pub returns : goal.returns
returns c = every_promise_is_kept
