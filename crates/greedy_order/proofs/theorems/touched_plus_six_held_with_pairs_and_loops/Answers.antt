use Rattle.greedy_order.proofs.Promised.{touched_plus_six_held_with_pairs_and_loops}
use Rattle.greedy_order.proofs.theorems.touched_plus_six_held_with_pairs_and_loops.Goals as goal

pub returns : goal.returns
returns c = touched_plus_six_held_with_pairs_and_loops
