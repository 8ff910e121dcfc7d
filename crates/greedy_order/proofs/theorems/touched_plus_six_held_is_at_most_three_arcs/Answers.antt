use Rattle.greedy_order.proofs.Promised.{touched_plus_six_held_is_at_most_three_arcs}
use Rattle.greedy_order.proofs.theorems.touched_plus_six_held_is_at_most_three_arcs.Goals as goal

pub returns : goal.returns
returns c = touched_plus_six_held_is_at_most_three_arcs
