use native.Mathlib.Omega.{arith}
use Rattle·greedy_order·proofs.Promised.{none-holds-more-by-half}
use Rattle·greedy_order·proofs.bounds.most_held_by_half.Needs as need

pub returns : need.returns
returns c = record { value = omega arith; bound = none-holds-more-by-half _ _ _ (omega arith) }
