use Rattle.std.proofs.Common.{suc, ◌<◌, length}
use Rattle.keyed_table.specs.Chains.{items, homes, height, Chains}
use Rattle.keyed_table.proofs.Last.{Walk}
use Rattle.keyed_table.proofs.chains.gap_at.Given as goal

abbrev pub invariant-loop-at : goal.invariant-loop-at
invariant-loop-at g l = Chains l.slots → l.b < length (items l.slots) → Walk (homes (items l.slots)) l.b (suc l.i) (length (items l.slots)) (height l.over) (height l.at)

abbrev pub decreases-loop-at : goal.decreases-loop-at
decreases-loop-at g l = height l.at
