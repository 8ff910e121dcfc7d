use Rattle.std.proofs.Common.{length, get_or, None}
use Rattle.keyed_table.specs.Chains.{items, homes, bucket, height, holds_number, Chains}
use Rattle.keyed_table.proofs.Last.{Sought}
use Rattle.keyed_table.proofs.chains.find.Given as goal

abbrev pub invariant-loop-at : goal.invariant-loop-at
invariant-loop-at g l = Chains l.slots → Sought (homes (items l.slots)) (bucket (length (items l.slots)) l.number) (length (items l.slots)) (λ j. holds_number l.number (get_or (items l.slots) j None)) (height l.at)

abbrev pub decreases-loop-at : goal.decreases-loop-at
decreases-loop-at g l = height l.at
