use Rattle.std.proofs.Common.{◌-◌, ◌≤◌, length}
use Rattle.inspect.proofs.read_file.Given as goal

abbrev pub invariant-loop-length : goal.invariant-loop-length
invariant-loop-length l = l.length ≤ length l.initial.bytes

abbrev pub decreases-loop-length : goal.decreases-loop-length
decreases-loop-length l = length l.initial.bytes - l.length
