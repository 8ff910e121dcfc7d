use Rattle.std.proofs.Common.{length}
use Rattle.map_layout.specs.Edits.{Good, Cut}
use Rattle.graphmap.specs.States.{state}
use Rattle.graphmap.proofs.tables.Tables.remove_node.Given as goal

abbrev pub invariant-loop : goal.invariant-loop
invariant-loop g l = Good (state l.initial.self) → Cut l.index.value (state l.initial.self) (state l.self)

abbrev pub decreases-loop : goal.decreases-loop
decreases-loop g l = length (state l.self).arcs
