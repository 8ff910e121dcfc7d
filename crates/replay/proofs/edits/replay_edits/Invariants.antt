use Rattle.graphmap.specs.Maps.{map_model}
use Rattle.replay.proofs.Replayed.{Going}
use Rattle.replay.proofs.edits.replay_edits.Given as goal

abbrev pub invariant-loop-step : goal.invariant-loop-step
invariant-loop-step g l = Going g.N.NodeKey.index (map_model l.initial.map) l.initial.steps (map_model l.map) l.steps l.step-index
