use Rattle.std.proofs.Common.{◌-◌, ◌≤◌, List}
use Rattle.keys.specs.declared.node_index.NodeIndex.{NodeIndex}
use Rattle.network.specs.Network.{Link}
use Rattle.fas_layout.specs.Stages.{Any}
use Rattle.feedback_arc_set.specs.Containers.{key_in, SameNames}
use Rattle.feedback_arc_set.specs.Listed.{At, SameLenders}
use Rattle.feedback_arc_set.specs.Nodes.{neighbours_of}
use Rattle.feedback_arc_set.proofs.rounds.take_sinks.Given as goal

abbrev pub invariant-loop-sink : goal.invariant-loop-sink
invariant-loop-sink l =
    ((arcs : List Link) (goal : List NodeIndex) → At arcs (neighbours_of l.neighbours) (key_in l.initial.nodes) goal Any l.initial.nodes l.initial.buckets l.initial.halves → At arcs (neighbours_of l.neighbours) (key_in l.initial.nodes) goal Any l.nodes l.buckets l.halves)
    × SameNames l.nodes l.initial.nodes
    × (l.halves.back - l.halves.front ≤ l.initial.halves.back - l.initial.halves.front)
    × SameLenders l.buckets l.halves l.initial.buckets l.initial.halves

abbrev pub decreases-loop-sink : goal.decreases-loop-sink
decreases-loop-sink l = l.halves.back - l.halves.front
