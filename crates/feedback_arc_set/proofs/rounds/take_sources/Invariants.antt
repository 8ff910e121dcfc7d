use Rattle.std.proofs.Common.{◌≡◌, ◌-◌, ◌*◌, ◌≤◌, List}
use Rattle.keys.specs.declared.node_index.NodeIndex.{NodeIndex}
use Rattle.network.specs.Network.{Link}
use Rattle.greedy_order.specs.Part2Greedy.{NoSink}
use Rattle.feedback_arc_set.specs.Containers.{key_in, SameNames}
use Rattle.feedback_arc_set.specs.Listed.{At, SameLenders}
use Rattle.feedback_arc_set.specs.Nodes.{neighbours_of}
use Rattle.feedback_arc_set.proofs.rounds.take_sources.Given as goal

abbrev pub invariant-loop-source : goal.invariant-loop-source
invariant-loop-source l =
    ((arcs : List Link) (goal : List NodeIndex) → At arcs (neighbours_of l.neighbours) (key_in l.initial.nodes) goal (NoSink arcs) l.initial.nodes l.initial.buckets l.initial.halves → At arcs (neighbours_of l.neighbours) (key_in l.initial.nodes) goal (NoSink arcs) l.nodes l.buckets l.halves)
    × SameNames l.nodes l.initial.nodes
    × (l.halves.back - l.halves.front ≤ l.initial.halves.back - l.initial.halves.front)
    × (l.class ≡ 2 * l.buckets.arcs)
    × SameLenders l.buckets l.halves l.initial.buckets l.initial.halves

abbrev pub decreases-loop-source : goal.decreases-loop-source
decreases-loop-source l = l.halves.back - l.halves.front
