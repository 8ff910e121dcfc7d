-- The steps of an ordering, one after the other.
use Rattle.std.specs.Prelude.{◌≡◌, ℕ, ◌<◌, ◌≤◌, List, map, length, take, drop, slice_index}
use Rattle.keys.specs.declared.node_index.NodeIndex.{NodeIndex}
use Rattle.network.specs.Network.{Link, touched}
use Rattle.greedy_order.specs.Part3Order.{greedy_order}
use Rattle.fas_layout.specs.Laying.{Entered}
use Rattle.feedback_arc_set.specs.declared.container.FasNodeContainer.{FasNodeContainer}
use Rattle.feedback_arc_set.specs.declared.places.NeighbourPlace.{NeighbourPlace}
use Rattle.feedback_arc_set.specs.Containers.{met_of, columns, AllBlank, OwnNames}
use Rattle.feedback_arc_set.specs.Nodes.{neighbours_of}

-- every node of the network has its entry, at most most of them, and the neighbour places name the ends of the arcs
pub record EnteredAll (network : List Link) (nodes : FasNodeContainer) (neighbours : List NeighbourPlace) (most : ℕ) : Type 0 where
  pub entered : Entered network (length network) (met_of nodes) (neighbours_of neighbours).nodes
  pub few : length (met_of nodes) ≤ most
  pub blank : AllBlank nodes
  pub own : OwnNames nodes

-- the network is ordered: its touched nodes have the entries, the order places hold its greedy order before what they held behind it, and every entry has its node's place
pub record Ranked (network : List Link) (nodes : FasNodeContainer) (before after : List NodeIndex) : Type 0 where
  pub met : met_of nodes ≡ touched network
  pub own : OwnNames nodes
  pub order : map (λ k. k.value) (take (length (met_of nodes)) after) ≡ greedy_order network
  pub rest : drop (length (met_of nodes)) after ≡ drop (length (met_of nodes)) before
  pub places : (x : ℕ) → x < length (met_of nodes) → (slice_index (columns nodes).places x < length (met_of nodes)) × (slice_index (greedy_order network) (slice_index (columns nodes).places x) ≡ slice_index (met_of nodes) x)
