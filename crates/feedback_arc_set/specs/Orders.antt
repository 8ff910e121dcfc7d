-- The order that working tables hold, and what an ordering answers and leaves.
use Rattle.std.specs.Prelude.{◌≡◌, ℕ, ◌<◌, min, List, [], map, length, take, drop, replicate, Some, None, Option, slice_index}
use Rattle.keys.specs.declared.node_index.NodeIndex.{NodeIndex}
use Rattle.keyed_table.specs.declared.slots.Item.{Item}
use Rattle.keyed_table.specs.declared.slots.Slot.{Slot}
use Rattle.keyed_table.specs.Chains.{blank_slot}
use Rattle.keyed_table.specs.Tables.{listing, places}
use Rattle.network.specs.Counting.{has, EachOnce}
use Rattle.network.specs.Network.{Link, touched}
use Rattle.greedy_order.specs.Part3Order.{greedy_order}
use Rattle.feedback_arc_set.specs.declared.fas_node.FasNode.{FasNode}
use Rattle.feedback_arc_set.specs.declared.places.NeighbourPlace.{NeighbourPlace}
use Rattle.feedback_arc_set.specs.declared.places.ClassPlace.{ClassPlace}
use Rattle.feedback_arc_set.specs.declared.tables.WorkTables.{WorkTables}
use Rattle.feedback_arc_set.specs.Nodes.{blank_neighbour, blank_class}

-- the lent places as they stand
abbrev pub entry_places : WorkTables → List (Slot NodeIndex FasNode)
entry_places t = places t.nodes.table

abbrev pub neighbour_places : WorkTables → List NeighbourPlace
neighbour_places t = t.neighbours.now

abbrev pub class_places : WorkTables → List ClassPlace
class_places t = t.classes.now

abbrev pub order_places : WorkTables → List NodeIndex
order_places t = t.order.now

-- the nodes in the first n order places
abbrev pub order_in : List NodeIndex → ℕ → List ℕ
order_in places n = map (λ k. k.value) (take n places)

-- the place that an entry has, if there is one
abbrev pub place_of : Option FasNode → Option ℕ
place_of None = None
place_of (Some n) = Some n.place

-- every entry has the place of its node in the order, and the order lists the nodes of the entries, each once
pub record Placed (items : List (Item NodeIndex FasNode)) (order : List ℕ) : Type 0 where
  pub once : EachOnce order
  pub listed : (x : ℕ) → has order x ≡ has (map (λ i. i.number) items) x
  pub each : (i : ℕ) → i < length items → (slice_index (map (λ n. n.value.place) items) i < length order) × (slice_index order (slice_index (map (λ n. n.value.place) items) i) ≡ slice_index (map (λ n. n.number) items) i)

-- no neighbour place and no class place is in use
pub record Clean (t : WorkTables) : Type 0 where
  pub neighbours : neighbour_places t ≡ replicate (length (neighbour_places t)) blank_neighbour
  pub classes : class_places t ≡ replicate (length (class_places t)) blank_class

-- for how many nodes there are places: entry places beyond 4,096 do not count
abbrev pub node_places : WorkTables → ℕ
node_places t = min 4096 (min (length (entry_places t)) (length (order_places t)))

-- the tables b hold the order of the network, of n nodes; what they held behind it is as it was in a
pub record Granted (network : List Link) (a b : WorkTables) (n : ℕ) : Type 0 where
  pub count : n ≡ length (touched network)
  pub order : order_in (order_places b) n ≡ greedy_order network
  pub rest : drop n (order_places b) ≡ drop n (order_places a)
  pub long : length (order_places b) ≡ length (order_places a)
  pub placed : Placed (listing b.nodes.table) (order_in (order_places b) n)

-- the tables b hold no order: every entry place is blank, and the order places are as in a
pub record Emptied (a b : WorkTables) : Type 0 where
  pub none : listing b.nodes.table ≡ []
  pub blank : entry_places b ≡ replicate (length (entry_places a)) blank_slot
  pub order : order_places b ≡ order_places a
