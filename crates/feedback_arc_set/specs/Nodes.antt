-- What the lent places hold, and their blank values.
use Rattle.std.specs.Prelude.{◌≡◌, ℕ, ◌+◌, ◌-◌, ◌≤◌, List, map, Some, None, Option, ◌≢◌, slice_index_or}
use Rattle.std.proofs.Common.{lit<}
use Rattle.keys.specs.declared.fas_node_index.FasNodeIndex.{FasNodeIndex}
use Rattle.keys.specs.declared.node_index.NodeIndex.{NodeIndex}
use Rattle.network.specs.declared.direction.CompactDirection.{CompactDirection}
use Rattle.network.specs.declared.direction.CompactDirection.TheVariants.{Outgoing, Incoming}
use Rattle.fas_layout.specs.Columns.{Columns, Neighbours}
use Rattle.feedback_arc_set.specs.declared.fas_node.FasNode.{FasNode}
use Rattle.feedback_arc_set.specs.declared.places.NeighbourPlace.{NeighbourPlace}
use Rattle.feedback_arc_set.specs.declared.places.ClassPlace.{ClassPlace}

abbrev pub blank_node : FasNode
blank_node = record { position = None; out_degree = 0; in_degree = 0; first_out = None; first_in = None; place = 0 }

abbrev pub blank_index : FasNodeIndex
blank_index = record { value = 0; small = lit< tt }

abbrev pub blank_key : NodeIndex
blank_key = record { value = 0; small = lit< tt }

abbrev pub blank_neighbour : NeighbourPlace
blank_neighbour = record { node = blank_index; next = None }

-- a place that names a neighbour and leads nowhere
abbrev pub neighbour_place : FasNodeIndex → NeighbourPlace
neighbour_place n = record { node = n; next = None }

abbrev pub blank_class : ClassPlace
blank_class = record { list = record { start = None } }

-- the entries by column
abbrev pub columns_of : List FasNode → Columns
columns_of nodes = record {
  positions = map (λ n. n.position) nodes;
  out_degrees = map (λ n. n.out_degree) nodes;
  in_degrees = map (λ n. n.in_degree) nodes;
  first_outs = map (λ n. n.first_out) nodes;
  first_ins = map (λ n. n.first_in) nodes;
  places = map (λ n. n.place) nodes;
}

-- the neighbour places by column
abbrev pub neighbours_of : List NeighbourPlace → Neighbours
neighbours_of places = record { nodes = map (λ p. p.node.value) places; nexts = map (λ p. p.next) places }

-- the neighbour places from n on are blank
abbrev pub BlankFrom : List NeighbourPlace → ℕ → Type 0
BlankFrom places n = (k : ℕ) → n ≤ k → slice_index_or places k blank_neighbour ≡ blank_neighbour

-- all places but p are as they were
abbrev pub SameButAt : List NeighbourPlace → List NeighbourPlace → ℕ → Type 0
SameButAt before after p = (k : ℕ) → (k ≢ p) → slice_index_or after k blank_neighbour ≡ slice_index_or before k blank_neighbour

-- where the lists of the classes begin
abbrev pub starts_of : List ClassPlace → List (Option ℕ)
starts_of classes = map (λ c. c.list.start) classes

abbrev pub degree_of : CompactDirection → FasNode → ℕ
degree_of Outgoing n = n.out_degree
degree_of Incoming n = n.in_degree

abbrev pub first_of : CompactDirection → FasNode → Option ℕ
first_of Outgoing n = n.first_out
first_of Incoming n = n.first_in

-- an entry with one arc less
abbrev pub lowered_node : CompactDirection → FasNode → FasNode
lowered_node Outgoing n = record { position = n.position; out_degree = n.out_degree - 1; in_degree = n.in_degree; first_out = n.first_out; first_in = n.first_in; place = n.place }
lowered_node Incoming n = record { position = n.position; out_degree = n.out_degree; in_degree = n.in_degree - 1; first_out = n.first_out; first_in = n.first_in; place = n.place }

-- an entry with one arc more, whose neighbour stands at the neighbour place p
abbrev pub led_node : CompactDirection → ℕ → FasNode → FasNode
led_node Outgoing p n = record { position = n.position; out_degree = n.out_degree + 1; in_degree = n.in_degree; first_out = Some p; first_in = n.first_in; place = n.place }
led_node Incoming p n = record { position = n.position; out_degree = n.out_degree; in_degree = n.in_degree + 1; first_out = n.first_out; first_in = Some p; place = n.place }

-- an entry with its place in the order
abbrev pub placed_node : ℕ → FasNode → FasNode
placed_node p n = record { position = n.position; out_degree = n.out_degree; in_degree = n.in_degree; first_out = n.first_out; first_in = n.first_in; place = p }
