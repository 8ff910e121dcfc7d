-- What the questions and the cursors of a map show.
use Rattle.std.specs.Prelude.{ℕ, Bool, ◌||◌, List, map, length, Some, None, Option, ◌==◌}
use Rattle.network.specs.declared.direction.CompactDirection.{CompactDirection}
use Rattle.network.specs.declared.direction.CompactDirection.TheVariants.{Outgoing, Incoming}
use Rattle.map_model.specs.Lists.{has, kept, present}
use Rattle.map_model.specs.Model.{same_direction, Link, Arc, Model, between, links_at, weight_at}

abbrev pub node_count : {N E : Type 0} → Model N E → ℕ
node_count m = length m.nodes

abbrev pub edge_count : {N E : Type 0} → Model N E → ℕ
edge_count m = length m.arcs

abbrev pub contains_edge : {N E : Type 0} → (N → ℕ) → Model N E → N → N → Bool
contains_edge ix m a b = has (between (ix a) (ix b)) m.arcs

abbrev pub nodes_shown : {N E : Type 0} → Model N E → List N
nodes_shown m = map (λ x. x.key) m.nodes

-- the source, the target and the weight of an arc
abbrev pub triple : {N E : Type 0} → Arc N E → N × N × E
triple x = (x.source, x.target, x.weight)

abbrev pub all_edges_shown : {N E : Type 0} → Model N E → List (N × N × E)
all_edges_shown m = map triple m.arcs

-- the links of the node i that a direction shows: a loop has an outgoing link alone, which either direction shows
abbrev pub shows : {N : Type 0} → ℕ → CompactDirection → Link N → Bool
shows i d k = same_direction k.direction d || k.index == i

abbrev pub links_shown : {N E : Type 0} → Model N E → ℕ → CompactDirection → List (Link N)
links_shown m i d = kept (shows i d) (links_at i m.nodes)

-- the other ends of the links that a direction shows: none where the node is absent
abbrev pub neighbors_shown : {N E : Type 0} → (N → ℕ) → Model N E → N → CompactDirection → List N
neighbors_shown ix m a d = map (λ k. k.key) (links_shown m (ix a) d)

abbrev pub with_ends : {N E : Type 0} → N → N → Option E → Option (N × N × E)
with_ends a b None = None
with_ends a b (Some w) = Some (a, b, w)

-- the arc that a link of the node a stands for: from a, or to a
abbrev pub edge_of : {N E : Type 0} → N → ℕ → CompactDirection → List (Arc N E) → Link N → Option (N × N × E)
edge_of a i Outgoing arcs k = with_ends a k.key (weight_at i k.index arcs)
edge_of a i Incoming arcs k = with_ends k.key a (weight_at k.index i arcs)

abbrev pub edges_shown : {N E : Type 0} → (N → ℕ) → Model N E → N → CompactDirection → List (N × N × E)
edges_shown ix m a d = present (map (edge_of a (ix a) d m.arcs) (links_shown m (ix a) d))
