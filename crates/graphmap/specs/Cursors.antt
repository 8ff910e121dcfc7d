-- What the iterators over a map have still to show.
use Rattle.std.specs.Prelude.{◌≡◌, ◌+◌, cond, List, map, drop, is_some, Option}
use Rattle.std.specs.Iterator.{YieldsFirst}
use Rattle.std.specs.List.{slice_get}
use Rattle.std.specs.Option.{option_map}
use Rattle.map_model.specs.Lists.{present}
use Rattle.map_model.specs.Model.{Link}
use Rattle.map_model.specs.Shown.{nodes_shown, all_edges_shown, edge_of}
use Rattle.graphmap.specs.declared.graphmap.cursors.Nodes.{Nodes}
use Rattle.graphmap.specs.declared.graphmap.cursors.AllEdges.{AllEdges}
use Rattle.graphmap.specs.declared.graphmap.links.NeighborsDirected.{NeighborsDirected}
use Rattle.graphmap.specs.declared.graphmap.links.EdgesDirected.{EdgesDirected}
use Rattle.graphmap.specs.declared.graphmap.walk.LinksDirected.{LinksDirected}
use Rattle.graphmap.specs.Links.{ToCome, links_left, first_of, rest_of, edge_first}
use Rattle.graphmap.specs.Maps.{map_model}
use Rattle.graphmap.specs.States.{state}

-- the links that a walk has not come to
abbrev pub walk_left : {N E : Type 0} → LinksDirected N E → List (Link N)
walk_left w = links_left (state w.map.now.tables) w.node.index.value w.direction w.place

abbrev pub nodes_left : {N E : Type 0} → Nodes N E → List N
nodes_left nodes = drop nodes.position (nodes_shown (map_model nodes.map.now))

abbrev pub all_edges_left : {N E : Type 0} → AllEdges N E → List (N × N × E)
all_edges_left edges = drop edges.position (all_edges_shown (map_model edges.map.now))

abbrev pub neighbors_left : {N E : Type 0} → NeighborsDirected N E → List N
neighbors_left neighbors = map (λ k. k.key) (walk_left neighbors.links)

abbrev pub edges_left : {N E : Type 0} → EdgesDirected N E → List (N × N × E)
edges_left edges = let w = edges.links in present (map (edge_of w.node.key w.node.index.value w.direction (map_model w.map.now).arcs) (walk_left w))

-- ---- one call of `next`, from s to t, that gave r
pub record NextNode {N E : Type 0} (s : Nodes N E) (r : Option N) (t : Nodes N E) : Type 0 where
  pub first : YieldsFirst (λ nodes. nodes_left nodes) s r t
  pub answer : r ≡ slice_get (nodes_shown (map_model s.map.now)) s.position
  pub moved : t.position ≡ cond (is_some r) (s.position + 1) s.position
  pub same : t.map.now ≡ s.map.now

pub record NextOfAllEdges {N E : Type 0} (s : AllEdges N E) (r : Option (N × N × E)) (t : AllEdges N E) : Type 0 where
  pub first : YieldsFirst (λ edges. all_edges_left edges) s r t
  pub answer : r ≡ slice_get (all_edges_shown (map_model s.map.now)) s.position
  pub moved : t.position ≡ cond (is_some r) (s.position + 1) s.position
  pub same : t.map.now ≡ s.map.now

pub record NextNeighbor {N E : Type 0} (s : NeighborsDirected N E) (r : Option N) (t : NeighborsDirected N E) : Type 0 where
  pub first : YieldsFirst (λ neighbors. neighbors_left neighbors) s r t
  pub shows : (ks : List (Link N)) → ToCome (state s.links.map.now.tables) s.links.node.index.value s.links.direction s.links.place 0 ks
      → (r ≡ option_map (λ k. k.key) (first_of ks)) × ToCome (state s.links.map.now.tables) s.links.node.index.value s.links.direction t.links.place 0 (rest_of ks)
  pub same : (t.links.map.now ≡ s.links.map.now) × (t.links.node ≡ s.links.node) × (t.links.direction ≡ s.links.direction)

pub record NextEdge {N E : Type 0} (s : EdgesDirected N E) (r : Option (N × N × E)) (t : EdgesDirected N E) : Type 0 where
  pub first : YieldsFirst (λ edges. edges_left edges) s r t
  pub shows : (ks : List (Link N)) → ToCome (state s.links.map.now.tables) s.links.node.index.value s.links.direction s.links.place 0 ks
      → (r ≡ edge_first s.links.node.key s.links.node.index.value s.links.direction (map_model s.links.map.now).arcs (first_of ks)) × ToCome (state s.links.map.now.tables) s.links.node.index.value s.links.direction t.links.place 0 (rest_of ks)
  pub same : (t.links.map.now ≡ s.links.map.now) × (t.links.node ≡ s.links.node) × (t.links.direction ≡ s.links.direction)
