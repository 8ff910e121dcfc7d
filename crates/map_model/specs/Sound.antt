-- What every edit keeps of a map: each node and each arc stands once, and the links of a node are its arcs.
use Rattle.std.specs.Prelude.{◌≡◌, ℕ, ◌≤◌, cond, List, length, ◌==◌}
use Rattle.network.specs.declared.direction.CompactDirection.{CompactDirection}
use Rattle.network.specs.declared.direction.CompactDirection.TheVariants.{Outgoing, Incoming}
use Rattle.map_model.specs.Lists.{count, All}
use Rattle.map_model.specs.Model.{Link, Node, Arc, Model, named, links_to, between, links_at}

-- how many links of the node i to j the arcs ask for: a loop has no incoming link
abbrev pub due : {N E : Type 0} → ℕ → ℕ → CompactDirection → List (Arc N E) → ℕ
due i j Outgoing arcs = count (between i j) arcs
due i j Incoming arcs = cond (j == i) 0 (count (between j i) arcs)

pub record Fit {N E : Type 0} (nodes : List (Node N)) (arcs : List (Arc N E)) : Type 0 where
  pub one_node : (i : ℕ) → count (named i) nodes ≤ 1
  pub one_arc : (i j : ℕ) → count (between i j) arcs ≤ 1
  pub links : (i j : ℕ) (d : CompactDirection) → count (links_to j d) (links_at i nodes) ≡ due i j d arcs

abbrev pub Sound : {N E : Type 0} → Model N E → Type 0
Sound m = Fit m.nodes m.arcs

-- the nodes and the arcs have places
pub record Placed {N E : Type 0} (m : Model N E) : Type 0 where
  pub nodes : length m.nodes ≤ m.node_places
  pub arcs : length m.arcs ≤ m.arc_places

-- each index that is stored is that of the key beside it
abbrev pub LinkStored : {N : Type 0} → (N → ℕ) → Link N → Type 0
LinkStored ix k = k.index ≡ ix k.key

pub record NodeStored {N : Type 0} (ix : N → ℕ) (x : Node N) : Type 0 where
  pub own : x.index ≡ ix x.key
  pub links : All (LinkStored ix) x.links

pub record ArcStored {N E : Type 0} (ix : N → ℕ) (x : Arc N E) : Type 0 where
  pub source : x.source_index ≡ ix x.source
  pub target : x.target_index ≡ ix x.target

pub record Stored {N E : Type 0} (ix : N → ℕ) (m : Model N E) : Type 0 where
  pub nodes : All (NodeStored ix) m.nodes
  pub arcs : All (ArcStored ix) m.arcs
