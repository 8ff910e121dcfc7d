-- A directed graph map with a limited number of places, and its edits.
use Rattle.std.specs.Prelude.{ℕ, ◌+◌, Bool, true, false, cond, ◌&&◌, ◌||◌, List, [], ◌∷◌, ◌++◌, length, Some, None, Ok, Err, Option, Result, ◌==◌, nat_le, nat_lt}
use Rattle.fault.specs.declared.Fault.{Fault}
use Rattle.fault.specs.declared.Fault.TheVariants.{NodesFull, ArcsFull}
use Rattle.network.specs.Directions.{opposite}
use Rattle.network.specs.declared.direction.CompactDirection.{CompactDirection}
use Rattle.network.specs.declared.direction.CompactDirection.TheVariants.{Outgoing, Incoming}
use Rattle.map_model.specs.declared.Edit.{Edit}
use Rattle.map_model.specs.declared.Edit.TheVariants.{AddNode, AddEdge, RemoveNode, RemoveEdge}
use Rattle.map_model.specs.declared.Answer.{Answer}
use Rattle.map_model.specs.declared.Answer.TheVariants.{NodeAdded, EdgeAdded, NodeRemoved, EdgeRemoved}
use Rattle.map_model.specs.Lists.{has, found, taken, changed}

abbrev pub same_direction : CompactDirection → CompactDirection → Bool
same_direction Outgoing Outgoing = true
same_direction Outgoing Incoming = false
same_direction Incoming Outgoing = false
same_direction Incoming Incoming = true

-- ---- the map: a key stands everywhere beside its index, and the index alone says which node is meant

-- a link of a node names the other end of an arc
pub record Link (N : Type 0) : Type 0 where
  pub key : N
  pub index : ℕ
  pub direction : CompactDirection

-- a node and its links, first to last
pub record Node (N : Type 0) : Type 0 where
  pub key : N
  pub index : ℕ
  pub links : List (Link N)

pub record Arc (N E : Type 0) : Type 0 where
  pub source : N
  pub source_index : ℕ
  pub target : N
  pub target_index : ℕ
  pub weight : E

-- nodes and arcs in table sequence, and how many of each there are places for
pub record Model (N E : Type 0) : Type 0 where
  pub nodes : List (Node N)
  pub arcs : List (Arc N E)
  pub node_places : ℕ
  pub arc_places : ℕ

-- ---- what is looked for
abbrev pub named : {N : Type 0} → ℕ → Node N → Bool
named i x = x.index == i

abbrev pub links_to : {N : Type 0} → ℕ → CompactDirection → Link N → Bool
links_to i d k = k.index == i && same_direction k.direction d

abbrev pub between : {N E : Type 0} → ℕ → ℕ → Arc N E → Bool
between i j x = x.source_index == i && x.target_index == j

-- the links of the node i
abbrev pub links_of : {N : Type 0} → Option (Node N) → List (Link N)
links_of None = []
links_of (Some x) = x.links

abbrev pub links_at : {N : Type 0} → ℕ → List (Node N) → List (Link N)
links_at i nodes = links_of (found (named i) nodes)

-- the weight of the arc from i to j
abbrev pub weight_of : {N E : Type 0} → Option (Arc N E) → Option E
weight_of None = None
weight_of (Some x) = Some x.weight

abbrev pub weight_at : {N E : Type 0} → ℕ → ℕ → List (Arc N E) → Option E
weight_at i j arcs = weight_of (found (between i j) arcs)

-- ---- changes of the nodes

-- the node n with index i stands among the nodes, as the last where it is new
abbrev pub joined : {N : Type 0} → N → ℕ → List (Node N) → List (Node N)
joined n i nodes = cond (has (named i) nodes) nodes (nodes ++ record { key = n; index = i; links = [] } ∷ [])

abbrev pub relinked : {N : Type 0} → (List (Link N) → List (Link N)) → Node N → Node N
relinked f x = record { key = x.key; index = x.index; links = f x.links }

-- a new link comes last
abbrev pub linked : {N : Type 0} → N → ℕ → N → ℕ → CompactDirection → List (Node N) → List (Node N)
linked n i o j d nodes = changed (named i) (relinked (λ l. l ++ record { key = o; index = j; direction = d } ∷ [])) (joined n i nodes)

-- an arc from a to b has a link at a and, unless it is a loop, one at b
abbrev pub both_linked : {N : Type 0} → N → ℕ → N → ℕ → List (Node N) → List (Node N)
both_linked a i b j nodes = cond (i == j) (linked a i b j Outgoing nodes) (linked b j a i Incoming (linked a i b j Outgoing nodes))

-- a removed link is replaced by its node's last
abbrev pub unlinked : {N : Type 0} → ℕ → ℕ → CompactDirection → List (Node N) → List (Node N)
unlinked i j d nodes = changed (named i) (relinked (taken (links_to j d))) nodes

abbrev pub both_unlinked : {N : Type 0} → ℕ → ℕ → List (Node N) → List (Node N)
both_unlinked i j nodes = cond (i == j) (unlinked i j Outgoing nodes) (unlinked j i Incoming (unlinked i j Outgoing nodes))

-- at the other end of each of the links ks of the node i, the link back goes
abbrev pub all_unlinked : {N : Type 0} → ℕ → List (Link N) → List (Node N) → List (Node N)
all_unlinked i [] nodes = nodes
all_unlinked i (k ∷ ks) nodes = all_unlinked i ks (unlinked k.index i (opposite k.direction) nodes)

-- ---- changes of the arcs
abbrev pub weighed : {N E : Type 0} → E → Arc N E → Arc N E
weighed w x = record { source = x.source; source_index = x.source_index; target = x.target; target_index = x.target_index; weight = w }

-- the arc that a link of the node i stands for
abbrev pub arc_of : {N E : Type 0} → ℕ → ℕ → CompactDirection → Arc N E → Bool
arc_of i j Outgoing = between i j
arc_of i j Incoming = between j i

-- each arc that the links ks of the node i stand for goes
abbrev pub all_taken : {N E : Type 0} → ℕ → List (Link N) → List (Arc N E) → List (Arc N E)
all_taken i [] arcs = arcs
all_taken i (k ∷ ks) arcs = all_taken i ks (taken (arc_of i k.index k.direction) arcs)

-- ---- the four calls, over keys with their indices
abbrev pub with_tables : {N E : Type 0} → Model N E → List (Node N) → List (Arc N E) → Model N E
with_tables m nodes arcs = record { nodes = nodes; arcs = arcs; node_places = m.node_places; arc_places = m.arc_places }

-- how many of the two ends are new: a loop has one end
abbrev pub new_keys : {N : Type 0} → ℕ → ℕ → List (Node N) → ℕ
new_keys i j nodes = cond (has (named i) nodes) 0 1 + cond (i == j || has (named j) nodes) 0 1

abbrev pub node_added_at : {N E : Type 0} → Model N E → N → ℕ → Result N Fault × Model N E
node_added_at m n i =
    cond (has (named i) m.nodes || nat_lt (length m.nodes) m.node_places)
    (Ok n, with_tables m (joined n i m.nodes) m.arcs)
    (Err NodesFull, m)

abbrev pub new_edge_added_at : {N E : Type 0} → Model N E → N → ℕ → N → ℕ → E → Result (Option E) Fault × Model N E
new_edge_added_at m a i b j w =
    cond (nat_le (length m.nodes + new_keys i j m.nodes) m.node_places)
    (cond (nat_lt (length m.arcs) m.arc_places)
    (Ok None, with_tables m (both_linked a i b j m.nodes) (m.arcs ++ record { source = a; source_index = i; target = b; target_index = j; weight = w } ∷ []))
    (Err ArcsFull, m))
    (Err NodesFull, m)

-- the last argument is the weight that the arc has
abbrev pub edge_put_at : {N E : Type 0} → Model N E → N → ℕ → N → ℕ → E → Option E → Result (Option E) Fault × Model N E
edge_put_at m a i b j w (Some old) = (Ok (Some old), with_tables m m.nodes (changed (between i j) (weighed w) m.arcs))
edge_put_at m a i b j w None = new_edge_added_at m a i b j w

abbrev pub edge_added_at : {N E : Type 0} → Model N E → N → ℕ → N → ℕ → E → Result (Option E) Fault × Model N E
edge_added_at m a i b j w = edge_put_at m a i b j w (weight_at i j m.arcs)

abbrev pub edge_removed_at : {N E : Type 0} → Model N E → ℕ → ℕ → Option E × Model N E
edge_removed_at m i j = (weight_at i j m.arcs, with_tables m (both_unlinked i j m.nodes) (taken (between i j) m.arcs))

abbrev pub node_removed_at : {N E : Type 0} → Model N E → ℕ → Bool × Model N E
node_removed_at m i =
    cond (has (named i) m.nodes)
    (true, with_tables m (all_unlinked i (links_at i m.nodes) (taken (named i) m.nodes)) (all_taken i (links_at i m.nodes) m.arcs))
    (false, m)

-- ---- the four calls, over keys whose index is ix
abbrev pub node_added : {N E : Type 0} → (N → ℕ) → Model N E → N → Result N Fault × Model N E
node_added ix m n = node_added_at m n (ix n)

abbrev pub edge_added : {N E : Type 0} → (N → ℕ) → Model N E → N → N → E → Result (Option E) Fault × Model N E
edge_added ix m a b w = edge_added_at m a (ix a) b (ix b) w

abbrev pub edge_removed : {N E : Type 0} → (N → ℕ) → Model N E → N → N → Option E × Model N E
edge_removed ix m a b = edge_removed_at m (ix a) (ix b)

abbrev pub node_removed : {N E : Type 0} → (N → ℕ) → Model N E → N → Bool × Model N E
node_removed ix m n = node_removed_at m (ix n)

-- one edit: its answer, and the map after it
abbrev pub edited : {N E : Type 0} → (N → ℕ) → Model N E → Edit N E → Answer N E × Model N E
edited ix m (AddNode n) = (NodeAdded (node_added ix m n).0, (node_added ix m n).1)
edited ix m (AddEdge a b w) = (EdgeAdded (edge_added ix m a b w).0, (edge_added ix m a b w).1)
edited ix m (RemoveNode n) = (NodeRemoved (node_removed ix m n).0, (node_removed ix m n).1)
edited ix m (RemoveEdge a b) = (EdgeRemoved (edge_removed ix m a b).0, (edge_removed ix m a b).1)

-- a map just built: no node, no arc
abbrev pub built : {N E : Type 0} → ℕ → ℕ → Model N E
built nodes arcs = record { nodes = []; arcs = []; node_places = nodes; arc_places = arcs }

-- the map after a list of edits
abbrev pub run : {N E : Type 0} → (N → ℕ) → Model N E → List (Edit N E) → Model N E
run ix m [] = m
run ix m (e ∷ es) = run ix (edited ix m e).1 es

-- the answers to a list of edits
abbrev pub answers : {N E : Type 0} → (N → ℕ) → Model N E → List (Edit N E) → List (Answer N E)
answers ix m [] = []
answers ix m (e ∷ es) = (edited ix m e).0 ∷ answers ix (edited ix m e).1 es
