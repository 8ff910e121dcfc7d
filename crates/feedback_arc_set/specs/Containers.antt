-- What the working entries stand for.
use Rattle.std.specs.Prelude.{◌≡◌, ℕ, List, map, length, slice_index_or, None}
use Rattle.keys.specs.declared.node_index.NodeIndex.{NodeIndex}
use Rattle.keyed_table.specs.Tables.{listing, places}
use Rattle.network.specs.Network.{meet}
use Rattle.fas_layout.specs.Columns.{Columns}
use Rattle.fas_layout.specs.Laying.{Names}
use Rattle.feedback_arc_set.specs.declared.fas_node.FasNode.{FasNode}
use Rattle.feedback_arc_set.specs.declared.container.FasNodeContainer.{FasNodeContainer}
use Rattle.feedback_arc_set.specs.Nodes.{columns_of, blank_node, blank_key}

-- the entries by their numbers
abbrev pub nodes_of : FasNodeContainer → List FasNode
nodes_of c = map (λ i. i.value) (listing c.table)

-- the numbers that the entries are found by: the nodes met, in order of first sight
abbrev pub met_of : FasNodeContainer → List ℕ
met_of c = map (λ i. i.number) (listing c.table)

-- the node that each entry is for
abbrev pub keys_of : FasNodeContainer → List NodeIndex
keys_of c = map (λ i. i.key) (listing c.table)

abbrev pub key_in : FasNodeContainer → ℕ → NodeIndex
key_in c x = slice_index_or (keys_of c) x blank_key

-- how many entry places there are
abbrev pub slots_of : FasNodeContainer → ℕ
slots_of c = length (places c.table)

abbrev pub columns : FasNodeContainer → Columns
columns c = columns_of (nodes_of c)

-- the entries are for the same nodes
pub record SameNames (a b : FasNodeContainer) : Type 0 where
  pub met : met_of a ≡ met_of b
  pub names : keys_of a ≡ keys_of b
  pub slots : slots_of a ≡ slots_of b

-- an entry but for its position
abbrev pub unlisted : FasNode → FasNode
unlisted n = record { position = None; out_degree = n.out_degree; in_degree = n.in_degree; first_out = n.first_out; first_in = n.first_in; place = n.place }

-- all but the positions
abbrev pub Unlisted : Type 0
Unlisted = ℕ × List ℕ × List NodeIndex × List FasNode

abbrev pub unlisted_of : FasNodeContainer → Unlisted
unlisted_of c = (slots_of c, met_of c, keys_of c, map unlisted (nodes_of c))

-- no entry has arcs or a class yet
abbrev pub AllBlank : FasNodeContainer → Type 0
AllBlank c = (k : ℕ) → slice_index_or (nodes_of c) k blank_node ≡ blank_node

-- every entry is found by the index of its node
abbrev pub OwnNames : FasNodeContainer → Type 0
OwnNames c = met_of c ≡ map (λ k. k.value) (keys_of c)

-- from a to b the node x was met; its entry is ix
pub record Met (a b : FasNodeContainer) (x ix : ℕ) : Type 0 where
  pub met : met_of b ≡ meet x (met_of a)
  pub entry : Names (met_of b) ix x
  pub blank : AllBlank a → AllBlank b
  pub own : OwnNames a → OwnNames b
