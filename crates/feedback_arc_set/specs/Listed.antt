-- The class lists, and the order as it is made.
use Rattle.std.specs.Prelude.{◌≡◌, ℕ, ◌<◌, List, length, Some, None, Option}
use Rattle.keys.specs.declared.fas_node_index.FasNodeIndex.{FasNodeIndex}
use Rattle.feedback_arc_set.specs.declared.buckets.Buckets.{Buckets}
use Rattle.keys.specs.declared.node_index.NodeIndex.{NodeIndex}
use Rattle.network.specs.Network.{Link}
use Rattle.fas_layout.specs.Columns.{Neighbours}
use Rattle.fas_layout.specs.Stages.{Stands, Took, Capped, after_taking_if, Stage}
use Rattle.feedback_arc_set.specs.declared.container.FasNodeContainer.{FasNodeContainer}
use Rattle.feedback_arc_set.specs.declared.halves.Halves.{Halves}
use Rattle.feedback_arc_set.specs.Containers.{columns}
use Rattle.feedback_arc_set.specs.Nodes.{starts_of}

-- where the lists begin
abbrev pub starts : Buckets → List (Option ℕ)
starts b = starts_of b.places.now

-- the same places are lent, for as many arcs, with the same top
pub record SameSizes (a b : Buckets) : Type 0 where
  pub arcs : a.arcs ≡ b.arcs
  pub size : length (starts a) ≡ length (starts b)
  pub top : a.top ≡ b.top
  pub lender : a.places.ghost_name ≡ b.places.ghost_name

-- the number of an entry that may be missing
abbrev pub index_in : Option FasNodeIndex → Option ℕ
index_in None = None
index_in (Some ix) = Some ix.value

abbrev pub order_places : Halves → List NodeIndex
order_places h = h.places.now

-- the working tables and the order are at a stage at which Q holds of the untaken nodes
abbrev pub At : List Link → Neighbours → (ℕ → NodeIndex) → List NodeIndex → (List ℕ → Type 0) → FasNodeContainer → Buckets → Halves → Type 0
At arcs P key goal Q nodes b h = Stage b.arcs arcs P key goal Q (columns nodes) (starts b) b.top (order_places h) h.front h.back

-- the first entry of a class is taken, where there is room: the tables go on from n and b to n1 and b1, and r is the entry; where there is none nothing changes
pub record TookFirst (P : Neighbours) (n n1 : FasNodeContainer) (b b1 : Buckets) (class room : ℕ) (r : Option ℕ) : Type 0 where
  pub took : (arcs : List Link) (us : List ℕ) → 0 < room → Stands b.arcs arcs P (columns n) (starts b) us → Took b.arcs arcs P (columns n1) (starts b1) us class r
  pub capped : (arcs : List Link) (us : List ℕ) → 0 < room → Stands b.arcs arcs P (columns n) (starts b) us → Capped b.arcs arcs b.top us → Capped b.arcs arcs b1.top (after_taking_if arcs r us)
  pub full : room ≡ 0 → (n1 ≡ n) × (b1 ≡ b)
  pub placed : (columns n1).places ≡ (columns n).places
  pub arcs : b1.arcs ≡ b.arcs
  pub lender : b1.places.ghost_name ≡ b.places.ghost_name

-- the classes and the order are in the same lent places
pub record SameLenders (b : Buckets) (h : Halves) (b0 : Buckets) (h0 : Halves) : Type 0 where
  pub classes : b.places.ghost_name ≡ b0.places.ghost_name
  pub order : h.places.ghost_name ≡ h0.places.ghost_name
