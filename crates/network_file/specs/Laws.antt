-- What the check means: the files that it grants are the layouts of the contents that a file may have, and a refused
-- record is the first wrong one.
use Rattle.std.specs.Prelude.{◌≡◌, ℕ, ◌+◌, ◌*◌, ◌/◌, ◌%◌, ◌^◌, ◌<◌, ◌≤◌, List, [], ◌∷◌, length, take, Ok, Err, ◌≢◌, slice_index}
use Rattle.std.specs.List.{ContainsAt as Has, flat_map, AllByRecursion}
use Rattle.fault.specs.declared.Fault.TheVariants.{NodeRepeated, EndUnlisted}
use Rattle.network_file.specs.Checks.{checked}
use Rattle.network_file.specs.Layout.{Contents, laid_out}
use Rattle.network_file.specs.Reading.{arcs_begin, nodes_of, arcs_of}
use Rattle.network_file.specs.declared.arc.FileArc.{FileArc}

-- contents that a network file may have: numbers of 32 bits, nodes that all differ, arcs between them, and the limits
pub record Allowed (contents : Contents) : Type 0 where
  pub node_numbers : AllByRecursion (λ x. x < 2 ^ 32) contents.nodes
  pub arc_numbers : AllByRecursion (λ a. (a.source < 2 ^ 32) × (a.target < 2 ^ 32) × (a.weight < 2 ^ 32)) contents.arcs
  pub nodes_differ : (i j : ℕ) → i < j → j < length contents.nodes → slice_index contents.nodes i ≢ slice_index contents.nodes j
  pub ends_listed : AllByRecursion (λ a. Has contents.nodes a.source × Has contents.nodes a.target) contents.arcs
  pub node_limit : length contents.nodes ≤ 4096
  pub arc_limit : length contents.arcs ≤ 32768
  pub size_limit : length (laid_out contents) < 65536

-- each is a byte
abbrev pub Bytes : List ℕ → Type 0
Bytes bytes = (i : ℕ) → slice_index bytes i < 256

-- the node at a position is the first that equals an earlier one
pub record FirstRepeated (nodes : List ℕ) (k : ℕ) : Type 0 where
  pub within : k < length nodes
  pub repeats : Has (take k nodes) (slice_index nodes k)
  pub first : (i j : ℕ) → i < j → j < k → slice_index nodes i ≢ slice_index nodes j

-- the ends of arcs in sequence, each source before its target
abbrev pub ends_of : List FileArc → List ℕ
ends_of arcs = flat_map (λ a. a.source ∷ a.target ∷ []) arcs

-- the end at a position is the first that is no node
pub record FirstUnlisted (nodes ends : List ℕ) (k : ℕ) : Type 0 where
  pub within : k < length ends
  pub unlisted : Has nodes (slice_index ends k) → ⊥
  pub first : (i : ℕ) → i < k → Has nodes (slice_index ends i)

-- what the answers of the check mean
pub record Laws (bytes : List ℕ) : Type 0 where
  -- what was laid out within the limits reads back as it was
  pub reads_back : (contents : Contents) → Allowed contents → bytes ≡ laid_out contents → checked bytes ≡ Ok contents
  -- what reads is exactly what its contents lay out, and those are allowed
  pub lays_out_again : (contents : Contents) → checked bytes ≡ Ok contents → (bytes ≡ laid_out contents) × Allowed contents
  -- no other file has the same nodes and arcs in the same sequence
  pub alone : (other : List ℕ) (contents : Contents) → Bytes other → checked bytes ≡ Ok contents → checked other ≡ Ok contents → other ≡ bytes
  -- a repeated node is told by the record of the first one that repeats
  pub repeated : (place : ℕ) → checked bytes ≡ Err (NodeRepeated place) → (k : ℕ) × (place ≡ 16 + 4 * k) × FirstRepeated (nodes_of bytes) k
  -- an unlisted end is told by the field of the first one
  pub unlisted : (place : ℕ) → checked bytes ≡ Err (EndUnlisted place) → (k : ℕ) × (place ≡ arcs_begin bytes + 12 * (k / 2) + 4 * (k % 2)) × FirstUnlisted (nodes_of bytes) (ends_of (arcs_of bytes)) k
