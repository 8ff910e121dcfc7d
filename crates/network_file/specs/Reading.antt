-- What the contents table of a file says, and what stands where it points.
use Rattle.std.specs.Prelude.{◌≡◌, ℕ, zero, suc, ◌+◌, ◌*◌, ◌/◌, ◌<◌, List, [], ◌∷◌, length}
use Rattle.network_file.specs.Fields.{field_at, fields_from}
use Rattle.network_file.specs.Layout.{Contents}
use Rattle.network_file.specs.declared.arc.FileArc.{FileArc}

abbrev pub node_count : List ℕ → ℕ
node_count bytes = field_at bytes 4

abbrev pub arc_count : List ℕ → ℕ
arc_count bytes = field_at bytes 12

-- where the arc records begin
abbrev pub arcs_begin : List ℕ → ℕ
arcs_begin bytes = 16 + 4 * node_count bytes

-- the arc whose record begins at a position
abbrev pub arc_from : List ℕ → ℕ → FileArc
arc_from bytes at = record { source = field_at bytes at; target = field_at bytes (at + 4); weight = field_at bytes (at + 8) }

-- as many arcs as asked, one after another from a position on
abbrev pub arcs_from : List ℕ → ℕ → ℕ → List FileArc
arcs_from bytes at zero = []
arcs_from bytes at (suc count) = arc_from bytes at ∷ arcs_from bytes (at + 12) count

unfoldable pub nodes_of : List ℕ → List ℕ
nodes_of bytes = fields_from bytes 16 (node_count bytes)

unfoldable pub arcs_of : List ℕ → List FileArc
arcs_of bytes = arcs_from bytes (arcs_begin bytes) (arc_count bytes)

-- the numbers of the whole fields of some bytes, one after another
unfoldable pub numbers_in : List ℕ → List ℕ
numbers_in bytes = fields_from bytes 0 (length bytes / 4)

-- the arcs whose records hold numbers, three for each
abbrev pub arcs_in : List ℕ → List FileArc
arcs_in [] = []
arcs_in (source ∷ []) = []
arcs_in (source ∷ target ∷ []) = []
arcs_in (source ∷ target ∷ weight ∷ numbers) = record { source = source; target = target; weight = weight } ∷ arcs_in numbers

abbrev pub contents_of : List ℕ → Contents
contents_of bytes = record { nodes = nodes_of bytes; arcs = arcs_of bytes }

-- the bytes have the length that the contents table gives, and are few enough for a file
pub record Whole (bytes : List ℕ) : Type 0 where
  pub all : length bytes ≡ 16 + 4 * node_count bytes + 12 * arc_count bytes
  pub small : length bytes < 65536
