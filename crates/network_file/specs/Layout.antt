-- The layout of a network file: from nodes and arcs to bytes.
use Rattle.std.specs.Prelude.{ℕ, ◌+◌, ◌*◌, List, [], ◌∷◌, ◌++◌, length}
use Rattle.std.specs.List.{flat_map}
use Rattle.network_file.specs.Fields.{field_bytes}
use Rattle.network_file.specs.declared.arc.FileArc.{FileArc}

-- what a network file holds: node numbers and arcs, in sequence
pub record Contents : Type 0 where
  pub nodes : List ℕ
  pub arcs : List FileArc

-- the fields of an arc's record
abbrev pub arc_fields : FileArc → List ℕ
arc_fields arc = arc.source ∷ arc.target ∷ arc.weight ∷ []

-- the fields of a file: the contents table (where the nodes begin, how many there are, where the arcs begin,
-- how many there are), then the nodes, then the arcs
abbrev pub fields_of : Contents → List ℕ
fields_of contents =
    16 ∷ length contents.nodes ∷ (16 + 4 * length contents.nodes) ∷ length contents.arcs
    ∷ (contents.nodes ++ flat_map arc_fields contents.arcs)

-- the bytes of a file
unfoldable pub laid_out : Contents → List ℕ
laid_out contents = flat_map field_bytes (fields_of contents)
