-- The checks of a network file, in their sequence: from bytes to contents, or to the first fault.
use Rattle.std.specs.Prelude.{ℕ, ◌+◌, ◌*◌, Bool, true, false, not, ◌||◌, List, [], ◌∷◌, ◌++◌, length, Ok, Err, Result, ◌==◌, nat_le, nat_lt}
use Rattle.fault.specs.declared.Fault.{Fault}
use Rattle.fault.specs.declared.Fault.TheVariants.{FileTooLarge, FileLength, FileField, NodeRepeated, EndUnlisted}
use Rattle.network_file.specs.Fields.{field_at}
use Rattle.network_file.specs.Layout.{Contents}
use Rattle.network_file.specs.Reading.{node_count, arc_count, arcs_begin, nodes_of, arcs_of, contents_of}
use Rattle.network_file.specs.declared.arc.FileArc.{FileArc}

-- granted where a test holds, and else this fault
abbrev pub expected : Bool → Fault → Result (Unit {0}) Fault
expected true fault = Ok tt
expected false fault = Err fault

-- one check and then the next: the first fault stands
abbrev pub then : {X : Type 0} → Result (Unit {0}) Fault → Result X Fault → Result X Fault
then (Ok granted) next = next
then (Err fault) next = Err fault

-- whether a number is in a list
abbrev pub has : List ℕ → ℕ → Bool
has [] x = false
has (y ∷ ys) x = y == x || has ys x

-- under 65,536 bytes, and not under 16
unfoldable pub size_checked : List ℕ → Result (Unit {0}) Fault
size_checked bytes = then (expected (nat_lt (length bytes) 65536) FileTooLarge) (expected (nat_le 16 (length bytes)) (FileLength (length bytes)))

-- the four fields of the contents table, and then the length that they give
unfoldable pub table_checked : List ℕ → Result (Unit {0}) Fault
table_checked bytes =
    then (expected (field_at bytes 0 == 16) (FileField 0))
    (then (expected (nat_le (node_count bytes) 4096) (FileField 4))
    (then (expected (field_at bytes 8 == 16 + 4 * node_count bytes) (FileField 8))
    (then (expected (nat_le (arc_count bytes) 32768) (FileField 12))
    (expected (length bytes == 16 + 4 * node_count bytes + 12 * arc_count bytes) (FileLength (length bytes))))))

-- no node of a list equals an earlier one, the records beginning at a position and those seen standing before
abbrev pub nodes_differ : List ℕ → ℕ → List ℕ → Result (Unit {0}) Fault
nodes_differ seen at [] = Ok tt
nodes_differ seen at (x ∷ nodes) = then (expected (not (has seen x)) (NodeRepeated at)) (nodes_differ (seen ++ x ∷ []) (at + 4) nodes)

-- both ends of each arc are nodes, the source first, the records beginning at a position
abbrev pub ends_listed : List ℕ → ℕ → List FileArc → Result (Unit {0}) Fault
ends_listed nodes at [] = Ok tt
ends_listed nodes at (arc ∷ arcs) =
    then (expected (has nodes arc.source) (EndUnlisted at))
    (then (expected (has nodes arc.target) (EndUnlisted (at + 4))) (ends_listed nodes (at + 12) arcs))

-- all checks, and then the contents
unfoldable pub checked : List ℕ → Result Contents Fault
checked bytes =
    then (size_checked bytes)
    (then (table_checked bytes)
    (then (nodes_differ [] 16 (nodes_of bytes))
    (then (ends_listed (nodes_of bytes) (arcs_begin bytes) (arcs_of bytes))
    (Ok (contents_of bytes)))))
