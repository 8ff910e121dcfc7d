-- The text that is printed of the bytes that were read.
use Rattle.std.specs.Prelude.{ℕ, List, [], ◌∷◌, ◌++◌, length, Ok, Err, codes, Result}
use Rattle.std.specs.List.{flat_map}
use Rattle.decimal.specs.Digits.{digits}
use Rattle.fault.specs.Faults.{refusal_line}
use Rattle.fault.specs.declared.Fault.{Fault}
use Rattle.network_file.specs.Checks.{checked}
use Rattle.network_file.specs.Layout.{Contents, arc_fields}
use Rattle.network_file.specs.Reading.{contents_of}
use Rattle.network_file.specs.declared.arc.FileArc.{FileArc}
use Rattle.network_file.specs.declared.view.NetworkFile.{NetworkFile}

-- each number after a space
abbrev pub spaced : List ℕ → List ℕ
spaced numbers = flat_map (λ n. 32 ∷ digits n) numbers

-- a word and numbers, to the end of the line
abbrev pub line : List ℕ → List ℕ → List ℕ
line word numbers = word ++ (spaced numbers ++ (10 ∷ []))

abbrev pub node_line : ℕ → List ℕ
node_line node = line (codes "node") (node ∷ [])

abbrev pub arc_line : FileArc → List ℕ
arc_line arc = line (codes "arc") (arc_fields arc)

-- the counts of nodes and arcs
abbrev pub counts_line : Contents → List ℕ
counts_line contents = codes "nodes " ++ (digits (length contents.nodes) ++ line (codes " arcs") (length contents.arcs ∷ []))

-- the counts, then a line for each node and each arc in file sequence
unfoldable pub contents_text : Contents → List ℕ
contents_text contents = counts_line contents ++ (flat_map node_line contents.nodes ++ flat_map arc_line contents.arcs)

-- the contents of a file, or the refusal
abbrev pub answer_text : Result Contents Fault → List ℕ
answer_text (Ok contents) = contents_text contents
answer_text (Err fault) = refusal_line fault

-- how many bytes were read, and the answer
unfoldable pub told : ℕ → Result Contents Fault → List ℕ
told count answer = codes "read " ++ (digits count ++ (codes " bytes\n" ++ answer_text answer))

-- the contents of the file that the check granted, or the fault
abbrev pub answer_of : Result NetworkFile Fault → Result Contents Fault
answer_of (Ok file) = Ok (contents_of file.bytes.now)
answer_of (Err fault) = Err fault

abbrev pub report : List ℕ → List ℕ
report bytes = told (length bytes) (checked bytes)
