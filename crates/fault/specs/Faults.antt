-- The number and the place of each fault, and the line that tells them.
use Rattle.std.specs.Prelude.{ℕ, cond, List, [], ◌∷◌, ◌++◌, length, Ok, Err, codes, Result}
use Rattle.decimal.specs.Digits.{digits}
use Rattle.decimal.specs.Outputs.{fits_at}
use Rattle.fault.specs.declared.Fault.{Fault}
use Rattle.fault.specs.declared.Fault.TheVariants.{TablesUnfit, NodesFull, ArcsFull, FileTooLarge, SourceTooLarge, WorkTablesShort, EndUnplaced, OutputShort, FileLength, FileField, NodeRepeated, EndUnlisted, ArcRepeated, LaneRange}

-- the number of the cause
abbrev pub number_of : Fault → ℕ
number_of TablesUnfit = 1
number_of NodesFull = 2
number_of ArcsFull = 3
number_of FileTooLarge = 4
number_of SourceTooLarge = 4
number_of WorkTablesShort = 5
number_of (EndUnplaced place) = 6
number_of OutputShort = 7
number_of (FileLength place) = 8
number_of (FileField place) = 9
number_of (NodeRepeated place) = 10
number_of (EndUnlisted place) = 11
number_of (ArcRepeated place) = 12
number_of LaneRange = 13

-- the place that the cause concerns, 0 where it concerns none
abbrev pub place_of : Fault → ℕ
place_of TablesUnfit = 0
place_of NodesFull = 0
place_of ArcsFull = 0
place_of FileTooLarge = 0
place_of SourceTooLarge = 0
place_of WorkTablesShort = 0
place_of (EndUnplaced place) = place
place_of OutputShort = 0
place_of (FileLength place) = place
place_of (FileField place) = place
place_of (NodeRepeated place) = place
place_of (EndUnlisted place) = place
place_of (ArcRepeated place) = place
place_of LaneRange = 0

-- the bytes of `refused N at P`
unfoldable pub refusal_text : Fault → List ℕ
refusal_text fault = codes "refused " ++ (digits (number_of fault) ++ (codes " at " ++ digits (place_of fault)))

-- the line of it, which byte 10 ends
unfoldable pub refusal_line : Fault → List ℕ
refusal_line fault = refusal_text fault ++ (10 ∷ [])

-- a refusal for want of room in an output, else the length of what was put there
abbrev pub length_if_room : List ℕ → List ℕ → Result ℕ Fault
length_if_room out bytes = cond (fits_at out 0 bytes) (Ok (length bytes)) (Err OutputShort)
