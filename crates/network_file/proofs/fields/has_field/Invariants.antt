use Rattle.std.proofs.Common.{◌≡◌, eqb, false, take}
use Rattle.std.specs.Int.{from_le_bytes, w32}
use Rattle.std.specs.List.{list_any}
use Rattle.network_file.proofs.fields.has_field.Given as goal

-- the number is none of the fields so far
abbrev pub invariant-loop-field : goal.invariant-loop-field
invariant-loop-field l = list_any (λ y. eqb (from_le_bytes w32 y) l.number) (take l.field-index l.fields) ≡ false
