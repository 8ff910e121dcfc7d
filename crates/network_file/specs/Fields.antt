-- A field: a number of 32 bits in four bytes, the low byte first.
use Rattle.std.specs.Prelude.{ℕ, zero, suc, ◌+◌, ◌*◌, ◌/◌, ◌%◌, cond, List, [], ◌∷◌, length, Ok, Err, Result, nat_le, slice_index}
use Rattle.fault.specs.declared.Fault.{Fault}
use Rattle.fault.specs.declared.Fault.TheVariants.{FileTooLarge, FileLength}

-- the four bytes of a number
unfoldable pub field_bytes : ℕ → List ℕ
field_bytes n = n % 256 ∷ n / 256 % 256 ∷ n / 65536 % 256 ∷ n / 16777216 % 256 ∷ []

-- the byte at a position, 0 past the end; the remainder keeps it a byte in any list of numbers
unfoldable pub byte_at : List ℕ → ℕ → ℕ
byte_at bytes i = slice_index bytes i % 256

-- the number whose four bytes begin at a position
unfoldable pub field_at : List ℕ → ℕ → ℕ
field_at bytes at = byte_at bytes at + byte_at bytes (at + 1) * 256 + byte_at bytes (at + 2) * 65536 + byte_at bytes (at + 3) * 16777216

-- as many fields as asked, one after another from a position on
abbrev pub fields_from : List ℕ → ℕ → ℕ → List ℕ
fields_from bytes at zero = []
fields_from bytes at (suc count) = field_at bytes at ∷ fields_from bytes (at + 4) count

-- a field as a file of these bytes answers it: no file has 65,536 bytes or more, and no field passes its end
abbrev pub field_read : List ℕ → ℕ → Result ℕ Fault
field_read bytes at = cond (nat_le 65536 (length bytes)) (Err FileTooLarge) (cond (nat_le (at + 4) (length bytes)) (Ok (field_at bytes at)) (Err (FileLength (length bytes))))
