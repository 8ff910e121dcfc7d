-- Bytes put into an output at a position, all of them or none.
use Rattle.std.specs.Prelude.{ℕ, ◌+◌, Bool, cond, List, ◌++◌, length, take, drop, nat_le}

-- whether bytes fit into an output from a position on
abbrev pub fits_at : List ℕ → ℕ → List ℕ → Bool
fits_at out at bytes = nat_le (at + length bytes) (length out)

-- the output with the bytes from the position on, and as it was where they do not fit
abbrev pub put_at : List ℕ → ℕ → List ℕ → List ℕ
put_at out at bytes = cond (fits_at out at bytes) (take at out ++ (bytes ++ drop (at + length bytes) out)) out
