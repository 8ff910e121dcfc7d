-- How long tables are.
use Rattle.std.specs.Prelude.{ℕ, ◌+◌, ◌-◌, ◌*◌, ◌^◌, min}

-- two for each, as far as a size goes
abbrev pub twice : ℕ → ℕ
twice n = min (n * 2) (2 ^ 64 - 1)

-- one more than that, as far as a size goes
abbrev pub twice_and_one : ℕ → ℕ
twice_and_one n = min (twice n + 1) (2 ^ 64 - 1)
