-- The numbers that keys mean.
use Rattle.std.specs.Prelude.{ℕ, ◌+◌, ◌*◌, ◌/◌, ◌%◌, ◌^◌, Bool, ◌&&◌, nat_lt}

-- whether a lane address may have these fields
abbrev pub lane_in_range : ℕ → ℕ → ℕ → Bool
lane_in_range junction arm lane = nat_lt junction (2 ^ 24) && nat_lt arm 16 && nat_lt lane 16

-- the index of a lane address
abbrev pub lane_index : ℕ → ℕ → ℕ → ℕ
lane_index junction arm lane = junction * 256 + arm * 16 + lane

-- the number of a pair of node keys with these indices
abbrev pub pair_number : ℕ → ℕ → ℕ
pair_number source target = source * 2 ^ 32 + target

-- a number spread over 32 bits: the high half of its product, modulo 2 ^ 64, with an odd constant near 2 ^ 64 over the golden ratio
abbrev pub mixed : ℕ → ℕ
mixed number = number * 11400714819323198485 % 2 ^ 64 / 2 ^ 32
