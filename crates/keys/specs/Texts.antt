-- How keys are printed.
use Rattle.std.specs.Prelude.{ℕ, List, ◌∷◌, ◌++◌}
use Rattle.std.specs.Fmt.{decimal}

-- a lane address: junction/arm/lane
abbrev pub lane_text : ℕ → ℕ → ℕ → List ℕ
lane_text junction arm lane = decimal junction ++ (47 ∷ (decimal arm ++ (47 ∷ decimal lane)))

-- a lane record: lanes,turning share
abbrev pub record_text : ℕ → ℕ → List ℕ
record_text lanes share = decimal lanes ++ (44 ∷ decimal share)
