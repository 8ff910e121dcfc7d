-- What stands at the link places.
use Rattle.std.specs.Prelude.{ℕ, List, map, replicate, None, Option}
use Rattle.linked_list.specs.Places.{Position}
use Rattle.map_layout.specs.declared.records.IndexedKey.{IndexedKey}
use Rattle.graphmap.specs.declared.link_place.LinkPlace.{LinkPlace}

-- a place that holds nothing
abbrev pub blank_place : {N : Type 0} → LinkPlace N
blank_place = record { neighbor = None; position = None }

abbrev pub blank_places : {N : Type 0} → ℕ → List (LinkPlace N)
blank_places n = replicate n blank_place

abbrev pub neighbors : {N : Type 0} → List (LinkPlace N) → List (Option (IndexedKey N))
neighbors = map (λ p. p.neighbor)

abbrev pub positions_of : {N : Type 0} → List (LinkPlace N) → List Position
positions_of = map (λ p. p.position)
