-- The untaken nodes filed by class.
use Rattle.std.specs.Prelude.{◌≡◌, ℕ, ◌*◌, ◌<◌, ◌≤◌, true, List, length, Some, None, Option, nat_eq, slice_index, slice_index_or}
use Rattle.linked_list.specs.Places.{Position}
use Rattle.linked_list.specs.Places.{is_in, at}
use Rattle.linked_list.specs.Chains.{Holds}
use Rattle.network.specs.Counting.{keep, has, without, EachOnce}
use Rattle.fas_layout.specs.Columns.{Columns, class_at}

-- the untaken nodes of the class c, the one that was moved last at the front
abbrev pub of_class : (ℕ → ℕ) → ℕ → List ℕ → List ℕ
of_class class c untaken = keep (λ y. nat_eq (class y) c) untaken

-- the list that begins at starts[c] is that of the untaken nodes of class c, and a taken node is in no list
pub record Filed (L : List Position) (class : ℕ → ℕ) (starts : List (Option ℕ)) (untaken : List ℕ) : Type 0 where
  pub each : (c : ℕ) → Holds L (slice_index_or starts c None) (of_class class c untaken)
  pub standing : (y : ℕ) → is_in (at L y) ≡ has untaken y
  pub once : EachOnce untaken

-- the untaken nodes are filed by the degrees that their entries hold, which are at most m
pub record Sorted (m : ℕ) (t : Columns) (starts : List (Option ℕ)) (untaken : List ℕ) : Type 0 where
  pub filed : Filed t.positions (class_at m t) starts untaken
  pub wide : 2 * m < length starts
  pub few : (y : ℕ) → has untaken y ≡ true → (slice_index t.out_degrees y ≤ m) × (slice_index t.in_degrees y ≤ m)

-- what is left once a class has given its front, if it has one
abbrev pub without_front : Option ℕ → List ℕ → List ℕ
without_front None untaken = untaken
without_front (Some x) untaken = without x untaken
