-- The working entries of an ordering, read by column: what stands at y in a column belongs to the entry with number y.
use Rattle.std.specs.Prelude.{◌≡◌, ℕ, ◌+◌, ◌-◌, ◌*◌, cond, List, Option, ◌==◌, slice_index, slice_set}
use Rattle.linked_list.specs.Places.{Position}

pub record Columns : Type 0 where
  -- where each entry stands in the list of its class
  pub positions : List Position
  -- the degrees among the untaken nodes
  pub out_degrees : List ℕ
  pub in_degrees : List ℕ
  -- where the list of the out neighbours begins, and that of the in neighbours
  pub first_outs : List (Option ℕ)
  pub first_ins : List (Option ℕ)
  -- the place in the order, once taken
  pub places : List ℕ

-- the neighbour places, read by column: the neighbour's entry number, and where its list goes on
pub record Neighbours : Type 0 where
  pub nodes : List ℕ
  pub nexts : List (Option ℕ)

-- all but the positions and the degrees is the same
pub record SameLinks (a b : Columns) : Type 0 where
  pub outs : a.first_outs ≡ b.first_outs
  pub ins : a.first_ins ≡ b.first_ins
  pub placed : a.places ≡ b.places

-- all but the positions is the same
pub record SameButPositions (a b : Columns) : Type 0 where
  pub out_degrees : a.out_degrees ≡ b.out_degrees
  pub in_degrees : a.in_degrees ≡ b.in_degrees
  pub links : SameLinks a b

-- the class of a node with o arcs out and i arcs in, among m arcs: 0 for a sink, 2m for a source node, else its difference and m
abbrev pub class_of : ℕ → ℕ → ℕ → ℕ
class_of m o i = cond (o == 0) 0 (cond (i == 0) (2 * m) ((o + m) - i))

-- the class of the entry y by its stored degrees
abbrev pub class_at : ℕ → Columns → ℕ → ℕ
class_at m t y = class_of m (slice_index t.out_degrees y) (slice_index t.in_degrees y)

-- a is b with the place p written for the entry x
pub record PlaceWritten (a b : Columns) (x p : ℕ) : Type 0 where
  pub positions : a.positions ≡ b.positions
  pub out_degrees : a.out_degrees ≡ b.out_degrees
  pub in_degrees : a.in_degrees ≡ b.in_degrees
  pub first_outs : a.first_outs ≡ b.first_outs
  pub first_ins : a.first_ins ≡ b.first_ins
  pub places : a.places ≡ slice_set b.places x p
