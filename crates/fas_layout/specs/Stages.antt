-- The working tables beside the untaken nodes, from one taking to the next.
use Rattle.std.specs.Prelude.{◌≡◌, ℕ, ◌+◌, ◌*◌, ◌<◌, ◌≤◌, true, false, cond, ◌⊎◌, List, [], ◌++◌, map, length, take, drop, Some, None, Option, nat_lt, slice_index, slice_index_or}
use Rattle.linked_list.specs.Chains.{first}
use Rattle.network.specs.Counting.{has}
use Rattle.network.specs.Network.{Link}
use Rattle.greedy_order.specs.Part1Degrees.{out_degree, in_degree}
use Rattle.greedy_order.specs.Part2Greedy.{NoSink, NoSource}
use Rattle.greedy_order.specs.Part3Order.{out_neighbours, in_neighbours, after_taking}
use Rattle.greedy_order.specs.Part7Folded.{run}
use Rattle.fas_layout.specs.Columns.{Columns, Neighbours, class_of}
use Rattle.fas_layout.specs.Classes.{of_class, Sorted}
use Rattle.fas_layout.specs.Following.{Follows}

-- the class of y by its degrees among the untaken nodes
abbrev pub class_in : ℕ → List Link → List ℕ → ℕ → ℕ
class_in m arcs untaken y = class_of m (out_degree arcs untaken y) (in_degree arcs untaken y)

-- the tables stand for the untaken nodes: these are filed by class, their stored degrees are those of the arcs, and their neighbours are laid out
pub record Stands (m : ℕ) (arcs : List Link) (P : Neighbours) (t : Columns) (starts : List (Option ℕ)) (untaken : List ℕ) : Type 0 where
  pub sorted : Sorted m t starts untaken
  pub outs : (y : ℕ) → has untaken y ≡ true → slice_index t.out_degrees y ≡ out_degree arcs untaken y
  pub ins : (y : ℕ) → has untaken y ≡ true → slice_index t.in_degrees y ≡ in_degree arcs untaken y
  pub targets : (y : ℕ) → has untaken y ≡ true → Follows P 0 (slice_index_or t.first_outs y None) (out_neighbours arcs y)
  pub sources : (y : ℕ) → has untaken y ≡ true → Follows P 0 (slice_index_or t.first_ins y None) (in_neighbours arcs y)

abbrev pub after_taking_if : List Link → Option ℕ → List ℕ → List ℕ
after_taking_if arcs None untaken = untaken
after_taking_if arcs (Some x) untaken = after_taking arcs x untaken

-- the front of the class c, if there is one, is taken: the tables t and starts stand for what is left
pub record Took (m : ℕ) (arcs : List Link) (P : Neighbours) (t : Columns) (starts : List (Option ℕ)) (untaken : List ℕ) (c : ℕ) (taken : Option ℕ) : Type 0 where
  pub picks : taken ≡ first (of_class (class_in m arcs untaken) c untaken)
  pub leaves : Stands m arcs P t starts (after_taking_if arcs taken untaken)

-- the entry x has a place in the head half or in the tail half, and its key stands there
abbrev pub PlacedAt : {X : Type 0} → (ℕ → X) → List X → List ℕ → ℕ → ℕ → ℕ → Type 0
PlacedAt key order places front back x = ((slice_index places x < front) ⊎ (back ≤ slice_index places x)) × (slice_index places x < length places) × (slice_index_or order (slice_index places x) (key x) ≡ key x)

-- the order so far: the head half lies before front, the tail half from back on, and the untaken nodes will make up the rest
pub record Part {X : Type 0} (arcs : List Link) (key : ℕ → X) (goal : List X) (untaken places : List ℕ) (order : List X) (front back : ℕ) : Type 0 where
  pub long : front + length untaken ≡ back
  pub most : back ≤ length order
  pub whole : take front order ++ (map key (run arcs (length untaken) untaken) ++ drop back order) ≡ goal
  pub fits : back ≤ length places
  pub inside : (x : ℕ) → has untaken x ≡ true → x < length places
  pub placed : (x : ℕ) → x < length places → has untaken x ≡ false → PlacedAt key order places front back x

-- no node with arcs in and out has a class above top
abbrev pub Capped : ℕ → List Link → ℕ → List ℕ → Type 0
Capped m arcs top untaken = (y : ℕ) → has untaken y ≡ true → 1 ≤ out_degree arcs untaken y → 1 ≤ in_degree arcs untaken y → class_in m arcs untaken y ≤ top

-- a bound once a node with d arcs out is taken; no class lies above 2m
abbrev pub lifted : ℕ → ℕ → ℕ → ℕ
lifted m top d = cond (nat_lt top (2 * m)) (top + d) top

-- the tables and the order stand for some untaken nodes, of which Q holds
pub record Stage {X : Type 0} (m : ℕ) (arcs : List Link) (P : Neighbours) (key : ℕ → X) (goal : List X) (Q : List ℕ → Type 0) (t : Columns) (starts : List (Option ℕ)) (top : ℕ) (order : List X) (front back : ℕ) : Type 0 where
  pub untaken : List ℕ
  pub stands : Stands m arcs P t starts untaken
  pub part : Part arcs key goal untaken t.places order front back
  pub capped : Capped m arcs top untaken
  pub so : Q untaken

abbrev pub Any : List ℕ → Type 0
Any untaken = Unit {0}

abbrev pub Neither : List Link → List ℕ → Type 0
Neither arcs untaken = NoSink arcs untaken × NoSource arcs untaken

abbrev pub Nothing : List ℕ → Type 0
Nothing untaken = untaken ≡ []

-- what stands once every node is taken: the order places hold what was aimed at, every entry has the place where its key stands, and no class has a member
pub record Ordered {X : Type 0} (key : ℕ → X) (goal order : List X) (t : Columns) (starts : List (Option ℕ)) : Type 0 where
  pub order_is : order ≡ goal
  pub places : (x : ℕ) → x < length t.places → (slice_index t.places x < length t.places) × (slice_index_or order (slice_index t.places x) (key x) ≡ key x)
  pub empty : (c : ℕ) → slice_index_or starts c None ≡ None
