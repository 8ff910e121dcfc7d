-- What an ordering holds, when it refuses a source, and what each of its calls leaves.
use Rattle.std.specs.Prelude.{◌≡◌, ℕ, ◌+◌, ◌*◌, cond, ◌||◌, List, [], length, drop, replicate, Some, None, Ok, Err, Option, Result, nat_lt}
use Rattle.fault.specs.declared.Fault.{Fault}
use Rattle.fault.specs.declared.Fault.TheVariants.{SourceTooLarge, WorkTablesShort}
use Rattle.keys.specs.declared.node_index.NodeIndex.{NodeIndex}
use Rattle.keyed_table.specs.Chains.{blank_slot}
use Rattle.network.specs.Counting.{has}
use Rattle.network.specs.Network.{Link, touched}
use Rattle.network.specs.Places.{place}
use Rattle.greedy_order.specs.Part3Order.{greedy_order}
use Rattle.feedback_arc_set.specs.declared.tables.WorkTables.{WorkTables}
use Rattle.feedback_arc_set.specs.declared.ordering.Ordering.{Ordering}
use Rattle.feedback_arc_set.specs.Nodes.{blank_neighbour, blank_class}
use Rattle.feedback_arc_set.specs.Orders.{entry_places, neighbour_places, class_places, order_places, order_in, node_places}

-- the order that an ordering holds: the indices of its nodes
abbrev pub order_of : Ordering → List ℕ
order_of o = order_in (order_places o.tables) o.touched

-- the place of a node that an order lists
abbrev pub place_in : List ℕ → ℕ → Option ℕ
place_in order x = cond (has order x) (Some (place order x)) None

-- the index of a node, if there is one
abbrev pub index_of : Option NodeIndex → Option ℕ
index_of None = None
index_of (Some k) = Some k.value

-- what becomes of a network that is to be ordered: it has over 16,384 arcs; there are fewer neighbour places than two for each arc, or fewer class places than one more; its touched nodes outnumber the places for nodes; or it is ordered
pub data Verdict : Type 0 where
  too_large : Verdict
  unfit : Verdict
  crowded : Verdict
  fit : Verdict

abbrev pub verdict : List Link → WorkTables → Verdict
verdict network t =
    cond (nat_lt 16384 (length network)) too_large
    (cond (nat_lt (length (neighbour_places t)) (2 * length network) || nat_lt (length (class_places t)) (2 * length network + 1)) unfit
    (cond (nat_lt (node_places t) (length (touched network))) crowded fit))

-- the answer: the number of touched nodes, or the refusal
abbrev pub answer : Verdict → List Link → Result ℕ Fault
answer too_large network = Err SourceTooLarge
answer unfit network = Err WorkTablesShort
answer crowded network = Err WorkTablesShort
answer fit network = Ok (length (touched network))

-- neighbour and class places are as many as before, and blank
pub record Blank (a b : WorkTables) : Type 0 where
  pub neighbours : neighbour_places b ≡ replicate (length (neighbour_places a)) blank_neighbour
  pub classes : class_places b ≡ replicate (length (class_places a)) blank_class

-- no node is found: every entry, neighbour and class place is blank, and the order places are as they were
pub record HoldsNone (a b : Ordering) : Type 0 where
  pub nodes : order_of b ≡ []
  pub entries : entry_places b.tables ≡ replicate (length (entry_places a.tables)) blank_slot
  pub blank : Blank a.tables b.tables
  pub order : order_places b.tables ≡ order_places a.tables

-- the greedy order of the network is held, in front of what the order places held behind it
pub record HoldsOrder (network : List Link) (a b : Ordering) : Type 0 where
  pub nodes : order_of b ≡ greedy_order network
  pub rest : drop (length (touched network)) (order_places b.tables) ≡ drop (length (touched network)) (order_places a.tables)
  pub long : length (order_places b.tables) ≡ length (order_places a.tables)
  pub entries : length (entry_places b.tables) ≡ length (entry_places a.tables)
  pub blank : Blank a.tables b.tables

-- the ordering b after the call, by the verdict, from the ordering a before it
abbrev pub Leaves : Verdict → List Link → Ordering → Ordering → Type 0
Leaves too_large network a b = b ≡ a
Leaves unfit network a b = b ≡ a
Leaves crowded network a b = HoldsNone a b
Leaves fit network a b = HoldsOrder network a b
