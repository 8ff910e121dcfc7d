-- The places that a map can have.
use Rattle.std.specs.Prelude.{ℕ, ◌*◌, Bool, true, false, ◌&&◌, length, Ok, Err, Result, nat_le}
use Rattle.fault.specs.declared.Fault.{Fault}
use Rattle.fault.specs.declared.Fault.TheVariants.{TablesUnfit}
use Rattle.graphmap.specs.declared.lent.Places.{Places}

-- at most 4,096 node places, at most 16,384 arc places, and twice as many link places
abbrev pub counts_fit : ℕ → ℕ → ℕ → Bool
counts_fit nodes arcs links = nat_le nodes 4096 && (nat_le arcs 16384 && nat_le (2 * arcs) links)

abbrev pub places_fit : {N E : Type 0} → Places N E → Bool
places_fit p = counts_fit (length p.nodes.now) (length p.arcs.now) (length p.links.now)

abbrev pub capacity_answer : Bool → Result (Unit {0}) Fault
capacity_answer true = Ok tt
capacity_answer false = Err TablesUnfit
