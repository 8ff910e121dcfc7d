use Rattle.std.proofs.Common.{Bool, true, false, not, ◌≤◌, sym, ◌∙◌, arith}
use Rattle.std.specs.Int.{from_bool}
use Rattle.map_layout.proofs.Calling.{loop_keys, two_keys}
use Rattle.graphmap.specs.States.{state}
use Rattle.graphmap.proofs.tables.Tables.new_keys.Goals as goal

pub returns-then-eq : goal.returns-then-eq
returns-then-eq g c = loop_keys (state c.args.self.now) c.args.ends.source c.args.ends.target _ _ (sym c.eq.ensures ∙ c.if-eq.true) c.contains.ensures c.from-sources.ensures

at_most_one : (b : Bool) → from_bool b ≤ 1
at_most_one true = omega arith
at_most_one false = omega arith

pub overflow_add-result : goal.overflow_add-result
overflow_add-result g c = omega (arith, at_most_one (not c.contains.result), at_most_one (not c.contains-2.result), c.from-sources.ensures, c.from.ensures)

pub returns : goal.returns
returns g c =
    two_keys (state c.args.self.now) c.args.ends.source c.args.ends.target _ _ _ _ (sym c.eq.ensures ∙ c.if-eq.false) c.contains.ensures c.contains-2.ensures c.from-sources.ensures c.from.ensures
