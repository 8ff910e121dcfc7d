use Rattle.std.proofs.Common.{sym, ap, subst, arith}
use Rattle.map_layout.specs.Layout.{State}
use Rattle.map_layout.specs.Edits.{Good}
use Rattle.graphmap.proofs.Blanking.{emptied_good}
use Rattle.graphmap.proofs.graphmap.GraphMap.new.Goals as goal

pub invariant_of-result : goal.invariant_of-result
invariant_of-result g c =
    let call = c.new.ensures in
    let e = ap (λ (z : State g.row.N.Denot g.row.E.Denot). z.arc_places) call.state in record { few = omega arith; good = ∣ subst Good (sym call.state) (emptied_good g.row.N.Denot g.row.E.Denot 0 0 0 (omega arith)) ∣₁ }
