use Rattle.std.proofs.Common.{length, sym, ap, subst, arith}
use mathlib.Core.Logic.{∥∥₁_map}
use Rattle.std.proofs.lemmas.List.{length-map}
use Rattle.map_layout.specs.Layout.{State}
use Rattle.map_layout.specs.Edits.{Good}
use Rattle.graphmap.specs.States.{state}
use Rattle.graphmap.proofs.Blanking.{emptied_good}
use Rattle.graphmap.proofs.graphmap.GraphMap.clear.Goals as goal

pub invariant_of-self : goal.invariant_of-self
invariant_of-self g c =
    let m = c.args.self.now in
    let st = state m.tables in
    let call = c.clear.ensures in
    let places = m.tables.links.slots.now in
    let e = ap (λ (z : State g.row.N.Denot g.row.E.Denot). z.arc_places) call.state in record {
      few = (let f = m.few in omega arith);
      good = ∥∥₁_map m.good (λ k. subst Good (sym call.state)
          (emptied_good g.row.N.Denot g.row.E.Denot st.node_places st.arc_places (length places) (let r = k.rep.roomy in let l = length-map places (λ p. p.position) in omega arith)));
    }
