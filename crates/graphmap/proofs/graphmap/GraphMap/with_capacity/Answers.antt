use Rattle.std.proofs.Common.{length, sym, ap, ◌∙◌, subst, arith}
use Rattle.keyed_table.specs.Chains.{room_of}
use Rattle.std.proofs.lemmas.Bool.{both_ways, cond-true}
use Rattle.map_layout.specs.Layout.{State, model}
use Rattle.map_layout.specs.Edits.{Good}
use Rattle.map_model.specs.Model.{built}
use Rattle.graphmap.specs.Capacity.{places_fit, capacity_answer}
use Rattle.graphmap.proofs.Blanking.{emptied_good, fits, room_is}
use Rattle.graphmap.proofs.graphmap.GraphMap.with_capacity.Goals as goal

pub invariant_of-self : goal.invariant_of-self
invariant_of-self g c =
    let p = c.args.places.now in
    let call = c.new-self.ensures in
    let f = fits (length p.nodes.now) (length p.arcs.now) (length p.links.now) (sym c.fit.ensures ∙ c.if-not-fit.false) in
    let n = ap (λ r. length r.now) c.take-nodes.ensures.value in
    let a = ap (λ r. length r.now) c.take-arcs.ensures.value in
    let l = ap (λ r. length r.now) c.take-links.ensures.value in
    let e = ap (λ (z : State g.row.N.Denot g.row.E.Denot). z.arc_places) call.state in
    let ra = ap room_of a ∙ room_is (length p.arcs.now) f.arcs in record { few = (let x = f.arcs in omega arith); good = ∣ subst Good (sym call.state) (emptied_good g.row.N.Denot g.row.E.Denot _ _ _ (let y = f.links in omega arith)) ∣₁ }

pub returns : goal.returns
returns g c =
    let p = c.args.places.now in
    let call = c.new-self.ensures in
    let t = sym c.fit.ensures ∙ c.if-not-fit.false in
    let f = fits (length p.nodes.now) (length p.arcs.now) (length p.links.now) t in
    let n = ap (λ r. room_of (length r.now)) c.take-nodes.ensures.value ∙ room_is (length p.nodes.now) (let x = f.nodes in omega arith) in
    let a = ap (λ r. room_of (length r.now)) c.take-arcs.ensures.value ∙ room_is (length p.arcs.now) f.arcs in
    record {
      answer = sym (ap capacity_answer t);
      shown = ap model call.state ∙ (λ x. built (n x) (a x)) ∙ sym (cond-true (places_fit p) _ _ t);
      refused = λ h. absurd (both_ways (places_fit p) h t);
      taken = λ _. (c.take-nodes.ensures.after, c.take-arcs.ensures.after, c.take-links.ensures.after);
    }
