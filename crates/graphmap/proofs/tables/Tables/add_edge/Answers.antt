use Rattle.std.proofs.Common.{◌≡◌, ℕ, Some, Ok, ap, ◌∙◌, arith}
use Rattle.keyed_table.specs.Chains.{room_of}
use Rattle.keyed_table.specs.Listing.{value_at}
use Rattle.map_layout.specs.Edits.{ends_number, arc_weighed, reweighed}
use Rattle.graphmap.specs.States.{state}
use Rattle.graphmap.proofs.Composing.{puts_arc}
use Rattle.graphmap.proofs.tables.Tables.add_edge.Goals as goal

pub returns : goal.returns
returns g c =
    let ends = c.args.ends in
    let put = c.insert.ensures in
    let st = state c.args.self.now in
    record {
      done =
          let e = c.in-Some.ensures ∙ ap (λ z. value_at (ends_number z.source z.target) st.arcs) c.indices-arc.ensures in
          let s = puts_arc st ends.source.index ends.target.index c.indices-arc.result (reweighed c.args.weight c.in-Some.old) _ _ c.indices-arc.ensures put.listing (ap room_of put.size) in
          record {
            there = λ old f. let q : c.in-Some.old ≡ old = cc in (ap (λ o. Ok (Some o.weight)) q, s ∙ ap (λ o. arc_weighed ends.source.index ends.target.index c.args.weight o st) q);
            absent = λ f. absurd (let z : ◌≡◌ {A = ℕ} 0 1 = cc in omega arith);
          };
    }
