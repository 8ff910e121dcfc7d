use Rattle.std.proofs.Common.{sym, ap, ◌∙◌, arith, rules, tests}
use Rattle.std.specs.Option.{option_map}
use Rattle.keyed_table.specs.Tables.{listing}
use Rattle.keyed_table.proofs.Calls.{count}
use Rattle.map_layout.specs.Layout.{arc_in}
use Rattle.map_model.specs.Shown.{triple}
use Rattle.graphmap.specs.States.{state}
use Rattle.graphmap.proofs.Reading.{mapped, nth_map_twice, position_fits}
use Rattle.graphmap.proofs.tables.Tables.edge_shown.Goals as goal

pub returns : goal.returns
returns g c =
    let st = state c.args.self.now in
    let t = c.args.self.now.arcs in
    let shown = λ (x : _). triple (arc_in x) in
    let e = mapped shown c.at.result c.map.result c.map.ensures.cases (λ x y q. search (rules, tests)) ∙ ap (option_map shown) c.at.ensures in
    record {
      within = let n = count t in let k = t.kept.0 in position_fits shown (listing t) c.args.i c.map.result e (omega arith);
      answer = e ∙ sym (nth_map_twice triple arc_in st.arcs c.args.i);
    }
