use Rattle.std.proofs.Common.{sym, ap, ◌∙◌, arith, rules, tests}
use Rattle.std.specs.Option.{option_map}
use Rattle.keyed_table.specs.Tables.{listing}
use Rattle.keyed_table.proofs.Calls.{count}
use Rattle.map_layout.specs.Layout.{node_of}
use Rattle.graphmap.specs.States.{state}
use Rattle.graphmap.proofs.Reading.{mapped, nth_map_twice, shown_key, position_fits}
use Rattle.graphmap.proofs.tables.Tables.node_shown.Goals as goal

pub returns : goal.returns
returns g c =
    let st = state c.args.self.now in
    let t = c.args.self.now.nodes in
    let shown = λ (x : _). shown_key (node_of st.neighbors st.positions x) in
    let e = mapped shown c.at.result c.map.result c.map.ensures.cases (λ x y q. search (rules, tests)) ∙ ap (option_map shown) c.at.ensures in
    record {
      within = let n = count t in let k = t.kept.0 in position_fits shown (listing t) c.args.i c.map.result e (omega arith);
      answer = e ∙ sym (nth_map_twice shown_key (node_of st.neighbors st.positions) st.nodes c.args.i);
    }
