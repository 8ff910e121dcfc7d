use Rattle.std.proofs.Common.{sym, ap, ◌∙◌, rules, tests}
use Rattle.std.specs.Result.{is_ok}
use Rattle.fault.specs.declared.Fault.TheVariants.{NodesFull}
use Rattle.keyed_table.specs.Chains.{room_of}
use Rattle.keyed_table.specs.Listing.{inserted}
use Rattle.map_layout.proofs.Calling.{has_room, absent_at, answer_there, answer_new, entered_there, entered_new}
use Rattle.graphmap.proofs.Reading.{mapped_both}
use Rattle.graphmap.specs.States.{state}
use Rattle.graphmap.proofs.Composing.{with_places}
use Rattle.graphmap.proofs.tables.Tables.add_node.Goals as goal

pub returns-then-contains : goal.returns-then-contains
returns-then-contains g c =
    let st = state c.args.self.now in
    let e = sym c.contains.ensures ∙ c.if-contains.true in
    record { answer = answer_there st c.args.node.key c.args.node.index e; state = entered_there st c.args.node.key c.args.node.index e }

pub returns : goal.returns
returns g c =
    let st = state c.args.self.now in
    let n = c.args.node in
    let absent = sym c.contains.ensures ∙ c.if-contains.false in
    let put = c.insert.ensures in
    record {
      answer =
          mapped_both n.key NodesFull c.insert.result c.map.result c.map_err.result c.map.ensures.cases (λ x y q. search (rules, tests)) c.map_err.ensures.cases (λ x y q. search (rules, tests))
          ∙ answer_new st n.key n.index (is_ok c.insert.result) absent (has_room st.node_places n.index.value st.nodes (absent_at st n.index absent) c.insert.result put.answer);
      state =
          let l = put.listing ∙ ap (λ r. inserted st.node_places n.index.value n.index r st.nodes) c.new.ensures in
          let r = ap room_of put.size in
          (λ x. with_places st (l x) st.neighbors st.positions (r x)) ∙ entered_new st n.key n.index absent;
    }
