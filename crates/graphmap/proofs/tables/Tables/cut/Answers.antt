use Rattle.std.proofs.Common.{◌<◌, length, sym, refl, ap, subst}
use Rattle.keyed_table.specs.Chains.{room_of}
use Rattle.std.proofs.lemmas.Bool.{true≢false}
use Rattle.graphmap.specs.States.{state}
use Rattle.graphmap.proofs.Composing.{cuts_arc, cut_shorter}
use Rattle.graphmap.proofs.tables.Tables.cut.Goals as goal

pub returns : goal.returns
returns g c =
    let st = state c.args.self.now in
    let out = c.in-Some.ensures in
    let link = c.unlink_oldest.ensures in
    let give = c.give_place.ensures in
    let e = cuts_arc st c.args.link.node c.args.link.other c.args.link.place _ c.ends.ensures _ (state c.unlink_oldest.new.self) (state c.give_place.new.self) _ _
    out.listing (ap room_of out.size) refl link.state give.state in
    record {
      gone = λ _. e;
      fewer = λ _. subst (λ z. length z.arcs < length st.arcs) (sym e) (cut_shorter st c.args.link.node c.args.link.other c.args.link.place _ c.ends.ensures _ out.answer);
      absent = λ q. absurd (true≢false q);
    }
