use Rattle.std.proofs.Common.{◌≡◌, ℕ, sym, subst, arith}
use Rattle.std.proofs.lemmas.Bool.{false≢true}
use Rattle.map_layout.specs.Layout.{numbered}
use Rattle.map_layout.specs.Edits.{Cut, number_at}
use Rattle.map_layout.proofs.Items.{value_none}
use Rattle.map_layout.proofs.Cutting.{filled}
use Rattle.map_layout.proofs.NodeRemoving.{oldest_linked, cuts, arc_counts}
use Rattle.map_model.proofs.Searching.{none_counts}
use Rattle.graphmap.specs.States.{state}
use Rattle.graphmap.proofs.tables.Tables.drop_oldest.Goals as goal

pub returns-in_default-neighbor_at : goal.returns-in_default-neighbor_at
returns-in_default-neighbor_at g c =
    let st = state c.args.self.now in
    record {
      fewer = λ q. absurd (false≢true q);
      gone = λ q _. absurd (false≢true q);
      ended = λ _ good.
          let o = sym c.in-Some.ensures in
          let f = filled st good.rep c.args.index.value c.in-Some.place (oldest_linked st c.args.index.value c.in-Some.place good.rep o) in
          let e = c.in_default-neighbor_at.ensures in
          let h = f.1 in
          absurd (let z : ◌≡◌ {A = ℕ} 0 1 = cc in omega arith);
    }

pub returns : goal.returns
returns g c =
    let st = state c.args.self.now in
    let cut = c.cut.ensures in
    let o = sym c.in-Some.ensures in
    let n = sym c.in-Some-neighbor_at.ensures in
    record {
      fewer = cut.fewer;
      gone = λ q good. subst (Cut c.args.index.value st) (sym (cut.gone q)) (cuts st good c.args.index c.in-Some.place c.in-Some-neighbor_at.neighbor o n);
      ended = λ q good.
          let a = arc_counts st good c.args.index c.in-Some.place c.in-Some-neighbor_at.neighbor o n in
          let k = number_at c.in-Some.place c.args.index c.in-Some-neighbor_at.neighbor.index in
          let z = none_counts (numbered k) st.arcs (value_none k st.arcs (cut.absent q)) in
          absurd (omega arith);
    }
