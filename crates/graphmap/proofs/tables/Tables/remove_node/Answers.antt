use Rattle.std.proofs.Common.{◌≡◌, Bool, sym, ap, ◌∙◌, subst}
use Rattle.keyed_table.specs.Chains.{room_of}
use Rattle.map_layout.specs.Layout.{Rep, model}
use Rattle.map_layout.specs.Edits.{Good, node_gone}
use Rattle.map_layout.proofs.Calling.{has_key}
use Rattle.map_layout.proofs.NodeRemoving.{cut_none, cut_more, gone_rep, all_cut, removed_there, removed_absent}
use Rattle.map_model.specs.Model.{Model}
use Rattle.graphmap.specs.States.{state}
use Rattle.graphmap.proofs.Composing.{with_places}
use Rattle.graphmap.proofs.tables.Tables.remove_node.Goals as goal

pub loop-init : goal.loop-init
loop-init g c = λ good. cut_none c.args.index.value (state c.args.self.now) good

pub loop-preserved : goal.loop-preserved
loop-preserved g c =
    let i = c.args.index.value in
    let st1 = state c.loop.self in
    λ good. let k = c.loop.invariant good in cut_more i (state c.args.self.now) st1 (state c.drop_oldest.new.self) k (c.drop_oldest.ensures.gone c.loop-test.true k.good)

pub returns-then-not-contains : goal.returns-then-not-contains
returns-then-not-contains g c =
    let st = state c.args.self.now in
    let h = sym (has_key st c.args.index) ∙ sym c.contains.ensures ∙ c.if-not-contains.true in
    let e = removed_absent (model st) c.args.index.value h in
    record {
      answer = sym (ap (λ (p : Bool × Model g.row.N.Denot g.row.E.Denot). p.0) e);
      rep = λ good. good.rep;
      shown = λ good. sym (ap (λ (p : Bool × Model g.row.N.Denot g.row.E.Denot). p.1) e);
    }

pub returns : goal.returns
returns g c =
    let st = state c.args.self.now in
    let i = c.args.index in
    let st1 = state c.loop.self in
    let st2 = state c.drop_oldest.new.self in
    let out = c.swap_remove.ensures in
    let h = sym (has_key st i) ∙ sym c.contains.ensures ∙ c.if-not-contains.false in
    let l = out.listing in
    let r = ap room_of out.size in
    let gone : (k : Good st1) → with_places st2 _ st2.neighbors st2.positions _ ≡ node_gone i st1 =
    λ k. (λ x. with_places st2 (l x) st2.neighbors st2.positions (r x)) ∙ ap (node_gone i) (c.drop_oldest.ensures.ended c.loop-test.false k).0 in
    record {
      answer = sym (removed_there (model st) i.value h);
      rep = λ good. let k = c.loop.invariant good in
          subst Rep (sym (gone k.good)) (gone_rep st1 k.good i (c.drop_oldest.ensures.ended c.loop-test.false k.good).1);
      shown = λ good. let k = c.loop.invariant good in
          ap model (gone k.good) ∙ all_cut st st1 i h k (c.drop_oldest.ensures.ended c.loop-test.false k.good).1;
    }
