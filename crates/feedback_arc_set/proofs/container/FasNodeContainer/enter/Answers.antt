use Rattle.std.proofs.Common.{◌<◌, length, sym, refl, ap, ◌∙◌, subst, arith}
use Rattle.keyed_table.specs.Listing.{inserted}
use Rattle.keyed_table.specs.Tables.{listing, room}
use Rattle.feedback_arc_set.specs.Containers.{Met}
use Rattle.feedback_arc_set.proofs.Finding.{met_again, met_first, met_few, found_none, inserted_new}
use Rattle.feedback_arc_set.proofs.container.FasNodeContainer.enter.Goals as goal

pub returns-in-Some-clause-met : goal.returns-in-Some-clause-met
returns-in-Some-clause-met c = (subst (Met c.args.self.now c.args.self.now c.args.key.value) (sym c.new.ensures) (met_again c.args.self.now c.args.key.value c.in-Some.i c.in-Some.ensures), λ h. h)

pub returns-then-next-most-clause-met : goal.returns-then-next-most-clause-met
returns-then-next-most-clause-met c =
    let f = met_few c.args.self.now c.args.key.value c.in_default.ensures in
    let n = c.len-next.ensures.count in
    omega arith

pub returns-clause-met : goal.returns-clause-met
returns-clause-met c =
    let a = c.args.self.now in
    let l = listing c.args.self.now.table in
    let none = c.in_default.ensures in
    let n = c.len-next.ensures.count in
    let fit : length (listing c.args.self.now.table) < room c.args.self.now.table = let q = c.if-next-most.false in omega arith in
    let e = c.insert.ensures.listing ∙ ap (λ v. inserted (room c.args.self.now.table) c.args.key.value c.args.key v (listing c.args.self.now.table)) c.blank.ensures
    ∙ inserted_new (room c.args.self.now.table) c.args.key.value c.args.key _ l (found_none c.args.key.value l none).1 fit in
    let m = met_first a _ c.args.key c.args.key.value c.len-next.result refl none e n in
    let f = met_few a c.args.key.value none in
    (subst (Met c.args.self.now _ c.args.key.value) (sym c.new-2.ensures) m, λ h. let g = ap length m.met in let q = c.if-next-most.false in omega arith)
