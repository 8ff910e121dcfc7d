use Rattle.std.proofs.Common.{◌≡◌, ◌∷◌, sym, ap, ◌∙◌, subst, add-one, arith}
use Rattle.std.proofs.lemmas.List.{length-map}
use Rattle.std.proofs.lemmas.Bool.{le-ltb}
use Rattle.fas_layout.specs.Classes.{Filed}
use Rattle.fas_layout.specs.Columns.{class_at}
use Rattle.fas_layout.specs.Laying.{down}
use Rattle.fas_layout.proofs.Laid.{has_down}
use Rattle.fas_layout.proofs.Lowered.{same_but}
use Rattle.fas_layout.proofs.Taking.{same_classes}
use Rattle.feedback_arc_set.specs.Containers.{columns, nodes_of}
use Rattle.feedback_arc_set.specs.Listed.{starts}
use Rattle.feedback_arc_set.proofs.Reading.{unlisted_same, unlisted_names, same_names, names_long, same_sizes}
use Rattle.feedback_arc_set.proofs.laying.file_all.Goals as goal

pub loop-i-preserved : goal.loop-i-preserved
loop-i-preserved c =
    let inv = c.loop-i.invariant in
    let p = c.push_front.ensures in
    let m = c.args.buckets.now.arcs in
    let t0 = columns c.args.nodes.now in
    let y = c.loop-i.i in
    let x = c.new-ix.ensures in
    let n = names_long c.loop-i.nodes c.args.nodes.now inv.2 in
    let k = length-map (nodes_of c.loop-i.nodes) (λ v. v.position) in
    let s = inv.3.size in
    let e = c.len-i-end.ensures in
    let here : class_at c.args.buckets.now.arcs (columns c.args.nodes.now) c.new-ix.result.value ≡ c.suitable_bucket-class.result =
    sym (c.suitable_bucket-class.ensures ∙ ap (λ a. class_at a (columns c.loop-i.nodes) c.new-ix.result.value) inv.3.arcs
    ∙ sym (same_classes m t0 (columns c.loop-i.nodes) inv.1.out_degrees inv.1.in_degrees c.new-ix.result.value)) in (
      λ free none wide.
          let w = wide c.loop-i.i (omega arith) in
          let q : class_at c.args.buckets.now.arcs (columns c.args.nodes.now) c.new-ix.result.value ≡ class_at c.args.buckets.now.arcs (columns c.args.nodes.now) c.loop-i.i = ap (class_at c.args.buckets.now.arcs (columns c.args.nodes.now)) x in
          rw add-one (subst (λ v. Filed (columns c.push_front.new.nodes).positions (class_at c.args.buckets.now.arcs (columns c.args.nodes.now)) (starts c.push_front.new.self) (v ∷ down c.loop-i.i)) x
          (p.filed (class_at c.args.buckets.now.arcs (columns c.args.nodes.now)) (down c.loop-i.i) here
          (has_down c.loop-i.i c.new-ix.result.value ∙ le-ltb c.new-ix.result.value c.loop-i.i (omega arith)) (omega arith) (omega arith) (inv.0 free none wide))),
      same_but (columns c.push_front.new.nodes) (columns c.loop-i.nodes) t0 (unlisted_same c.push_front.new.nodes c.loop-i.nodes p.kept) inv.1,
      same_names c.push_front.new.nodes c.loop-i.nodes c.args.nodes.now (unlisted_names c.push_front.new.nodes c.loop-i.nodes p.kept) inv.2,
      same_sizes c.push_front.new.self c.loop-i.buckets c.args.buckets.now p.sizes inv.3,
    )
