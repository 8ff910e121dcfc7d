use Rattle.std.proofs.Common.{refl}
use Rattle.feedback_arc_set.proofs.Reading.{field_kept, field_written}
use Rattle.feedback_arc_set.proofs.neighbours.set_next.Goals as goal

pub returns-then-i-places-clause-leads : goal.returns-then-i-places-clause-leads
returns-then-i-places-clause-leads c = record {
  nodes = field_kept (λ q. q.node.value) c.args.places.now c.args.p c.index-places-i.result _ refl;
  nexts = field_written (λ q. q.next) c.args.places.now c.args.p _ c.args.next refl;
}
