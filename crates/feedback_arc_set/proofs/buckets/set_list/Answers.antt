use Rattle.std.proofs.Common.{ap, ◌∙◌}
use Rattle.std.proofs.lemmas.List.{map-set}
use Rattle.feedback_arc_set.specs.Nodes.{starts_of}
use Rattle.feedback_arc_set.proofs.buckets.set_list.Goals as goal

pub returns : goal.returns
returns c = ap starts_of c.put.ensures ∙ map-set (λ p. p.list.start) c.args.places.now c.args.class _
