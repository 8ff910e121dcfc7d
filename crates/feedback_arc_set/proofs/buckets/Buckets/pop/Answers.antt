use Rattle.std.proofs.Common.{sym, ◌∙◌}
use Rattle.fas_layout.proofs.Filing.{pop_filed}
use Rattle.feedback_arc_set.specs.Containers.{columns}
use Rattle.feedback_arc_set.specs.Listed.{starts}
use Rattle.feedback_arc_set.proofs.buckets.Buckets.pop.Goals as goal

pub returns-clause-popped : goal.returns-clause-popped
returns-clause-popped c = λ D us f.
    pop_filed (columns c.args.nodes.now).positions (columns c.remove.new.nodes).positions D (starts c.args.self.now) (starts c.remove.new.self) us c.args.class c.in_ok-start.field-0 c.new-popped.result.value
    (sym c.in_ok-start.was ∙ c.start.ensures) c.new-popped.ensures c.remove.ensures.filed f
