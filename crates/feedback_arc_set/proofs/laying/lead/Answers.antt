use Rattle.std.proofs.Common.{set, ap, ◌∙◌}
use Rattle.feedback_arc_set.specs.Containers.{nodes_of}
use Rattle.feedback_arc_set.proofs.Reading.{led_columns}
use Rattle.feedback_arc_set.proofs.laying.lead.Goals as goal

pub returns-clause-led : goal.returns-clause-led
returns-clause-led c = led_columns c.args.direction (nodes_of c.args.nodes.now) (nodes_of c.set_node.new.self) c.args.ix.value c.args.p c.node-node.result c.node-node.ensures
    (c.set_node.ensures.written ∙ ap (set (nodes_of c.args.nodes.now) c.args.ix.value) c.led.ensures)
