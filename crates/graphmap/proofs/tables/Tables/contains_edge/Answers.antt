use Rattle.std.proofs.Common.{◌∙◌}
use Rattle.map_layout.proofs.Calling.{has_arc}
use Rattle.graphmap.specs.States.{state}
use Rattle.graphmap.proofs.tables.Tables.contains_edge.Goals as goal

pub returns : goal.returns
returns g c = c.contains.ensures ∙ has_arc (state c.args.self.now) c.args.ends.source c.args.ends.target
