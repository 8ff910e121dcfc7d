use Rattle.std.proofs.Common.{◌∙◌}
use mathlib.Core.Logic.{∥∥₁_elim}
use base.Stored.{Coded-set}
use Rattle.keyed_table.specs.Tables.{listing}
use Rattle.feedback_arc_set.specs.Verdicts.{order_of}
use Rattle.feedback_arc_set.proofs.ordering.Ordering.place.Goals as goal
use Rattle.feedback_arc_set.proofs.Codes.{coded_option}
use Rattle.feedback_arc_set.proofs.Standing.{place_found}

pub returns : goal.returns
returns c =
    let o = c.args.self.now in
    c.entry_place.ensures ∙ ∥∥₁_elim o.placed (Coded-set coded_option _ _) (place_found c.args.node.value (listing o.tables.nodes.table) (order_of o))
