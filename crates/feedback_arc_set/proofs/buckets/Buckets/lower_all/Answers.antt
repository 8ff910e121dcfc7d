use Rattle.std.proofs.Common.{subst}
use Rattle.fas_layout.specs.Following.{LostOne}
use Rattle.fas_layout.proofs.Followed.{walked_more, walked_all}
use Rattle.feedback_arc_set.specs.Containers.{columns}
use Rattle.feedback_arc_set.specs.Listed.{starts}
use Rattle.feedback_arc_set.specs.Nodes.{neighbours_of}
use Rattle.feedback_arc_set.proofs.Reading.{same_names, same_sizes}
use Rattle.feedback_arc_set.proofs.buckets.Buckets.lower_all.Goals as goal

pub loop-at-preserved : goal.loop-at-preserved
loop-at-preserved c =
    let inv = c.loop-at.invariant in
    let e = c.lower.ensures in (
      walked_more c.args.direction c.args.self.now.arcs (neighbours_of c.args.neighbours.now) (columns c.args.nodes.now) (columns c.loop-at.nodes) (columns c.lower.new.nodes)
          (starts c.args.self.now) (starts c.loop-at.self) (starts c.lower.new.self) c.args.from c.loop-at.at c.next_at-at.result c.in-Some.p c.node_at.result.value
          c.in-Some.is c.node_at.ensures c.next_at-at.ensures
          (subst (λ m. LostOne c.args.direction m (columns c.loop-at.nodes) (starts c.loop-at.self) (columns c.lower.new.nodes) (starts c.lower.new.self) c.node_at.result.value) inv.2.arcs e.lost)
          inv.0,
      same_names c.lower.new.nodes c.loop-at.nodes c.args.nodes.now e.names inv.1,
      same_sizes c.lower.new.self c.loop-at.self c.args.self.now e.sizes inv.2,
    )

pub returns-clause-lost : goal.returns-clause-lost
returns-clause-lost c = walked_all c.args.direction c.args.self.now.arcs (neighbours_of c.args.neighbours.now) (columns c.args.nodes.now) (columns c.loop-at.nodes) (starts c.args.self.now) (starts c.loop-at.self) c.args.from c.loop-at.at c.in_default.is c.loop-at.invariant.0
