use Rattle.fas_layout.proofs.Filing.{push_filed}
use Rattle.feedback_arc_set.specs.Containers.{columns}
use Rattle.feedback_arc_set.specs.Nodes.{starts_of}
use Rattle.feedback_arc_set.proofs.buckets.push_at.Goals as goal

pub returns-clause-filed : goal.returns-clause-filed
returns-clause-filed c =
    let p = c.push_front.ensures in
    λ D us d n inside wide f.
    push_filed (columns c.args.nodes.now).positions (columns c.push_front.new.entries).positions D (starts_of c.args.places.now) (starts_of c.set_list.new.places) us c.args.class c.args.ix.value c.get.result c.list_at-list.result.start c.push_front.new.self.start c.push_front.result
    c.list_at-list.ensures c.get.ensures c.set_list.ensures p.granted p.listed p.others p.status d n inside wide f
