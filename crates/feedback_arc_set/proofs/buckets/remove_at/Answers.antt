use Rattle.fas_layout.proofs.Filing.{remove_filed}
use Rattle.feedback_arc_set.specs.Containers.{columns}
use Rattle.feedback_arc_set.specs.Nodes.{starts_of}
use Rattle.feedback_arc_set.proofs.buckets.remove_at.Goals as goal

pub returns-clause-filed : goal.returns-clause-filed
returns-clause-filed c =
    let p = c.remove.ensures in
    λ D us d m f.
    remove_filed (columns c.args.nodes.now).positions (columns c.remove.new.entries).positions D (starts_of c.args.places.now) (starts_of c.set_list.new.places) us c.args.class c.args.ix.value c.get.result c.list_at-rest.result.start c.remove.new.self.start c.remove.result
    c.list_at-rest.ensures c.get.ensures c.set_list.ensures p.granted p.listed p.others p.freed p.status d m f
