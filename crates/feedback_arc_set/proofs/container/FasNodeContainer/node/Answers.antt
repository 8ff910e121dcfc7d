use Rattle.std.proofs.Common.{◌≡◌, MatchOption, get_or, rules, ap, ◌∙◌, subst}
use Rattle.std.specs.List.{slice_get}
use Rattle.keyed_table.specs.Tables.{listing}
use Rattle.feedback_arc_set.specs.Containers.{nodes_of}
use Rattle.feedback_arc_set.proofs.Reading.{read_or}
use Rattle.feedback_arc_set.proofs.container.FasNodeContainer.node.Goals as goal

pub returns : goal.returns
returns c =
    let told : MatchOption c.at.result (c.map_or.result ≡ c.blank.result) (λ x. c.map_or.result ≡ x.value) = search rules in
    read_or (λ x. x.value) c.blank.result (listing c.args.self.now.table) c.args.ix.value c.map_or.result
    (subst (λ o. MatchOption o (c.map_or.result ≡ c.blank.result) (λ x. c.map_or.result ≡ x.value)) (c.at.ensures ∙ ap (slice_get (listing c.args.self.now.table)) c.get.ensures) told)
    ∙ ap (get_or (nodes_of c.args.self.now) c.args.ix.value) c.blank.ensures
