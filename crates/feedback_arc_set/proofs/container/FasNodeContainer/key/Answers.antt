use Rattle.std.proofs.Common.{◌≡◌, MatchOption, get_or, rules, ap, ◌∙◌, subst}
use Rattle.std.specs.List.{slice_get}
use Rattle.keyed_table.specs.Tables.{listing}
use Rattle.feedback_arc_set.specs.Containers.{keys_of}
use Rattle.feedback_arc_set.specs.Nodes.{blank_key}
use Rattle.feedback_arc_set.proofs.Reading.{index_alike, read_or}
use Rattle.feedback_arc_set.proofs.container.FasNodeContainer.key.Goals as goal

pub returns : goal.returns
returns c =
    let told : MatchOption c.at.result (c.map_or.result ≡ c.new.result) (λ x. c.map_or.result ≡ x.key) = search rules in
    read_or (λ x. x.key) c.new.result (listing c.args.self.now.table) c.args.ix.value c.map_or.result
    (subst (λ o. MatchOption o (c.map_or.result ≡ c.new.result) (λ x. c.map_or.result ≡ x.key)) (c.at.ensures ∙ ap (slice_get (listing c.args.self.now.table)) c.get.ensures) told)
    ∙ ap (get_or (keys_of c.args.self.now) c.args.ix.value) (index_alike c.new.result blank_key c.new.ensures)
