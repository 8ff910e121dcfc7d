use Rattle.std.proofs.Common.{◌≡◌, false, leb, MatchOption, ap, ◌∙◌, subst, rules}
use Rattle.std.specs.Option.{option_zip}
use Rattle.feedback_arc_set.specs.Verdicts.{order_of, place_in}
use Rattle.feedback_arc_set.proofs.Standing.{told_held}
use Rattle.feedback_arc_set.proofs.ordering.Ordering.holds.Goals as goal

pub returns : goal.returns
returns g c =
    let order = order_of c.args.self.now in
    let told : MatchOption c.zip.result (c.is_some_and.result ≡ false) (λ v. c.is_some_and.result ≡ leb v.1 v.0) = search rules in
    let from = c.place.ensures ∙ ap (place_in (order_of c.args.self.now)) c.node_index.ensures in
    let to = c.place-2.ensures ∙ ap (place_in (order_of c.args.self.now)) c.node_index-2.ensures in
    told_held order (g.N.NodeKey.index c.args.arc.now.source) (g.N.NodeKey.index c.args.arc.now.target) c.is_some_and.result
    (subst (λ z. MatchOption z (c.is_some_and.result ≡ false) (λ v. c.is_some_and.result ≡ leb v.1 v.0)) (c.zip.ensures ∙ (λ i. option_zip (from i) (to i))) told)
