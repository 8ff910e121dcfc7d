use Rattle.std.proofs.Common.{◌==◌, ap, ◌∙◌, drop}
use Rattle.std.specs.Option.{option_and_then}
use Rattle.graphmap.specs.Cursors.{nodes_left}
use Rattle.graphmap.specs.Maps.{map_model}
use Rattle.map_model.specs.Shown.{nodes_shown}
use Rattle.edit_records.specs.Reading.{left_by}
use Rattle.edit_records.specs.Showing.{after_list, after_node}
use Rattle.edit_records.proofs.Rounds.{begun, ended, left_by_if}
use Rattle.edit_records.proofs.map.after_nodes.Goals as goal

pub returns : goal.returns
returns g c =
    let m = map_model c.args.map.map.now in
    let items = c.nodes-node-items.result in
    let all = ap nodes_left c.into_iter-node-iterator.ensures.into_iter_gives ∙ ap (λ p. drop p (nodes_shown (map_model items.map.now))) c.nodes-node-items.ensures.1 ∙ ap (λ g. nodes_shown (map_model g)) c.nodes-node-items.ensures.0 in
    let whole = begun (after_node m) (nodes_shown m) (nodes_left c.into_iter-node-iterator.result) c.in_ok-count.count (g.W.RecordWords.words c.in_ok-after_heading.field-0) (g.W.RecordWords.words c.in_ok-count.rest) c.in_ok-count.ensures all in
    ap (left_by g.W.RecordWords.words) c.then_some.ensures ∙ left_by_if g.W.RecordWords.words (c.loop-node.count == 0) c.loop-node.rest
    ∙ ended (after_node m) c.loop-node.count (nodes_left c.loop-node.node-iterator) (g.W.RecordWords.words c.loop-node.rest) _ c.in-None.ensures.steps.first.0
    (c.loop-node.invariant ∙ whole ∙ ap (option_and_then (after_list (after_node m) (nodes_shown m))) c.in_ok-after_heading.ensures)
