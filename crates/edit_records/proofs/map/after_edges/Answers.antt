use Rattle.std.proofs.Common.{◌==◌, sym, ap, ◌∙◌, arith}
use Rattle.graphmap.specs.Cursors.{edges_left}
use Rattle.edit_records.specs.Reading.{left_by}
use Rattle.edit_records.specs.Showing.{after_edge}
use Rattle.edit_records.proofs.Rounds.{begun, ended, too_many, not_shown, left_by_if}
use Rattle.edit_records.proofs.map.after_edges.Goals as goal

pub loop-edge-init : goal.loop-edge-init
loop-edge-init g c = begun after_edge _ _ c.in_ok-count.count (g.W.RecordWords.words c.args.words) (g.W.RecordWords.words c.in_ok-count.rest) c.in_ok-count.ensures (ap edges_left c.into_iter-edge-iterator.ensures.into_iter_gives ∙ c.edges_directed-edge-items.ensures.all)

pub returns-in_err-count-2 : goal.returns-in_err-count-2
returns-in_err-count-2 g c =
    ap (left_by g.W.RecordWords.words) c.from_residual-in_err-count-2.ensures
    ∙ sym (too_many after_edge c.loop-edge.count c.in-Some.edge _ (edges_left c.loop-edge.edge-iterator) (g.W.RecordWords.words c.loop-edge.rest) _ (omega (arith, c.in_err-count-2.ensures)) c.in-Some.ensures.steps.first c.loop-edge.invariant)

pub returns-in_err-rest : goal.returns-in_err-rest
returns-in_err-rest g c =
    ap (left_by g.W.RecordWords.words) c.from_residual-in_err-rest.ensures
    ∙ sym (not_shown after_edge c.loop-edge.count c.in-Some.edge _ (edges_left c.loop-edge.edge-iterator) (g.W.RecordWords.words c.loop-edge.rest) _ c.in_ok-count-2.ensures.0 c.in-Some.ensures.steps.first (sym c.in_err-rest.ensures) c.loop-edge.invariant)

pub returns : goal.returns
returns g c =
    ap (left_by g.W.RecordWords.words) c.then_some.ensures ∙ left_by_if g.W.RecordWords.words (c.loop-edge.count == 0) c.loop-edge.rest
    ∙ ended after_edge c.loop-edge.count (edges_left c.loop-edge.edge-iterator) (g.W.RecordWords.words c.loop-edge.rest) _ c.in-None.ensures.steps.first.0 c.loop-edge.invariant
