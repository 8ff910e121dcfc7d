use Rattle.std.proofs.Common.{◌+◌, cond, is_some, Some, sym, refl, ap, ◌∙◌}
use Rattle.std.specs.Iterator.{YieldsFirst}
use Rattle.keyed_table.proofs.Calls.{left_none, left_some}
use Rattle.map_model.specs.Shown.{all_edges_shown}
use Rattle.graphmap.specs.Cursors.{all_edges_left}
use Rattle.graphmap.specs.Maps.{map_model}
use Rattle.graphmap.proofs.Reading.{progress}
use Rattle.graphmap.proofs.graphmap.cursors.AllEdgesIterator.next.Goals as goal

pub returns-in_err-edge : goal.returns-in_err-edge
returns-in_err-edge g c =
    let s = c.args.self.now in
    let e = c.from_residual.ensures in
    let none = left_none (all_edges_shown (map_model s.map.now)) s.position c.in_err-edge.ensures.answer in
    let first : YieldsFirst (λ edges. all_edges_left edges) s c.from_residual.result s = rw e (none, none) in
    record {
      steps = record { first = first; answer = e ∙ c.in_err-edge.ensures.answer; moved = sym (ap (λ r. cond (is_some r) (s.position + 1) s.position) e); same = refl };
      goes = progress (λ edges. all_edges_left edges) s c.from_residual.result s first;
    }

pub returns : goal.returns
returns g c =
    let s = c.args.self.now in
    let first = left_some (all_edges_shown (map_model s.map.now)) s.position c.in_ok-edge.edge c.in_ok-edge.ensures.answer in
    record {
      steps = record { first = first; answer = c.in_ok-edge.ensures.answer; moved = refl; same = refl };
      goes = progress (λ edges. all_edges_left edges) s (Some c.in_ok-edge.edge) _ first;
    }
