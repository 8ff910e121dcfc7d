use Rattle.std.proofs.Common.{◌++◌, string_bytes, sym, ap, ◌∙◌, append-nil}
use Rattle.std.specs.List.{flat_map}
use Rattle.graphmap.specs.Cursors.{edges_left}
use Rattle.edit_lines.specs.Maps.{arc_line}
use Rattle.edit_lines.proofs.map.write_edges.Goals as goal

pub returns : goal.returns
returns c =
    let line = arc_line c.args.word.now in
    sym (append-nil (string_bytes c.loop-edge.out))
    ∙ ap (λ edges. string_bytes c.loop-edge.out ++ flat_map line edges) (sym c.in-None.ensures.steps.first.0)
    ∙ c.loop-edge.invariant ∙ ap (λ edges. string_bytes c.args.out.now ++ flat_map line (edges_left edges)) c.into_iter-edge-iterator.ensures.into_iter_gives
    ∙ ap (λ edges. string_bytes c.args.out.now ++ flat_map line edges) c.edges_directed-edge-items.ensures.all
