use Rattle.std.proofs.Common.{map, ap, ◌∙◌}
use Rattle.map_model.specs.Shown.{links_shown}
use Rattle.graphmap.specs.Links.{links_left}
use Rattle.graphmap.specs.Maps.{map_model}
use Rattle.graphmap.specs.States.{state}
use Rattle.graphmap.proofs.Showing.{all_left}
use Rattle.graphmap.proofs.graphmap.open.OpenMap.neighbors_directed.Goals as goal

pub returns-clause-all : goal.returns-clause-all
returns-clause-all g c =
    let m = c.args.self.now.map.now in
    let d = c.args.direction in
    let n = c.new-node.result in
    let w = c.new-links.result in
    let same = c.new-links.ensures.same in
    (λ x. map (λ k. k.key) (links_left (state (same.0 x).tables) (same.1 x).index.value (same.2 x) w.place))
    ∙ all_left (state m.tables) n.index.value d (map (λ k. k.key)) g.row.N.coded w.place (links_shown (map_model m) n.index.value d) c.new-links.ensures.begins
    ∙ ap (λ i. map (λ k. k.key) (links_shown (map_model m) i d)) c.new-node.ensures.index
