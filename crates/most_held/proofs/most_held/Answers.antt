use Rattle.graphmap.specs.Maps.{map_model}
use Rattle.most_held.proofs.Opposites.{are_bounds, no_more_are_held}
use Rattle.most_held.proofs.most_held.Goals as goal

pub returns : goal.returns
returns g c =
    let ix = g.N.NodeKey.index in
    let m = map_model c.args.map.now.map.now in
    let arcs = c.arc_count-arcs.ensures in
    record {
      value = are_bounds ix m c.args.touched c.arc_count-arcs.result c.loop_count-loops.result c.opposite_count.result c.most_held_by_half.result c.by_nodes.result arcs c.loop_count-loops.ensures c.opposite_count.ensures c.most_held_by_half.ensures.value c.by_nodes.ensures.value;
      bound = no_more_are_held ix m c.args.touched c.arc_count-arcs.result c.loop_count-loops.result c.opposite_count.result c.most_held_by_half.result c.by_nodes.result arcs c.loop_count-loops.ensures c.opposite_count.ensures c.by_nodes.ensures.value c.most_held_by_half.ensures.bound c.by_nodes.ensures.bound;
    }
