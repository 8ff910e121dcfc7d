use Rattle.std.proofs.Common.{sym, subst}
use Rattle.graphmap.specs.Links.{HasArc, links_left}
use Rattle.graphmap.specs.Maps.{map_model}
use Rattle.graphmap.specs.States.{state}
use Rattle.map_model.specs.Lists.{All}
use Rattle.graphmap.proofs.graphmap.links.EdgesDirectedClone.clone.Goals as goal

pub invariant_of-result : goal.invariant_of-result
invariant_of-result g c = record {
  each = subst (λ w. ∥ All (HasArc w.node.key w.node.index.value w.direction (map_model w.map.now).arcs) (links_left (state w.map.now.tables) w.node.index.value w.direction w.place) ∥₁) (sym c.in_ok-clone.ensures.cases) c.args.self.now.each;
}
