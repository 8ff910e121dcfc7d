use Rattle.std.proofs.Common.{◌≡◌, List, [], ◌∷◌, map, MatchOption, None, Some, sym, ap, ◌∙◌, subst}
use Rattle.map_model.specs.Lists.{present}
use Rattle.map_model.specs.Model.{Link}
use Rattle.map_model.specs.Shown.{edge_of}
use Rattle.graphmap.specs.Cursors.{walk_left, edges_left}
use Rattle.graphmap.specs.States.{state}
use Rattle.graphmap.specs.Maps.{map_model}
use Rattle.graphmap.proofs.Edges.{later_each, edges_come, first_edge, no_edge, same_edges, same_each}
use Rattle.graphmap.proofs.Reading.{progress}
use Rattle.graphmap.proofs.Showing.{walked_on}
use Rattle.graphmap.proofs.graphmap.links.EdgesDirectedIterator.next.Goals as goal

pub invariant_of-self : goal.invariant_of-self
invariant_of-self g c =
    let s = c.args.self.now.links in
    let n = c.next.new.self in
    let same = c.next.ensures.same in
    let arcs = (map_model s.map.now).arcs in
    record {
      each = same_each s.node n.node s.direction n.direction arcs (map_model n.map.now).arcs _ same.1 same.2 (ap (λ m. (map_model m).arcs) same.0)
          (later_each arcs s.node.key s.node.index.value s.direction _ _ c.next.result c.next.ensures.first c.args.self.now.each);
    }

pub returns-in_err-neighbor : goal.returns-in_err-neighbor
returns-in_err-neighbor g c =
    let s = c.args.self.now.links in
    let n = c.next.new.self in
    let first = c.in_err-neighbor.ensures.first in
    let same = c.next.ensures.same in
    let e = c.from_residual.ensures in
    let shown = λ (l : List (Link g.row.N.Denot)). present (map (edge_of s.node.key s.node.index.value s.direction (map_model s.map.now).arcs) l) in
    let later = λ (l : List (Link g.row.N.Denot)). present (map (edge_of n.node.key n.node.index.value n.direction (map_model n.map.now).arcs) l) in
    let end : MatchOption c.from_residual.result ((shown (walk_left s) ≡ []) × (later (walk_left n) ≡ [])) (λ x. shown (walk_left s) ≡ x ∷ later (walk_left n)) = rw e (ap shown first.0, ap later first.1) in
    record {
      steps = record {
        first = end;
        shows = λ ks t. (e ∙ no_edge (state s.map.now.tables) s.node.key s.node.index.value s.direction s.place ks (walk_left n) t first, walked_on s n same ks t None first);
        same = same;
      };
      goes = progress (λ edges. edges_left edges) c.args.self.now c.from_residual.result _ end;
    }

pub returns : goal.returns
returns g c =
    let s = c.args.self.now.links in
    let n = c.next.new.self in
    let o = c.in_ok-neighbor.neighbor in
    let first = c.in_ok-neighbor.ensures.first in
    let same = c.next.ensures.same in
    let arcs = (map_model s.map.now).arcs in
    let old = present (map (edge_of s.node.key s.node.index.value s.direction arcs) (walk_left s)) in
    let come = subst (λ v. MatchOption c.edge_with.result ((old ≡ []) × (v ≡ [])) (λ x. old ≡ x ∷ v))
    (sym (same_edges s.node n.node s.direction n.direction arcs (map_model n.map.now).arcs (walk_left n) same.1 same.2 (ap (λ m. (map_model m).arcs) same.0)))
    (edges_come arcs s.node.key s.node.index.value s.direction (walk_left s) (walk_left n) o c.edge_with.result first c.edge_with.ensures c.args.self.now.each) in
    record {
      steps = record {
        first = come;
        shows = λ ks t. (first_edge (state s.map.now.tables) s.node.key s.node.index.value s.direction s.place ks (walk_left n) t o c.edge_with.result first c.edge_with.ensures, walked_on s n same ks t (Some o) first);
        same = same;
      };
      goes = progress (λ edges. edges_left edges) c.args.self.now c.edge_with.result _ come;
    }
