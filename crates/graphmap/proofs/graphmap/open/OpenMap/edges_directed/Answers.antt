use Rattle.std.proofs.Common.{◌≡◌, map, sym, ◌∙◌, subst}
use Rattle.network.specs.declared.direction.CompactDirection.{CompactDirection}
use Rattle.map_layout.specs.declared.records.IndexedKey.{IndexedKey}
use Rattle.map_model.specs.Lists.{All, present}
use Rattle.map_model.specs.Shown.{edge_of, links_shown}
use Rattle.graphmap.specs.declared.graphmap.GraphMap.{GraphMap}
use Rattle.graphmap.specs.Links.{HasArc, links_left}
use Rattle.graphmap.specs.Maps.{map_model}
use Rattle.graphmap.specs.States.{state}
use Rattle.graphmap.proofs.Edges.{each_has_arc, each_left, coded_edge}
use Rattle.graphmap.proofs.Showing.{all_left}
use Rattle.graphmap.proofs.graphmap.open.OpenMap.edges_directed.Goals as goal

pub invariant_of-result : goal.invariant_of-result
invariant_of-result g c =
    let m = c.args.self.now.map.now in
    let n = c.new.result in
    let w = c.new-2.result in
    let same = c.new-2.ensures.same in
    let all : ◌≡◌ {A = GraphMap g.row.N.Denot g.row.E.Denot × (IndexedKey g.row.N.Denot × CompactDirection)} (m, (n, c.args.direction)) (w.map.now, (w.node, w.direction)) = λ x. (sym same.0 x, (sym same.1 x, sym same.2 x)) in
    record {
      each = subst (λ z. ∥ All (HasArc z.1.0.key z.1.0.index.value z.1.1 (map_model z.0).arcs) (links_left (state z.0.tables) z.1.0.index.value z.1.1 w.place) ∥₁) all
          (each_left (state m.tables) n.key n.index.value c.args.direction w.place m.good c.new-2.ensures.begins);
    }

pub returns-clause-all : goal.returns-clause-all
returns-clause-all g c =
    let m = c.args.self.now.map.now in
    let d = c.args.direction in
    let n = c.new.result in
    let e = c.new.ensures in
    let w = c.new-2.result in
    let same = c.new-2.ensures.same in
    (λ x. present (map (edge_of (same.1 x).key (same.1 x).index.value (same.2 x) (map_model (same.0 x)).arcs) (links_left (state (same.0 x).tables) (same.1 x).index.value (same.2 x) w.place)))
    ∙ all_left (state m.tables) n.index.value d (λ l. present (map (edge_of n.key n.index.value d (map_model m).arcs) l)) (coded_edge g.row.N.coded g.row.E.coded) w.place (links_shown (map_model m) n.index.value d) c.new-2.ensures.begins
    ∙ (λ x. present (map (edge_of (e.key x) (e.index x) d (map_model m).arcs) (links_shown (map_model m) (e.index x) d)))

pub returns-clause-each : goal.returns-clause-each
returns-clause-each g c = let m = c.args.self.now.map.now in each_has_arc (state m.tables) c.args.a (g.N.NodeKey.index c.args.a) c.args.direction m.good
