use Rattle.std.proofs.Common.{ap, ◌∙◌}
use Rattle.map_layout.specs.Layout.{direction_at}
use Rattle.graphmap.specs.Links.{links_left}
use Rattle.graphmap.specs.States.{state}
use Rattle.graphmap.proofs.Walking.{fewer, still_ends, none_there, not_shown, is_shown}
use Rattle.graphmap.proofs.graphmap.walk.LinksDirected.next.Goals as goal

pub invariant_of-self : goal.invariant_of-self
invariant_of-self g c =
    let s = c.loop-self.self in
    record { ends = still_ends (state s.map.now.tables) c.in-Some.place s.place c.prev-self.result c.in-Some.is c.prev-self.ensures.answer s.ends }

pub returns-then-shows : goal.returns-then-shows
returns-then-shows g c =
    let s = c.loop-self.self in
    let loop = c.loop-self.invariant in
    let p = c.in-Some.place in
    record {
      first = (
        direction_at p,
        loop.left ∙ is_shown (state s.map.now.tables) p s.place c.prev-self.result c.in-Some.is c.prev-self.ensures.answer s.ends s.node.index.value s.direction
            c.in-Some-neighbor_at.neighbor c.in-Some-neighbor_at.ensures c.if-shows.ensures,
      );
      same = (loop.map, loop.node, loop.direction);
    }

pub loop-self-smaller-else-shows : goal.loop-self-smaller-else-shows
loop-self-smaller-else-shows g c =
    let s = c.loop-self.self in
    fewer (state s.map.now.tables) c.in-Some.place s.place c.prev-self.result c.in-Some.is c.prev-self.ensures.answer s.ends

pub loop-self-preserved-else-shows : goal.loop-self-preserved-else-shows
loop-self-preserved-else-shows g c =
    let s = c.loop-self.self in
    let loop = c.loop-self.invariant in
    record {
      map = loop.map;
      node = loop.node;
      direction = loop.direction;
      left = loop.left ∙ not_shown (state s.map.now.tables) c.in-Some.place s.place c.prev-self.result c.in-Some.is c.prev-self.ensures.answer s.ends s.node.index.value s.direction
          c.in-Some-neighbor_at.neighbor c.in-Some-neighbor_at.ensures c.if-shows.ensures;
    }

pub loop-self-smaller : goal.loop-self-smaller
loop-self-smaller g c =
    let s = c.loop-self.self in
    fewer (state s.map.now.tables) c.in-Some.place s.place c.prev-self.result c.in-Some.is c.prev-self.ensures.answer s.ends

pub loop-self-preserved : goal.loop-self-preserved
loop-self-preserved g c =
    let s = c.loop-self.self in
    let loop = c.loop-self.invariant in
    record {
      map = loop.map;
      node = loop.node;
      direction = loop.direction;
      left = loop.left ∙ none_there (state s.map.now.tables) c.in-Some.place s.place c.prev-self.result c.in-Some.is c.prev-self.ensures.answer s.ends s.node.index.value s.direction c.in_default-neighbor_at.ensures;
    }

pub returns : goal.returns
returns g c =
    let s = c.loop-self.self in
    let loop = c.loop-self.invariant in
    let end = ap (links_left (state s.map.now.tables) s.node.index.value s.direction) c.in_default.is in
    record { first = (loop.left ∙ end, end); same = (loop.map, loop.node, loop.direction) }
