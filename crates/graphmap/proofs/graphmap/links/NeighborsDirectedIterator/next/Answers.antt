use Rattle.std.proofs.Common.{◌≡◌, [], ◌∷◌, map, MatchOption, sym, ◌∙◌, subst, rules, tests}
use Rattle.graphmap.specs.Cursors.{walk_left, neighbors_left}
use Rattle.graphmap.specs.States.{state}
use Rattle.graphmap.proofs.Reading.{mapped, progress}
use Rattle.graphmap.proofs.Showing.{first_key, walked_on, keys_come}
use Rattle.graphmap.proofs.graphmap.links.NeighborsDirectedIterator.next.Goals as goal

pub returns : goal.returns
returns g c =
    let s = c.args.self.now.links in
    let n = c.next.new.self in
    let first = c.next.ensures.first in
    let same = c.next.ensures.same in
    let key = mapped (λ z. z.key) c.next.result c.map.result c.map.ensures.cases (λ x y q. search (rules, tests)) in
    let come = subst (λ r. MatchOption r ((map (λ k. k.key) (walk_left s) ≡ []) × (map (λ k. k.key) (walk_left n) ≡ [])) (λ x. map (λ k. k.key) (walk_left s) ≡ x ∷ map (λ k. k.key) (walk_left n))) (sym key) (keys_come (walk_left s) (walk_left n) c.next.result first) in
    record {
      steps = record {
        first = come;
        shows = λ ks t. (key ∙ first_key (state s.map.now.tables) s.node.index.value s.direction s.place ks (walk_left n) t c.next.result first, walked_on s n same ks t c.next.result first);
        same = same;
      };
      goes = progress (λ neighbors. neighbors_left neighbors) c.args.self.now c.map.result _ come;
    }
