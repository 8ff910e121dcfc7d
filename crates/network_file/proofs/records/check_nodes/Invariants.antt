use Rattle.std.proofs.Common.{◌≡◌, ◌+◌, ◌*◌, [], take, drop}
use Rattle.std.specs.Iterator.Adapters.{enumerate_source, enumerate_count}
use Rattle.network_file.specs.Checks.{nodes_differ}
use Rattle.network_file.specs.Reading.{nodes_of, numbers_in}
use Rattle.network_file.proofs.records.check_nodes.Given as goal

-- the nodes from k on are still to come, and whether the nodes differ is left to them, with those before seen
abbrev pub invariant-loop-k : goal.invariant-loop-k
invariant-loop-k l =
    let nodes = nodes_of l.file.bytes.now in
    let k = enumerate_count l.k-iterator in
    record {
      rest : numbers_in (enumerate_source l.k-iterator).rest.now ≡ drop k nodes;
      left : nodes_differ (take k nodes) (16 + 4 * k) (drop k nodes) ≡ nodes_differ [] 16 nodes;
      may_go_on : (goal.iterator-loop-k).can_next l.k-iterator × (goal.iterator-loop-k).is_finite l.k-iterator;
    }
