use Rattle.std.proofs.Common.{◌≡◌, ◌+◌, ◌*◌, drop}
use Rattle.std.specs.Iterator.Adapters.{enumerate_source, enumerate_count}
use Rattle.network_file.specs.Checks.{ends_listed}
use Rattle.network_file.specs.Reading.{arcs_begin, nodes_of, arcs_of, arcs_in, numbers_in}
use Rattle.network_file.proofs.records.check_ends.Given as goal

-- the arcs from k on are still to come, and whether the ends are listed is left to them
abbrev pub invariant-loop-k : goal.invariant-loop-k
invariant-loop-k l =
    let b = l.file.bytes.now in
    let k = enumerate_count l.k-iterator in
    record {
      rest : arcs_in (numbers_in (enumerate_source l.k-iterator).numbers.rest.now) ≡ drop k (arcs_of b);
      left : ends_listed (nodes_of b) (arcs_begin b + 12 * k) (drop k (arcs_of b)) ≡ ends_listed (nodes_of b) (arcs_begin b) (arcs_of b);
      may_go_on : (goal.iterator-loop-k).can_next l.k-iterator × (goal.iterator-loop-k).is_finite l.k-iterator;
    }
