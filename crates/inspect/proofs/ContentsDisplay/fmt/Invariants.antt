use Rattle.std.proofs.Common.{◌≡◌, ◌++◌}
use Rattle.std.specs.Fmt.{HasWritten, IsPlainFormatter}
use Rattle.std.specs.List.{flat_map}
use Rattle.network_file.specs.Reading.{nodes_of, arcs_of, numbers_in, arcs_in, contents_of}
use Rattle.inspect.specs.Report.{counts_line, node_line, arc_line}
use Rattle.inspect.proofs.ContentsDisplay.fmt.Given as goal

-- the counts and the lines of the nodes so far are written
abbrev pub invariant-loop-node : goal.invariant-loop-node
invariant-loop-node g l =
    let b = l.self.0.bytes.now in
    record {
      all : l.yielded ++ numbers_in l.node-iterator.rest.now ≡ nodes_of b;
      written : IsPlainFormatter l.fn.f → HasWritten g.W.Write.write_str_gives l.fn.f (counts_line (contents_of b) ++ flat_map node_line l.yielded) l.f;
    }

-- the counts, the lines of the nodes and those of the arcs so far are written
abbrev pub invariant-loop-arc : goal.invariant-loop-arc
invariant-loop-arc g l =
    let b = l.self.0.bytes.now in
    record {
      all : l.yielded ++ arcs_in (numbers_in l.arc-iterator.numbers.rest.now) ≡ arcs_of b;
      written : IsPlainFormatter l.fn.f → HasWritten g.W.Write.write_str_gives l.fn.f ((counts_line (contents_of b) ++ flat_map node_line (nodes_of b)) ++ flat_map arc_line l.yielded) l.f;
    }
