use Rattle.std.proofs.Common.{◌≡◌, ◌++◌, refl, ap, ◌∙◌, append_assoc, arith}
use Rattle.std.specs.List.{flat_map}
use Rattle.std.proofs.Output.{has_written_append, has_written_of_eq}
use Rattle.std.proofs.lemmas.List.{append-nil}
use Rattle.network_file.specs.Reading.{numbers_in, contents_of}
use Rattle.network_file.specs.declared.walk.Numbers.{Numbers}
use Rattle.inspect.specs.Report.{counts_line, node_line, arc_line, contents_text}
use Rattle.inspect.proofs.Lines.{counts_told, node_told, arc_told, line_more, one_more}
use Rattle.inspect.proofs.ContentsDisplay.fmt.Goals as goal

pub loop-node-init : goal.loop-node-init
loop-node-init g c =
    let contents = contents_of c.args.self.now.0.bytes.now in
    let counts = counts_told contents c.node_count-nodes.result c.arc_count-arcs.result (omega arith) (omega arith) c.node_count-nodes.ensures c.arc_count-arcs.ensures in
    record {
      all = ap (λ (s : Numbers). numbers_in s.rest.now) c.into_iter-node-iterator.ensures.into_iter_gives ∙ c.nodes-node-items.ensures;
      written = λ plain. has_written_of_eq _ _ _ _ _ (rw counts (simp append-nil)) (c.in_ok-writeln.ensures.writes plain refl);
    }

pub loop-node-preserved : goal.loop-node-preserved
loop-node-preserved g c =
    let contents = contents_of c.args.self.now.0.bytes.now in
    record {
      all = one_more c.loop-node.yielded _ _ _ _ c.loop-node.invariant.all c.in-Some.ensures.steps;
      written = λ plain.
          let so_far = c.loop-node.invariant.written plain in
          has_written_of_eq _ _ _ _ _ (line_more node_line (counts_line contents) _ c.loop-node.yielded c.in-Some.node (node_told c.in-Some.node (omega arith)))
          (has_written_append _ _ _ _ _ _ so_far (c.in_ok-writeln-2.ensures.writes so_far.plain refl));
    }

pub loop-arc-preserved : goal.loop-arc-preserved
loop-arc-preserved g c =
    let contents = contents_of c.args.self.now.0.bytes.now in
    record {
      all = one_more c.loop-arc.yielded _ _ _ _ c.loop-arc.invariant.all c.in-Some-arc.ensures.steps;
      written = λ plain.
          let so_far = c.loop-arc.invariant.written plain in
          has_written_of_eq _ _ _ _ _ (line_more arc_line (counts_line contents ++ flat_map node_line contents.nodes) _ c.loop-arc.yielded c.in-Some-arc.arc (arc_told c.in-Some-arc.arc (omega arith) (omega arith) (omega arith)))
          (has_written_append _ _ _ _ _ _ so_far (c.in_ok-writeln-3.ensures.writes so_far.plain refl));
    }

pub returns-clause-writes : goal.returns-clause-writes
unfolding contents_text
returns-clause-writes g c = λ plain ok.
    let contents = contents_of c.args.self.now.0.bytes.now in
    let all : c.loop-arc.yielded ≡ contents.arcs = rw (c.in-None-arc.ensures.steps.0, append-nil) at c.loop-arc.invariant.all in
    has_written_of_eq _ _ _ _ _ (rw all (append_assoc (counts_line contents) (flat_map node_line contents.nodes) (flat_map arc_line contents.arcs))) (c.loop-arc.invariant.written plain)
