use Rattle.std.proofs.Common.{◌≡◌, ◌+◌, ◌*◌, length, inl, ap, ◌∙◌, sym, arith}
use Rattle.std.specs.Iterator.Adapters.{enumerate_source, enumerate_count}
use Rattle.std.specs.declared.iter.Enumerate.{Enumerate}
use Rattle.network_file.specs.Reading.{arcs_begin, nodes_of, arcs_of, arcs_in, numbers_in}
use Rattle.network_file.specs.declared.walk.Arcs.{Arcs}
use Rattle.network_file.proofs.Granted.{sized}
use Rattle.network_file.proofs.Runs.{turn, both_listed}
use Rattle.network_file.proofs.records.check_ends.Goals as goal

pub loop-k-init : goal.loop-k-init
loop-k-init c =
    let b = c.args.file.bytes.now in
    let gives = c.into_iter-k-iterator.ensures.into_iter_gives in
    let zero = ap enumerate_count gives ∙ c.enumerate-k-items.ensures.count in
    let all : arcs_in (numbers_in (enumerate_source c.into_iter-k-iterator.result).numbers.rest.now) ≡ arcs_of b =
    ap (λ (s : Enumerate Arcs). arcs_in (numbers_in (enumerate_source s).numbers.rest.now)) gives ∙ (ap (λ (s : Arcs). arcs_in (numbers_in s.numbers.rest.now)) c.enumerate-k-items.ensures.source ∙ c.arcs.ensures) in
    let begin : arcs_begin b + 12 * 0 ≡ arcs_begin b = omega arith in
    record {
      rest = rw zero all;
      left = rw (zero, begin);
      may_go_on = ((tt, tt, inl (omega (arith, zero, ap length all, sized b c.args.file.whole, c.args.file.whole.small))), tt);
    }

pub loop-k-preserved : goal.loop-k-preserved
loop-k-preserved c =
    let b = c.args.file.bytes.now in
    let step = c.in-Some.ensures.steps in
    let here = turn (arcs_of b) _ _ _ _ c.loop-k.invariant.rest step.0 in
    let source = rw c.nodes.ensures at (sym c.listed.ensures ∙ c.if-not-listed.false) in
    let target = rw c.nodes-in-loop-k.ensures at (sym c.listed-in-loop-k.ensures ∙ c.if-not-listed-2.false) in
    record {
      rest = rw step.2 here.rest;
      left = rw step.2 (both_listed (nodes_of b) (arcs_of b) _ _ _ _ here c.loop-k.invariant.left source target);
      may_go_on = (c.in-Some.ensures.goes.keeps, tt);
    }
