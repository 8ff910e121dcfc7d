use Rattle.std.proofs.Common.{◌≡◌, length, inl, ap, ◌∙◌, sym, arith}
use Rattle.std.specs.Iterator.Adapters.{enumerate_source, enumerate_count}
use Rattle.std.specs.declared.iter.Enumerate.{Enumerate}
use Rattle.network_file.specs.Reading.{nodes_of, numbers_in}
use Rattle.network_file.specs.declared.walk.Numbers.{Numbers}
use Rattle.network_file.proofs.Granted.{sized}
use Rattle.network_file.proofs.Runs.{turn, node_new}
use Rattle.network_file.proofs.records.check_nodes.Goals as goal

pub loop-k-init : goal.loop-k-init
loop-k-init c =
    let nodes = nodes_of c.args.file.bytes.now in
    let gives = c.into_iter-k-iterator.ensures.into_iter_gives in
    let zero = ap enumerate_count gives ∙ c.enumerate-k-items.ensures.count in
    let all : numbers_in (enumerate_source c.into_iter-k-iterator.result).rest.now ≡ nodes =
    ap (λ (s : Enumerate Numbers). numbers_in (enumerate_source s).rest.now) gives ∙ (ap (λ (s : Numbers). numbers_in s.rest.now) c.enumerate-k-items.ensures.source ∙ c.nodes.ensures) in
    record {
      rest = rw zero all;
      left = rw zero;
      may_go_on = ((tt, tt, inl (omega (arith, zero, ap length all, sized c.args.file.bytes.now c.args.file.whole, c.args.file.whole.small))), tt);
    }

pub loop-k-preserved : goal.loop-k-preserved
loop-k-preserved c =
    let step = c.in-Some.ensures.steps in
    let nodes = nodes_of c.args.file.bytes.now in
    let here = turn nodes _ _ _ _ c.loop-k.invariant.rest step.0 in
    record {
      rest = rw step.2 here.rest;
      left = rw step.2 (node_new nodes _ _ _ here c.loop-k.invariant.left (rw (c.first_nodes.ensures, step.1) at (sym c.listed.ensures ∙ c.if-listed.false)));
      may_go_on = (c.in-Some.ensures.goes.keeps, tt);
    }
