use Rattle.std.proofs.Common.{suc, length, get_or, ap, arith}
use Rattle.keyed_table.specs.Chains.{items, nexts, homes, height}
use Rattle.keyed_table.proofs.Last.{walk_end}
use Rattle.keyed_table.proofs.Mending.{gap_none, gap_more, falling_le}
use Rattle.keyed_table.proofs.chains.gap_at.Goals as goal

pub loop-at-init : goal.loop-at-init
loop-at-init g c = λ h b. gap_none c.args.slots.now h c.args.b (suc c.args.i) b _ c.head_at-at.ensures

pub loop-at-smaller : goal.loop-at-smaller
loop-at-smaller g c =
    let e = c.next_at-at.ensures in
    let f = falling_le c.in-Some.above (get_or (nexts c.args.slots.now) c.in-Some.above 0) in
    let a = ap height c.in-Some.is in
    omega arith

pub loop-at-preserved : goal.loop-at-preserved
loop-at-preserved g c =
    λ h b.
    let f = c.if-above-i.false in
    gap_more c.args.slots.now h c.args.b (suc c.args.i) b (height c.loop-at.over) c.in-Some.above (height c.next_at-at.result) (rw c.in-Some.is at (c.loop-at.invariant h b)) (omega arith) c.next_at-at.ensures

pub returns-in_default : goal.returns-in_default
returns-in_default g c = λ h b e. let a = ap height c.in_default.is in walk_end (homes (items c.args.slots.now)) c.args.b (suc c.args.i) (length (items c.args.slots.now)) (height c.loop-at.over) (height c.loop-at.at) (c.loop-at.invariant h b) (omega arith) (omega arith)

pub returns-then-above-i : goal.returns-then-above-i
returns-then-above-i g c =
    λ h b e.
    let t = c.if-above-i.true in
    walk_end (homes (items c.args.slots.now)) c.args.b (suc c.args.i) (length (items c.args.slots.now)) (height c.loop-at.over) (suc c.in-Some.above) (rw c.in-Some.is at (c.loop-at.invariant h b)) (omega arith) (omega arith)
