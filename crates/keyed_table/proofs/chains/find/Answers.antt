use Rattle.std.proofs.Common.{get_or, sym, ap, arith}
use Rattle.keyed_table.specs.Chains.{nexts, height}
use Rattle.keyed_table.proofs.Mending.{bucket_in, seek_start, seek_more, falling_le}
use Rattle.keyed_table.proofs.chains.find.Goals as goal

pub loop-at-init : goal.loop-at-init
loop-at-init g c =
    let s = c.args.slots.now in
    λ h. seek_start s c.args.number h (height c.head_at-at.result) c.bucket_of.result (bucket_in s c.args.number c.bucket_of.result c.bucket_of.ensures) c.head_at-at.ensures

pub loop-at-smaller : goal.loop-at-smaller
loop-at-smaller g c =
    let e = c.next_at-at.ensures in
    let f = falling_le c.in-Some.i (get_or (nexts c.args.slots.now) c.in-Some.i 0) in
    let a = ap height c.in-Some.is in
    omega arith

pub loop-at-preserved : goal.loop-at-preserved
loop-at-preserved g c = λ h. seek_more c.args.slots.now c.args.number h c.in-Some.i (height c.next_at-at.result) (rw c.in-Some.is at (c.loop-at.invariant h)) (sym c.if-holds_number.ensures) c.next_at-at.ensures
