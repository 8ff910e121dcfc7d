-- At most half of the arcs other than loops are held.
use Rattle.std.proofs.Common.{ℕ, ◌+◌, ◌*◌, ◌≤◌, List, [], arith}
use Rattle.network.specs.Counting.{EachOnce}
use Rattle.network.specs.Network.{Link}
use Rattle.network.proofs.Sums.{once_without}
use Rattle.greedy_order.specs.Part2Greedy.{Greedy, done, sink, source, best}
use Rattle.greedy_order.proofs.Steps.{arcs_in, loops_in, held_in, step_arcs, step_loops, step_front, step_back, highest_sign, held_none}
use Rattle.greedy_order.proofs.Orders.{greedy_has}

-- at most half of the arcs that are no loops are held
pub half : {arcs : List Link} {us order : List ℕ} → Greedy arcs us order → EachOnce us → 2 * held_in arcs us order ≤ arcs_in arcs us + loops_in arcs us
half {arcs} done h = omega (arith, held_none arcs [])
half {arcs} (sink {untaken = us} {rest} x m z g) h =
    let ih = half g (once_without x us h) in
    omega (arith, step_arcs arcs us x m, step_loops arcs us x m, step_back arcs us rest x m (greedy_has g))
half {arcs} (source {untaken = us} {rest} x m n z g) h =
    let ih = half g (once_without x us h) in
    omega (arith, step_arcs arcs us x m, step_loops arcs us x m, step_front arcs us rest x m)
half {arcs} (best {untaken = us} {rest} x m n s high g) h =
    let ih = half g (once_without x us h) in
    omega (arith, step_arcs arcs us x m, step_loops arcs us x m, step_front arcs us rest x m, highest_sign arcs us x h m high)
