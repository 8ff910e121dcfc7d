-- A greedy order of the untaken nodes has each of them, once.
use Rattle.std.proofs.Common.{◌≡◌, ℕ, false, List, [], ◌∷◌, refl, arith}
use Rattle.std.proofs.lemmas.Bool.Decides.{nat_tests}
use Rattle.network.specs.Counting.{has, without, EachOnce}
use Rattle.network.specs.Network.{Link}
use Rattle.network.proofs.Sums.{has_append, has_without, once_push}
use Rattle.greedy_order.specs.Part2Greedy.{Greedy, done, sink, source, best}

pub greedy_has : {arcs : List Link} {us order : List ℕ} → Greedy arcs us order → (y : ℕ) → has order y ≡ has us y
greedy_has done y = refl
greedy_has (sink {untaken = us} {rest} x m z g) y = let ih = greedy_has g y in grind (arith, nat_tests, has_without x us y, has_append rest (x ∷ []) y)
greedy_has (source {untaken = us} {rest} x m n z g) y = let ih = greedy_has g y in grind (arith, nat_tests, has_without x us y)
greedy_has (best {untaken = us} {rest} x m n s h g) y = let ih = greedy_has g y in grind (arith, nat_tests, has_without x us y)

left_out : {arcs : List Link} {rest : List ℕ} (us : List ℕ) (x : ℕ) → Greedy arcs (without x us) rest → has rest x ≡ false
left_out us x g = let a = greedy_has g x in let b = has_without x us x in grind (arith, nat_tests)

pub greedy_once : {arcs : List Link} {us order : List ℕ} → Greedy arcs us order → EachOnce order
greedy_once done = tt
greedy_once (sink {untaken = us} {rest} x m z g) = once_push rest x (greedy_once g) (left_out us x g)
greedy_once (source {untaken = us} x m ns z g) = (left_out us x g, greedy_once g)
greedy_once (best {untaken = us} x m ns nt high g) = (left_out us x g, greedy_once g)
