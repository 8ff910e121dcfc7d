-- Once all arcs are entered, the order of the entries, by their nodes, is the order of the network.
use Rattle.std.proofs.Common.{◌≡◌, ℕ, zero, suc, ◌+◌, ◌-◌, ◌<◌, true, eqb, List, [], ◌∷◌, map, reverse, length, get_or, drop, sym, refl, ap, ◌∙◌, subst, add-one, arith}
use Rattle.std.proofs.lemmas.List.{length-append, length-map, length-reverse, drop_more, drop_all, get_or-map, get_or-reverse, same_lists, reverse-reverse}
use Rattle.std.proofs.lemmas.Bool.{eq-eqb, eqb-true, le-ltb}
use Rattle.network.specs.Counting.{has, EachOnce}
use Rattle.network.specs.Network.{Link, touched}
use Rattle.network.proofs.Sums.{has_head, has_tail, has_reverse, length_without, once_without}
use Rattle.network.proofs.Touched.{Covers, touched_once, touched_covers}
use Rattle.greedy_order.specs.Part2Greedy.{Greedy, done, sink, source, best}
use Rattle.greedy_order.specs.Part3Order.{greedy_order}
use Rattle.greedy_order.specs.Part7Folded.{run, folded_order}
use Rattle.greedy_order.proofs.Rounds.{rounds_are_folded}
use Rattle.greedy_order.proofs.Folded.{run_greedy}
use Rattle.greedy_order.proofs.Orders.{greedy_has}
use Rattle.fas_layout.specs.Laying.{down, link_at, links_from, Entered}
use Rattle.greedy_order.proofs.Renaming.{ren_link, ren, greedy_ren}
use Rattle.fas_layout.proofs.Renamed.{whole, whole_in, whole_apart, touched_ren}
use Rattle.fas_layout.proofs.Laid.{has_down, down_below, length_down}
use Rattle.fas_layout.proofs.Entering.{sum, below_sum, once_at, met_all}

map_same : {X : Type 0} (f g : ℕ → X) (l : List ℕ) → ((y : ℕ) → has l y ≡ true → f y ≡ g y) → map f l ≡ map g l
map_same f g [] h = refl
map_same f g (x ∷ l) h = ap (λ v. v ∷ map f l) (h x (has_head x l)) ∙ ap (λ v. g x ∷ v) (map_same f g l (λ y m. h y (has_tail x l y m)))

map_apart : (f : ℕ → ℕ) → ((x y : ℕ) → eqb (f x) (f y) ≡ eqb x y) → (xs ys : List ℕ) → map f xs ≡ map f ys → xs ≡ ys
map_apart f apart [] [] e = refl
map_apart f apart [] (y ∷ ys) e = absurd (let z : ◌≡◌ {A = ℕ} 0 (suc (length (map f ys))) = ap length e in omega arith)
map_apart f apart (x ∷ xs) [] e = absurd (let z : ◌≡◌ {A = ℕ} (suc (length (map f xs))) 0 = ap length e in omega arith)
map_apart f apart (x ∷ xs) (y ∷ ys) e =
    let h : f x ≡ f y = cc in
    let r : map f xs ≡ map f ys = cc in
    let q : x ≡ y = eqb-true x y (sym (apart x y) ∙ eq-eqb (f x) (f y) h) in
    ap (λ v. v ∷ xs) q ∙ ap (λ l. y ∷ l) (map_apart f apart xs ys r)

get_d_down : (n j : ℕ) → j < n → get_or (down n) j 0 ≡ n - 1 - j
get_d_down zero j l = absurd (omega arith)
get_d_down (suc n) zero l = omega arith
get_d_down (suc n) (suc j) l = let ih = get_d_down n j (omega arith) in omega arith

once_down : (n : ℕ) → EachOnce (down n)
once_down zero = tt
once_down (suc n) = (has_down n n ∙ le-ltb n n (omega arith), once_down n)

-- a list is what its numbers from 0 on name
counted : (K : List ℕ) (f : ℕ → ℕ) → ((e : ℕ) → e < length K → f e ≡ get_or K e 0) → map f (reverse (down (length K))) ≡ K
counted K f h = same_lists (map f (reverse (down (length K)))) K size each
  where
    long : length (reverse (down (length K))) ≡ length K
    long = length-reverse (down (length K)) ∙ length_down (length K)

    size : length (map f (reverse (down (length K)))) ≡ length K
    size = length-map (reverse (down (length K))) f ∙ long

    each : (k d : ℕ) → k < length (map f (reverse (down (length K)))) → get_or (map f (reverse (down (length K)))) k d ≡ get_or K k d
    each k d l =
        let s = size in let g = long in
        let b : k < length K = omega arith in
        let r = get_or-reverse (down (length K)) k 0 (let z = length_down (length K) in omega arith) in
        let i : get_or (reverse (down (length K))) k 0 ≡ k = r ∙ get_d_down (length K) (length (down (length K)) - 1 - k) (let z = length_down (length K) in omega arith) ∙ (let z = length_down (length K) in omega arith) in
        get_or-map f (reverse (down (length K))) k 0 d (omega arith) ∙ ap f i ∙ h k b ∙ same_default K k b
      where
        same_default : (xs : List ℕ) (i : ℕ) → i < length xs → get_or xs i 0 ≡ get_or xs i d
        same_default [] i l = absurd (omega arith)
        same_default (x ∷ xs) zero l = refl
        same_default (x ∷ xs) (suc i) l = same_default xs i (omega arith)

covers_same : (us vs : List ℕ) (arcs : List Link) → ((y : ℕ) → has us y ≡ has vs y) → Covers us arcs → Covers vs arcs
covers_same us vs [] h c = tt
covers_same us vs (a ∷ arcs) h c = (sym (h a.0) ∙ c.0, sym (h a.1) ∙ c.1, covers_same us vs arcs h c.2)

pub greedy_length : {arcs : List Link} {us order : List ℕ} → Greedy arcs us order → EachOnce us → length order ≡ length us
greedy_length done h = refl
greedy_length {us = us} (sink {rest = rest} x m z g) h = let ih = greedy_length g (once_without x us h) in let l = length_without x us h m in let k = length-append rest (x ∷ []) in omega arith
greedy_length {us = us} (source x m ns z g) h = let ih = greedy_length g (once_without x us h) in let l = length_without x us h m in omega arith
greedy_length {us = us} (best x m ns nt hi g) h = let ih = greedy_length g (once_without x us h) in let l = length_without x us h m in omega arith

module _ (links : List Link) (K nodes : List ℕ) (e : Entered links (length links) K nodes) where
  all_met : K ≡ touched links
  all_met = e.nodes_met ∙ met_all links (length links) (omega arith)

  name : ℕ → ℕ
  name = λ v. get_or K v 0

  f : ℕ → ℕ
  f = whole (length K) (suc (sum K)) (λ v. get_or K v 0)

  apart : (x y : ℕ) → eqb (whole (length K) (suc (sum K)) (λ v. get_or K v 0) x) (whole (length K) (suc (sum K)) (λ v. get_or K v 0) y) ≡ eqb x y
  apart = whole_apart (length K) (suc (sum K)) (λ v. get_or K v 0) (λ x l. below_sum K x) (once_at K (subst EachOnce (sym all_met) (touched_once links)))

  from : (i k : ℕ) → i + k ≡ length links → ren (whole (length K) (suc (sum K)) (λ v. get_or K v 0)) (links_from nodes i k) ≡ drop i links
  from i zero l = sym (drop_all i links (omega arith))
  from i (suc k) l =
      let n = e.ends i (omega arith) in
      let a = whole_in (length K) (suc (sum K)) (λ v. get_or K v 0) (link_at nodes i).0 n.0.0 ∙ n.0.1 in
      let b = whole_in (length K) (suc (sum K)) (λ v. get_or K v 0) (link_at nodes i).1 n.1.0 ∙ n.1.1 in
      let h : ren_link (whole (length K) (suc (sum K)) (λ v. get_or K v 0)) (link_at nodes i) ≡ get_or links i (0, 0) = ap (λ v. (v, whole (length K) (suc (sum K)) (λ v. get_or K v 0) (link_at nodes i).1)) a ∙ ap (λ v. ((get_or links i (0, 0)).0, v)) b in
      ap (λ v. v ∷ ren (whole (length K) (suc (sum K)) (λ v. get_or K v 0)) (links_from nodes (suc i) k)) h
      ∙ ap (λ v. get_or links i (0, 0) ∷ v) (from (suc i) k (omega arith))
      ∙ ap (λ v. get_or links i (0, 0) ∷ drop v links) (sym (add-one i))
      ∙ sym (drop_more links i (0, 0) (omega arith))

  back : ren (whole (length K) (suc (sum K)) (λ v. get_or K v 0)) (links_from nodes 0 (length links)) ≡ links
  back = from 0 (length links) (omega arith)

  entry_touched : touched (links_from nodes 0 (length links)) ≡ reverse (down (length K))
  entry_touched =
      map_apart (whole (length K) (suc (sum K)) (λ v. get_or K v 0)) apart (touched (links_from nodes 0 (length links))) (reverse (down (length K)))
      (sym (touched_ren (whole (length K) (suc (sum K)) (λ v. get_or K v 0)) apart (links_from nodes 0 (length links))) ∙ ap touched back ∙ sym all_met
      ∙ sym (counted K (whole (length K) (suc (sum K)) (λ v. get_or K v 0)) (λ v l. whole_in (length K) (suc (sum K)) (λ v. get_or K v 0) v l)))

  -- both ends of every entered arc are entries
  pub entered_covers : Covers (down (length K)) (links_from nodes 0 (length links))
  entered_covers = covers_same (touched (links_from nodes 0 (length links))) (down (length K)) (links_from nodes 0 (length links)) (λ y. ap (λ l. has l y) entry_touched ∙ has_reverse (down (length K)) y) (touched_covers (links_from nodes 0 (length links)))

  folded_run : folded_order (links_from nodes 0 (length links)) ≡ run (links_from nodes 0 (length links)) (length K) (down (length K))
  unfolding folded_order
  folded_run = ap (λ l. run (links_from nodes 0 (length links)) (length l) (reverse l)) entry_touched
      ∙ ap (λ n. run (links_from nodes 0 (length links)) n (reverse (reverse (down (length K))))) (length-reverse (down (length K)) ∙ length_down (length K))
      ∙ ap (run (links_from nodes 0 (length links)) (length K)) (reverse-reverse (down (length K)))

  greedy_run : Greedy (links_from nodes 0 (length links)) (down (length K)) (run (links_from nodes 0 (length links)) (length K) (down (length K)))
  greedy_run = run_greedy (links_from nodes 0 (length links)) (length K) (down (length K)) (once_down (length K)) (length_down (length K))

  pub run_length : length (run (links_from nodes 0 (length links)) (length K) (down (length K))) ≡ length K
  run_length = greedy_length greedy_run (once_down (length K)) ∙ length_down (length K)

  pub run_below : (y : ℕ) → has (run (links_from nodes 0 (length links)) (length K) (down (length K))) y ≡ true → y < length K
  run_below y h = down_below (length K) y (sym (greedy_has greedy_run y) ∙ h)

  -- the order of the entries, by the nodes that they stand for
  pub order_named : map (λ v. get_or K v 0) (run (links_from nodes 0 (length links)) (length K) (down (length K))) ≡ greedy_order links
  order_named =
      map_same (λ v. get_or K v 0) (whole (length K) (suc (sum K)) (λ v. get_or K v 0)) (run (links_from nodes 0 (length links)) (length K) (down (length K))) (λ y h. sym (whole_in (length K) (suc (sum K)) (λ v. get_or K v 0) y (run_below y h)))
      ∙ ap (map (whole (length K) (suc (sum K)) (λ v. get_or K v 0))) (sym (rounds_are_folded (links_from nodes 0 (length links)) ∙ folded_run))
      ∙ sym (greedy_ren (whole (length K) (suc (sum K)) (λ v. get_or K v 0)) apart (links_from nodes 0 (length links)))
      ∙ ap greedy_order back
