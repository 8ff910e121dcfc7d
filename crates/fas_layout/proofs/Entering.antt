-- The nodes are entered in order of first sight, and the order of the entries is that of the nodes.
use Rattle.std.proofs.Common.{◌≡◌, ℕ, zero, suc, ◌+◌, ◌*◌, ◌<◌, ◌≤◌, true, false, ◌≢◌, List, [], ◌∷◌, ◌++◌, length, get_or, take, set, sym, refl, ap, ◌∙◌, subst, ⊎_elim, arith}
use Rattle.std.proofs.lemmas.List.{length-set, length-append, get_or-set_same, get_or-set_other, get_or_append_left, get_or_at, take_more, take_all}
use Rattle.std.proofs.lemmas.Bool.{cases_eq, cond-true, cond-false, cond_both, false≢true}
use Rattle.network.specs.Counting.{has, EachOnce}
use Rattle.network.specs.Network.{Link, meet, meet_all, touched}
use Rattle.network.proofs.Sums.{has_head, has_tail}
use Rattle.fas_layout.specs.Laying.{link_at, Names, Entered}

-- ---- one node is met
pub meet_known : (x : ℕ) (met : List ℕ) → has met x ≡ true → meet x met ≡ met
meet_known x met h = cond-true (has met x) met (met ++ (x ∷ [])) h

pub meet_new : (x : ℕ) (met : List ℕ) → has met x ≡ false → meet x met ≡ met ++ (x ∷ [])
meet_new x met h = cond-false (has met x) met (met ++ (x ∷ [])) h

pub names_meet : (x : ℕ) (met : List ℕ) (e y : ℕ) → Names met e y → Names (meet x met) e y
names_meet x met e y n = cond_both (has met x) met (met ++ (x ∷ [])) (λ l. Names l e y) (λ _. n)
    (λ _. (let l = length-append met (x ∷ []) in let a = n.0 in omega arith, get_or_append_left met (x ∷ []) 0 e n.0 ∙ n.1))

pub names_new : (x : ℕ) (met : List ℕ) → has met x ≡ false → Names (meet x met) (length met) x
names_new x met h = rw (meet_new x met h) (let l = length-append met (x ∷ []) in omega arith, get_or_at met x [] 0 (length met) refl)

pub meet_grows : (x : ℕ) (met : List ℕ) → length met ≤ length (meet x met)
meet_grows x met = cond_both (has met x) met (met ++ (x ∷ [])) (λ l. length met ≤ length l) (λ _. omega arith) (λ _. let l = length-append met (x ∷ []) in omega arith)

all_grow : (links : List Link) (met : List ℕ) → length met ≤ length (meet_all links met)
all_grow [] met = omega arith
all_grow (a ∷ links) met = let p = meet_grows a.0 met in let q = meet_grows a.1 (meet a.0 met) in let r = all_grow links (meet a.1 (meet a.0 met)) in omega arith

all_append : (xs ys : List Link) (met : List ℕ) → meet_all (xs ++ ys) met ≡ meet_all ys (meet_all xs met)
all_append [] ys met = refl
all_append (a ∷ xs) ys met = all_append xs ys (meet a.1 (meet a.0 met))

pub met_more : (links : List Link) (i : ℕ) → i < length links → meet_all (take (i + 1) links) [] ≡ meet (get_or links i (0, 0)).1 (meet (get_or links i (0, 0)).0 (meet_all (take i links) []))
met_more links i l = ap (λ z. meet_all z []) (take_more links i (0, 0) l) ∙ all_append (take i links) (get_or links i (0, 0) ∷ []) []

pub met_all : (links : List Link) (i : ℕ) → length links ≤ i → meet_all (take i links) [] ≡ touched links
unfolding touched
met_all links i l = ap (λ z. meet_all z []) (take_all i links l)

few_met : (ls : List Link) (j : ℕ) (met : List ℕ) → j < length ls → length (meet (get_or ls j (0, 0)).1 (meet (get_or ls j (0, 0)).0 (meet_all (take j ls) met))) ≤ length (meet_all ls met)
few_met [] j met l = absurd (omega arith)
few_met (a ∷ ls) zero met l = all_grow ls (meet a.1 (meet a.0 met))
few_met (a ∷ ls) (suc j) met l = few_met ls j (meet a.1 (meet a.0 met)) (omega arith)

-- the nodes met with the next arc, and with its source alone, are no more than the touched nodes
pub met_target_few : (links : List Link) (i : ℕ) → i < length links → length (meet (get_or links i (0, 0)).1 (meet (get_or links i (0, 0)).0 (meet_all (take i links) []))) ≤ length (touched links)
unfolding touched
met_target_few links i l = few_met links i [] l

pub met_source_few : (links : List Link) (i : ℕ) → i < length links → length (meet (get_or links i (0, 0)).0 (meet_all (take i links) [])) ≤ length (touched links)
met_source_few links i l = let a = met_target_few links i l in let b = meet_grows (get_or links i (0, 0)).1 (meet (get_or links i (0, 0)).0 (meet_all (take i links) [])) in omega arith

-- ---- the arcs are entered one after the other
pub entered_none : (links : List Link) (nodes : List ℕ) → Entered links 0 [] nodes
entered_none links nodes = record { nodes_met = refl; ends = λ j l. absurd (omega arith) }

pub entered_more : (links : List Link) (i : ℕ) (met met1 met2 nodes nodes' : List ℕ) (s t : ℕ) → i < length links → 2 * i + 1 < length nodes
    → met1 ≡ meet (get_or links i (0, 0)).0 met → Names met1 s (get_or links i (0, 0)).0
    → met2 ≡ meet (get_or links i (0, 0)).1 met1 → Names met2 t (get_or links i (0, 0)).1
    → nodes' ≡ set (set nodes (2 * i) t) (2 * i + 1) s
    → Entered links i met nodes → Entered links (i + 1) met2 nodes'
entered_more links i met met1 met2 nodes nodes' s t l r m1 ns m2 nt put e = record {
  nodes_met = m2 ∙ ap (meet (get_or links i (0, 0)).1) (m1 ∙ ap (meet (get_or links i (0, 0)).0) e.nodes_met) ∙ sym (met_more links i l);
  ends = λ j b. ⊎_elim
      (λ (q : j ≡ i). subst (λ v. Names met2 (link_at nodes' v).0 (get_or links v (0, 0)).0 × Names met2 (link_at nodes' v).1 (get_or links v (0, 0)).1) (sym q)
      (rw (at_source, at_target) (still (get_or links i (0, 0)).1 met1 met2 s (get_or links i (0, 0)).0 m2 ns, nt)))
      (λ (q : j ≢ i).
      let o = e.ends j (omega arith) in
      rw (old_source j (omega arith), old_target j (omega arith)) (later j (link_at nodes j).0 (get_or links j (0, 0)).0 o.0, later j (link_at nodes j).1 (get_or links j (0, 0)).1 o.1))
      (cases_eq j i);
}
  where
    still : (x : ℕ) (k k' : List ℕ) (v y : ℕ) → k' ≡ meet x k → Names k v y → Names k' v y
    still x k k' v y q n = subst (λ z. Names z v y) (sym q) (names_meet x k v y n)

    later : (j v y : ℕ) → Names met v y → Names met2 v y
    later j v y n = still (get_or links i (0, 0)).1 met1 met2 v y m2 (still (get_or links i (0, 0)).0 met met1 v y m1 n)

    long : length (set nodes (2 * i) t) ≡ length nodes
    long = length-set nodes (2 * i) t

    at_source : get_or nodes' (2 * i + 1) 0 ≡ s
    at_source = ap (λ z. get_or z (2 * i + 1) 0) put ∙ get_or-set_same (set nodes (2 * i) t) (2 * i + 1) s 0 (let k = long in omega arith)

    at_target : get_or nodes' (2 * i) 0 ≡ t
    at_target = ap (λ z. get_or z (2 * i) 0) put ∙ get_or-set_other (set nodes (2 * i) t) (2 * i + 1) (2 * i) s 0 (λ q. omega arith) ∙ get_or-set_same nodes (2 * i) t 0 (omega arith)

    other : (k : ℕ) → k < 2 * i → get_or nodes' k 0 ≡ get_or nodes k 0
    other k b = ap (λ z. get_or z k 0) put ∙ get_or-set_other (set nodes (2 * i) t) (2 * i + 1) k s 0 (λ q. omega arith) ∙ get_or-set_other nodes (2 * i) k t 0 (λ q. omega arith)

    old_source : (j : ℕ) → j < i → get_or nodes' (2 * j + 1) 0 ≡ get_or nodes (2 * j + 1) 0
    old_source j b = other (2 * j + 1) (omega arith)

    old_target : (j : ℕ) → j < i → get_or nodes' (2 * j) 0 ≡ get_or nodes (2 * j) 0
    old_target j b = other (2 * j) (omega arith)

-- ---- all arcs are entered: the entries stand for the touched nodes
pub sum : List ℕ → ℕ
sum [] = 0
sum (x ∷ xs) = x + sum xs

pub below_sum : (xs : List ℕ) (e : ℕ) → get_or xs e 0 < suc (sum xs)
unfolding sum
below_sum [] e = omega arith
below_sum (x ∷ xs) zero = omega arith
below_sum (x ∷ xs) (suc e) = let ih = below_sum xs e in omega arith

has_get_d : (xs : List ℕ) (e : ℕ) → e < length xs → has xs (get_or xs e 0) ≡ true
has_get_d [] e l = absurd (omega arith)
has_get_d (x ∷ xs) zero l = has_head x xs
has_get_d (x ∷ xs) (suc e) l = has_tail x xs (get_or xs e 0) (has_get_d xs e (omega arith))

pub once_at : (xs : List ℕ) → EachOnce xs → (e f : ℕ) → e < length xs → f < length xs → get_or xs e 0 ≡ get_or xs f 0 → e ≡ f
once_at [] h e f l r q = absurd (omega arith)
once_at (x ∷ xs) h zero zero l r q = refl
once_at (x ∷ xs) h zero (suc f) l r q = absurd (false≢true (sym h.0 ∙ ap (has xs) q ∙ has_get_d xs f (omega arith)))
once_at (x ∷ xs) h (suc e) zero l r q = absurd (false≢true (sym h.0 ∙ ap (has xs) (sym q) ∙ has_get_d xs e (omega arith)))
once_at (x ∷ xs) h (suc e) (suc f) l r q = ap suc (once_at xs h.1 e f (omega arith) (omega arith) q)
