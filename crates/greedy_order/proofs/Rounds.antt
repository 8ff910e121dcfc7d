-- The rounds make the order of the folded form.
-- Of a progress, head half, folded order of the untaken nodes and tail half together do not change from taking to taking.
use Rattle.std.proofs.Common.{◌≡◌, ℕ, zero, suc, ◌+◌, ◌-◌, ◌≤◌, Bool, true, false, cond, not, ◌&&◌, eqb, List, [], ◌∷◌, ◌++◌, reverse, length, sym, refl, ap, ◌∙◌, subst, ⊎_elim, append_assoc, append-nil, arith}
use mathlib.Core.Option.{none, some}
use Rattle.std.proofs.lemmas.List.{length-reverse}
use Rattle.std.proofs.lemmas.Bool.Decides.{nat_tests}
use Rattle.std.proofs.lemmas.Bool.{false≢true, true≢false, cases_Bool, cond-true, cond-false, eqb-true, ltb-true, ltb-false}
use Rattle.network.specs.Counting.{one, count, keep, has, without, EachOnce}
use Rattle.network.specs.Network.{Link, touched, from_to}
use Rattle.network.proofs.Sums.{has_head, has_tail, has_without, count_none, none_count, once_reverse}
use Rattle.network.proofs.Touched.{touched_once}
use Rattle.greedy_order.specs.Part1Degrees.{out_degree, in_degree}
use Rattle.greedy_order.specs.Part2Greedy.{NoSink, NoSource, Highest}
use Rattle.greedy_order.specs.Part3Order.{is_sink, is_source, has_difference, below, is_highest, sinks, source_nodes, highest_class, after_taking, Progress, to_head, to_tail, take_front, take_sinks, take_sources, all_sinks, all_sources, one_highest, round, rounds, start, greedy_order}
use Rattle.greedy_order.specs.Part7Folded.{first, best_of, chosen, choose, put, run, folded_order}
use Rattle.greedy_order.proofs.Steps.{step_out}
use Rattle.greedy_order.proofs.Folded.{taking_kept, length_taking, same_out, first_some, top}

-- ---- classes and the first node of a class

keep_first : (test : ℕ → Bool) (us : List ℕ) (x : ℕ) (class : List ℕ) → keep test us ≡ x ∷ class → first test us ≡ some x
keep_first test [] x class e = absurd (let z : ◌≡◌ {A = ℕ} 0 1 = cc in omega arith)
keep_first test (u ∷ us) x class e = go (test u) (keep_first test us x class) e
  where
    go : (b : Bool) → (keep test us ≡ x ∷ class → first test us ≡ some x) → cond b (u ∷ keep test us) (keep test us) ≡ x ∷ class → cond b (some u) (first test us) ≡ some x
    go true ih f = let q : u ≡ x = cc in ap some q
    go false ih f = ih f

keep_empty : (test : ℕ → Bool) (us : List ℕ) → keep test us ≡ [] → (y : ℕ) → has us y ≡ true → test y ≡ false
keep_empty test [] e y m = absurd (false≢true m)
keep_empty test (u ∷ us) e y m = go (test u) refl (keep_empty test us) e
  where
    go : (b : Bool) → test u ≡ b → (keep test us ≡ [] → (y : ℕ) → has us y ≡ true → test y ≡ false) → cond b (u ∷ keep test us) (keep test us) ≡ [] → test y ≡ false
    go true t ih f = absurd (let z : ◌≡◌ {A = ℕ} 0 1 = cc in omega arith)
    go false t ih f = ⊎_elim (λ (q : eqb u y ≡ true). let s : u ≡ y = eqb-true u y q in rw (← s) t) (λ (q : eqb u y ≡ false). ih f y (let k = m in grind arith)) (cases_Bool (eqb u y))

none_first : (test : ℕ → Bool) (us : List ℕ) → ((y : ℕ) → has us y ≡ true → test y ≡ false) → first test us ≡ none
none_first test [] h = refl
none_first test (u ∷ us) h = cond-false (test u) (some u) (first test us) (h u (has_head u us)) ∙ none_first test us (λ y m. h y (has_tail u us y m))

first_same : (p q : ℕ → Bool) (us : List ℕ) → ((y : ℕ) → has us y ≡ true → p y ≡ q y) → first p us ≡ first q us
first_same p q [] h = refl
first_same p q (u ∷ us) h = let ih = first_same p q us (λ y m. h y (has_tail u us y m)) in let e = h u (has_head u us) in cc

some_out : (n : ℕ) → eqb n 0 ≡ false → 1 ≤ n
some_out n e = grind (arith, nat_tests)

no_out : (n : ℕ) → 1 ≤ n → eqb n 0 ≡ false
no_out n h = grind (arith, nat_tests)

-- ---- one taking in the folded form

run_more : (arcs : List Link) (u : ℕ) (vs : List ℕ) (b : Bool) (x : ℕ) → EachOnce (u ∷ vs) → has (u ∷ vs) x ≡ true → choose arcs u vs ≡ (b, x)
    → run arcs (length (u ∷ vs)) (u ∷ vs) ≡ put (b, x) (run arcs (length (after_taking arcs x (u ∷ vs))) (after_taking arcs x (u ∷ vs)))
run_more arcs u vs b x h m e =
    let l : length vs ≡ length (after_taking arcs x (u ∷ vs)) = let q = length_taking arcs x (u ∷ vs) h m in omega arith in
    ap (λ c. put c (run arcs (length vs) (after_taking arcs c.1 (u ∷ vs)))) e ∙ ap (λ n. put (b, x) (run arcs n (after_taking arcs x (u ∷ vs)))) l

choose_sink : (arcs : List Link) (u : ℕ) (vs : List ℕ) (x : ℕ) → first (is_sink arcs (u ∷ vs)) (u ∷ vs) ≡ some x → choose arcs u vs ≡ (true, x)
unfolding choose
choose_sink arcs u vs x e = let us = u ∷ vs in ap (λ o. chosen arcs us u vs o (first (λ y. eqb (in_degree arcs us y) 0) us)) e

no_first_sink : (arcs : List Link) (us : List ℕ) → NoSink arcs us → first (is_sink arcs us) us ≡ none
no_first_sink arcs us ns = none_first (is_sink arcs us) us (λ y m. no_out (out_degree arcs us y) (ns y m))

choose_source : (arcs : List Link) (u : ℕ) (vs : List ℕ) (x : ℕ) → NoSink arcs (u ∷ vs) → first (λ y. eqb (in_degree arcs (u ∷ vs) y) 0) (u ∷ vs) ≡ some x → choose arcs u vs ≡ (false, x)
unfolding choose
choose_source arcs u vs x ns e =
    let us = u ∷ vs in
    ap (λ o. chosen arcs us u vs o (first (λ y. eqb (in_degree arcs us y) 0) us)) (no_first_sink arcs us ns) ∙ ap (λ o. chosen arcs us u vs none o) e

choose_best : (arcs : List Link) (u : ℕ) (vs : List ℕ) (x : ℕ) → NoSink arcs (u ∷ vs) → NoSource arcs (u ∷ vs) → best_of arcs (u ∷ vs) u vs ≡ x → choose arcs u vs ≡ (false, x)
unfolding choose
choose_best arcs u vs x ns nt e =
    let us = u ∷ vs in
    let f = none_first (λ y. eqb (in_degree arcs us y) 0) us (λ y m. no_out (in_degree arcs us y) (nt y m)) in
    ap (λ o. chosen arcs us u vs o (first (λ y. eqb (in_degree arcs us y) 0) us)) (no_first_sink arcs us ns) ∙ ap (λ o. chosen arcs us u vs none o) f ∙ ap (λ y. (false, y)) e

-- ---- the highest class

test_highest : (o i n : ℕ) → 1 ≤ o → 1 ≤ i → ((not (eqb o 0) && not (eqb i 0)) && eqb n 0) ≡ eqb n 0
test_highest o i n h k = grind (arith, nat_tests)

test_above : (o i : ℕ) (b : Bool) → 1 ≤ o → 1 ≤ i → ((not (eqb o 0) && not (eqb i 0)) && b) ≡ b
test_above o i b h k = grind (arith, nat_tests)

module _ (arcs : List Link) (us : List ℕ) (ns : NoSink arcs us) (nt : NoSource arcs us) where
  highest_is : (x : ℕ) → has us x ≡ true → is_highest arcs us x ≡ true → Highest arcs us x
  highest_is x m e y k =
      let z : count (λ y. has_difference arcs us y && below arcs us x y) us ≡ 0 = eqb-true _ 0 (sym (test_highest (out_degree arcs us x) (in_degree arcs us x) (count (λ y. has_difference arcs us y && below arcs us x y) us) (ns x m) (nt x m)) ∙ e) in
      let f = count_none (λ y. has_difference arcs us y && below arcs us x y) us z y k in
      let g = sym (test_above (out_degree arcs us y) (in_degree arcs us y) (below arcs us x y) (ns y k) (nt y k)) ∙ f in
      ltb-false (out_degree arcs us x + in_degree arcs us y) (out_degree arcs us y + in_degree arcs us x) g

  highest_is_highest : (x : ℕ) → has us x ≡ true → Highest arcs us x → is_highest arcs us x ≡ true
  highest_is_highest x m high =
      let none_above : (y : ℕ) → has us y ≡ true → (has_difference arcs us y && below arcs us x y) ≡ false = λ y k. let l = high y k in grind (arith, nat_tests) in
      let z = none_count (λ y. has_difference arcs us y && below arcs us x y) us none_above in
      test_highest (out_degree arcs us x) (in_degree arcs us x) (count (λ y. has_difference arcs us y && below arcs us x y) us) (ns x m) (nt x m) ∙ ap (λ n. eqb n 0) z

  -- scanning for a higher difference ends at the first node of the highest class
  best_first : (u : ℕ) (vs : List ℕ) (x : ℕ) → ((y : ℕ) → has (u ∷ vs) y ≡ true → has us y ≡ true) → first (is_highest arcs us) (u ∷ vs) ≡ some x → best_of arcs us u vs ≡ x
  best_first u [] x inn e = go (is_highest arcs us u) e
    where
      go : (b : Bool) → cond b (some u) none ≡ some x → u ≡ x
      go true f = cc
      go false f = absurd (let z : ◌≡◌ {A = ℕ} 0 1 = cc in omega arith)
  best_first u (v ∷ vs) x inn e =
      ⊎_elim
      (λ (t : below arcs us u v ≡ true). ap (λ z. best_of arcs us z vs) (cond-true _ v u t) ∙ best_first v vs x (λ y k. inn y (has_tail u (v ∷ vs) y k)) (passed t (is_highest arcs us u) refl e))
      (λ (t : below arcs us u v ≡ false). ap (λ z. best_of arcs us z vs) (cond-false _ v u t) ∙ best_first u vs x (λ y k. inn y (let q = k in grind arith)) (kept t (is_highest arcs us u) (is_highest arcs us v) refl refl e))
      (cases_Bool (below arcs us u v))
    where
      hu : has us u ≡ true
      hu = inn u (has_head u (v ∷ vs))

      hv : has us v ≡ true
      hv = inn v (has_tail u (v ∷ vs) v (has_head v vs))

      passed : below arcs us u v ≡ true → (b : Bool) → is_highest arcs us u ≡ b → cond b (some u) (first (is_highest arcs us) (v ∷ vs)) ≡ some x → first (is_highest arcs us) (v ∷ vs) ≡ some x
      passed t true q f = absurd (let l = highest_is u hu q v hv in let g = ltb-true (out_degree arcs us u + in_degree arcs us v) (out_degree arcs us v + in_degree arcs us u) t in omega arith)
      passed t false q f = f

      kept : below arcs us u v ≡ false → (b d : Bool) → is_highest arcs us u ≡ b → is_highest arcs us v ≡ d → cond b (some u) (cond d (some v) (first (is_highest arcs us) vs)) ≡ some x → cond b (some u) (first (is_highest arcs us) vs) ≡ some x
      kept t true d q r f = f
      kept t false true q r f =
          let l = ltb-false (out_degree arcs us u + in_degree arcs us v) (out_degree arcs us v + in_degree arcs us u) t in
          let high = highest_is v hv r in
          let w = highest_is_highest u hu (λ y k. let a = high y k in omega arith) in
          absurd (true≢false (sym w ∙ q))
      kept t false false q r f = f

-- ---- takings

-- the order that a progress comes to
abbrev pub whole : List Link → Progress → List ℕ
whole arcs p = p.head ++ (run arcs (length p.untaken) p.untaken ++ p.tail)

-- the takings that lead from p to q
record Leads (arcs : List Link) (p q : Progress) : Type 0 where
  pub comes : whole arcs q ≡ whole arcs p
  pub once : EachOnce q.untaken
  pub fewer : length q.untaken ≤ length p.untaken

stays : (arcs : List Link) (p : Progress) → EachOnce p.untaken → Leads arcs p p
stays arcs p h = record { comes = refl; once = h; fewer = omega arith }

on : (arcs : List Link) (p q r : Progress) → Leads arcs p q → Leads arcs q r → Leads arcs p r
on arcs p q r a b = record { comes = b.comes ∙ a.comes; once = b.once; fewer = let k = a.fewer in let l = b.fewer in omega arith }

-- x is chosen to go behind the rest
taken_back : (arcs : List Link) (us head tail : List ℕ) (x : ℕ) → EachOnce us → has us x ≡ true → ((u : ℕ) (vs : List ℕ) → us ≡ u ∷ vs → choose arcs u vs ≡ (true, x))
    → head ++ (run arcs (length (after_taking arcs x us)) (after_taking arcs x us) ++ (x ∷ tail)) ≡ head ++ (run arcs (length us) us ++ tail)
taken_back arcs [] head tail x h m e = absurd (false≢true m)
taken_back arcs (u ∷ vs) head tail x h m e =
    let us = u ∷ vs in
    let R = run arcs (length (after_taking arcs x (u ∷ vs))) (after_taking arcs x (u ∷ vs)) in
    ap (λ z. head ++ z) (sym (append_assoc R (x ∷ []) tail)) ∙ ap (λ z. head ++ (z ++ tail)) (sym (run_more arcs u vs true x h m (e u vs refl)))

-- x is chosen to go before the rest
taken_front : (arcs : List Link) (us head tail : List ℕ) (x : ℕ) → EachOnce us → has us x ≡ true → ((u : ℕ) (vs : List ℕ) → us ≡ u ∷ vs → choose arcs u vs ≡ (false, x))
    → (head ++ (x ∷ [])) ++ (run arcs (length (after_taking arcs x us)) (after_taking arcs x us) ++ tail) ≡ head ++ (run arcs (length us) us ++ tail)
taken_front arcs [] head tail x h m e = absurd (false≢true m)
taken_front arcs (u ∷ vs) head tail x h m e =
    let R = run arcs (length (after_taking arcs x (u ∷ vs))) (after_taking arcs x (u ∷ vs)) in
    append_assoc head (x ∷ []) (R ++ tail) ∙ ap (λ z. head ++ (z ++ tail)) (sym (run_more arcs u vs false x h m (e u vs refl)))

-- ---- all sinks

sink_leads : (arcs : List Link) (p : Progress) (x : ℕ) (class : List ℕ) → EachOnce p.untaken → sinks arcs p.untaken ≡ x ∷ class → Leads arcs p (to_tail arcs x p)
sink_leads arcs p x class h e =
    let us = p.untaken in
    let f = keep_first (is_sink arcs us) us x class e in
    let k = first_some (is_sink arcs us) us x f in
    record {
      comes = taken_back arcs us p.head p.tail x h k.0 (λ u vs q. choose_sink arcs u vs x (subst (λ ws. first (is_sink arcs ws) ws ≡ some x) q f));
      once = (taking_kept arcs x us h).once;
      fewer = let l = length_taking arcs x us h k.0 in omega arith;
    }

sinks_end : (arcs : List Link) (n : ℕ) (p : Progress) → sinks arcs p.untaken ≡ [] → take_sinks arcs n p ≡ p
sinks_end arcs zero p e = refl
sinks_end arcs (suc n) p e = ap (λ class. take_sinks arcs n (take_front (to_tail arcs) class p)) e ∙ sinks_end arcs n p e

-- no node is left
none_left : (us : List ℕ) → length us ≤ 0 → (y : ℕ) → has us y ≡ true → ⊥
none_left [] l y m = false≢true m
none_left (u ∷ us) l y m = omega arith

abbrev AfterSinks : List Link → Progress → Progress → Type 0
AfterSinks arcs p q = Leads arcs p q × NoSink arcs q.untaken

sinks_lead : (arcs : List Link) (n : ℕ) (p : Progress) → EachOnce p.untaken → length p.untaken ≤ n → AfterSinks arcs p (take_sinks arcs n p)
sinks_lead arcs zero p h l = (stays arcs p h, λ y m. absurd (none_left p.untaken l y m))
sinks_lead arcs (suc n) p h l = go (λ q. sinks_lead arcs n q) (sinks arcs p.untaken) refl
  where
    go : ((q : Progress) → EachOnce q.untaken → length q.untaken ≤ n → AfterSinks arcs q (take_sinks arcs n q))
        → (class : List ℕ) → sinks arcs p.untaken ≡ class → AfterSinks arcs p (take_sinks arcs n (take_front (to_tail arcs) class p))
    go ih [] e =
        let ns : NoSink arcs p.untaken = λ y m. some_out (out_degree arcs p.untaken y) (keep_empty (is_sink arcs p.untaken) p.untaken e y m) in
        subst (AfterSinks arcs p) (sym (sinks_end arcs n p e)) (stays arcs p h, ns)
    go ih (x ∷ class) e =
        let a = sink_leads arcs p x class h e in
        let k = first_some (is_sink arcs p.untaken) p.untaken x (keep_first (is_sink arcs p.untaken) p.untaken x class e) in
        let q = to_tail arcs x p in
        let r = ih q a.once (let s = length_taking arcs x p.untaken h k.0 in omega arith) in
        (on arcs p q (take_sinks arcs n q) a r.0, r.1)

-- ---- all source nodes

test_source : (o i : ℕ) → 1 ≤ o → (not (eqb o 0) && eqb i 0) ≡ eqb i 0
test_source o i h = grind (arith, nat_tests)

source_is_source : (arcs : List Link) (us : List ℕ) → NoSink arcs us → (y : ℕ) → has us y ≡ true → is_source arcs us y ≡ eqb (in_degree arcs us y) 0
source_is_source arcs us ns y m = test_source (out_degree arcs us y) (in_degree arcs us y) (ns y m)

from_in : (arcs : List Link) (us : List ℕ) (x y : ℕ) → has us y ≡ true → from_to arcs y x ≤ in_degree arcs us x
unfolding from_to in_degree
from_in [] us x y h = omega arith
from_in (a ∷ arcs) us x y h = let ih = from_in arcs us x y h in let t = at_arc a.0 a.1 in omega arith
  where
    at_arc : (s t : ℕ) → one (eqb s y && eqb t x) ≤ one (eqb t x && has us s)
    at_arc s t = ⊎_elim
        (λ (e : eqb s y ≡ true). let q : has us s ≡ true = ap (has us) (eqb-true s y e) ∙ h in grind arith)
        (λ (e : eqb s y ≡ false). let q : one (eqb s y && eqb t x) ≡ 0 = ap (λ b. one (b && eqb t x)) e in omega arith)
        (cases_Bool (eqb s y))

-- no arc leads to a source node, so taking it makes no sink
source_no_sink : (arcs : List Link) (us : List ℕ) (x : ℕ) → EachOnce us → has us x ≡ true → in_degree arcs us x ≡ 0 → NoSink arcs us → NoSink arcs (after_taking arcs x us)
source_no_sink arcs us x h m z ns y k =
    let s = (taking_kept arcs x us h).same in
    let l : has (without x us) y ≡ true = s y ∙ k in
    let at : has us y ≡ true = let w = has_without x us y in grind arith in
    let a = step_out arcs us x y m in
    let b = from_in arcs us x y at in
    let c = same_out arcs (without x us) (after_taking arcs x us) s y in
    let d = ns y at in
    omega arith

source_leads : (arcs : List Link) (p : Progress) (x : ℕ) → EachOnce p.untaken → NoSink arcs p.untaken → first (λ y. eqb (in_degree arcs p.untaken y) 0) p.untaken ≡ some x → Leads arcs p (to_head arcs x p)
source_leads arcs p x h ns f =
    let us = p.untaken in
    let k = first_some (λ y. eqb (in_degree arcs us y) 0) us x f in
    record {
      comes = taken_front arcs us p.head p.tail x h k.0 (λ u vs q. choose_source arcs u vs x (subst (NoSink arcs) q ns) (subst (λ ws. first (λ y. eqb (in_degree arcs ws y) 0) ws ≡ some x) q f));
      once = (taking_kept arcs x us h).once;
      fewer = let l = length_taking arcs x us h k.0 in omega arith;
    }

sources_end : (arcs : List Link) (n : ℕ) (p : Progress) → source_nodes arcs p.untaken ≡ [] → take_sources arcs n p ≡ p
sources_end arcs zero p e = refl
sources_end arcs (suc n) p e = ap (λ class. take_sources arcs n (take_front (to_head arcs) class p)) e ∙ sources_end arcs n p e

abbrev AfterSources : List Link → Progress → Progress → Type 0
AfterSources arcs p q = Leads arcs p q × NoSink arcs q.untaken × NoSource arcs q.untaken

sources_lead : (arcs : List Link) (n : ℕ) (p : Progress) → EachOnce p.untaken → NoSink arcs p.untaken → length p.untaken ≤ n → AfterSources arcs p (take_sources arcs n p)
sources_lead arcs zero p h ns l = (stays arcs p h, ns, λ y m. absurd (none_left p.untaken l y m))
sources_lead arcs (suc n) p h ns l = go (λ q. sources_lead arcs n q) (source_nodes arcs p.untaken) refl
  where
    go : ((q : Progress) → EachOnce q.untaken → NoSink arcs q.untaken → length q.untaken ≤ n → AfterSources arcs q (take_sources arcs n q))
        → (class : List ℕ) → source_nodes arcs p.untaken ≡ class → AfterSources arcs p (take_sources arcs n (take_front (to_head arcs) class p))
    go ih [] e =
        let nt : NoSource arcs p.untaken = λ y m. some_out (in_degree arcs p.untaken y) (sym (source_is_source arcs p.untaken ns y m) ∙ keep_empty (is_source arcs p.untaken) p.untaken e y m) in
        subst (AfterSources arcs p) (sym (sources_end arcs n p e)) (stays arcs p h, ns, nt)
    go ih (x ∷ class) e =
        let us = p.untaken in
        let f = sym (first_same (is_source arcs us) (λ y. eqb (in_degree arcs us y) 0) us (source_is_source arcs us ns)) ∙ keep_first (is_source arcs us) us x class e in
        let k = first_some (λ y. eqb (in_degree arcs us y) 0) us x f in
        let a = source_leads arcs p x h ns f in
        let q = to_head arcs x p in
        let s = source_no_sink arcs us x h k.0 (eqb-true (in_degree arcs us x) 0 k.1) ns in
        let r = ih q a.once s (let t = length_taking arcs x us h k.0 in omega arith) in
        (on arcs p q (take_sources arcs n q) a r.0, r.1, r.2)

-- ---- one of the highest class

highest_leads : (arcs : List Link) (p : Progress) (x : ℕ) → EachOnce p.untaken → NoSink arcs p.untaken → NoSource arcs p.untaken → first (is_highest arcs p.untaken) p.untaken ≡ some x → Leads arcs p (to_head arcs x p)
highest_leads arcs p x h ns nt f =
    let us = p.untaken in
    let k = first_some (is_highest arcs us) us x f in
    record {
      comes = taken_front arcs us p.head p.tail x h k.0 (λ u vs q. let ns' = subst (NoSink arcs) q ns in let nt' = subst (NoSource arcs) q nt in choose_best arcs u vs x ns' nt' (best_first arcs (u ∷ vs) ns' nt' u vs x (λ y m. m) (subst (λ ws. first (is_highest arcs ws) ws ≡ some x) q f)));
      once = (taking_kept arcs x us h).once;
      fewer = let l = length_taking arcs x us h k.0 in omega arith;
    }

-- where a node is left, the highest class has a member
some_highest : (arcs : List Link) (us : List ℕ) → NoSink arcs us → NoSource arcs us → highest_class arcs us ≡ [] → us ≡ []
some_highest arcs [] ns nt e = refl
some_highest arcs (u ∷ vs) ns nt e =
    let us = u ∷ vs in
    let r : ℕ = best_of arcs (u ∷ vs) u vs in
    let t = top arcs us u vs in
    absurd (true≢false (sym (highest_is_highest arcs us ns nt r t.here t.most) ∙ keep_empty (is_highest arcs us) us e r t.here))

highest_lead : (arcs : List Link) (p : Progress) → EachOnce p.untaken → NoSink arcs p.untaken → NoSource arcs p.untaken → Leads arcs p (one_highest arcs p) × (length (one_highest arcs p).untaken ≤ length p.untaken - 1)
highest_lead arcs p h ns nt = go (highest_class arcs p.untaken) refl
  where
    go : (class : List ℕ) → highest_class arcs p.untaken ≡ class → Leads arcs p (take_front (to_head arcs) class p) × (length (take_front (to_head arcs) class p).untaken ≤ length p.untaken - 1)
    go [] e = (stays arcs p h, let z : length p.untaken ≡ 0 = ap length (some_highest arcs p.untaken ns nt e) in omega arith)
    go (x ∷ class) e =
        let us = p.untaken in
        let f = keep_first (is_highest arcs us) us x class e in
        let k = first_some (is_highest arcs us) us x f in
        (highest_leads arcs p x h ns nt f, let t = length_taking arcs x us h k.0 in omega arith)

-- ---- rounds

round_leads : (arcs : List Link) (p : Progress) → EachOnce p.untaken → Leads arcs p (round arcs p) × (length (round arcs p).untaken ≤ length p.untaken - 1)
round_leads arcs p h =
    let q = all_sinks arcs p in
    let r = all_sources arcs q in
    let a = sinks_lead arcs (length p.untaken) p h (omega arith) in
    let b = sources_lead arcs (length q.untaken) q a.0.once a.1 (omega arith) in
    let c = highest_lead arcs r b.0.once b.1 b.2 in
    (on arcs p r (one_highest arcs r) (on arcs p q r a.0 b.0) c.0, let k = a.0.fewer in let l = b.0.fewer in let m = c.1 in omega arith)

rounds_lead : (arcs : List Link) (n : ℕ) (p : Progress) → EachOnce p.untaken → Leads arcs p (rounds arcs n p) × (length (rounds arcs n p).untaken ≤ length p.untaken - n)
rounds_lead arcs zero p h = (stays arcs p h, omega arith)
rounds_lead arcs (suc n) p h =
    let a = round_leads arcs p h in
    let b = rounds_lead arcs n (round arcs p) a.0.once in
    (on arcs p (round arcs p) (rounds arcs n (round arcs p)) a.0 b.0, let k = a.1 in let l = b.1 in omega arith)

all_taken : (arcs : List Link) (us head tail : List ℕ) → length us ≤ 0 → head ++ tail ≡ head ++ (run arcs (length us) us ++ tail)
all_taken arcs [] head tail l = refl
all_taken arcs (u ∷ us) head tail l = absurd (omega arith)

pub rounds_are_folded : (arcs : List Link) → greedy_order arcs ≡ folded_order arcs
unfolding greedy_order folded_order
rounds_are_folded arcs =
    let us = touched arcs in
    let e = length-reverse us in
    let q = rounds arcs (length us) (start arcs) in
    let a = rounds_lead arcs (length us) (start arcs) (once_reverse us (touched_once arcs)) in
    let l : length q.untaken ≤ 0 = let k = a.1 in omega arith in
    all_taken arcs q.untaken q.head q.tail l ∙ a.0.comes ∙ append-nil (run arcs (length (reverse us)) (reverse us)) ∙ ap (λ n. run arcs n (reverse us)) e
