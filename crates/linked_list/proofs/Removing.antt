-- What a removal, and a replacement, comes to for every list.
use Rattle.std.proofs.Common.{◌≡◌, ℕ, ◌<◌, true, false, not, ◌&&◌, eqb, ◌≢◌, List, [], ◌∷◌, length, set, Some, None, Option, sym, refl, ap, ◌∙◌, subst, ⊎_elim, arith}
use Rattle.std.proofs.lemmas.List.{length-set, get_or-set_same, get_or-set_other}
use Rattle.std.proofs.lemmas.Bool.{cases_Bool, both_ways, and_parts, and_from, not-true, not_from_false, or_cases, eqb-true}
use Rattle.linked_list.specs.Places.{Position, enlisted, is_in, prev_of, next_of, names, at}
use Rattle.linked_list.specs.Chains.{has, first, rest, spliced, without, replaced, Chain, Holds, Other, leads_to, points_back, can_remove, relinked, after_remove, start_after_remove, after_replace, moved}
use Rattle.linked_list.specs.Laws.{Becomes, OthersBecome, OthersStayIfListed, StatusStays}
use Rattle.linked_list.proofs.Members.{none_first, none_rest, none_cons, first_not, has_head, spliced_none}
use Rattle.linked_list.proofs.Reading.{in_range, named, not_named, names_some, names_none, relinked_length, relinked_in, relinked_other, relinked_left, relinked_right}
use Rattle.linked_list.proofs.Linking.{free_not_in, lists_apart}
use Rattle.linked_list.proofs.Splicing.{Between, Spliced, Fresh, every, every_other}

-- ---- when a removal is granted
in_parts : (p : Position) → is_in p ≡ true → p ≡ enlisted (prev_of p) (next_of p)
in_parts None e = cc
in_parts (Some p) e = refl

leads_lone : (L : List Position) (start : Option ℕ) (o : Option ℕ) (i : ℕ) → leads_to L start o i ≡ true → o ≡ None → start ≡ Some i
leads_lone L start None i h e = named start i h
leads_lone L start (Some p) i h e = cc

leads_far : (L : List Position) (start : Option ℕ) (o : Option ℕ) (i : ℕ) → leads_to L start o i ≡ true → (p : ℕ) → o ≡ Some p → (start ≡ Some i → ⊥) × (next_of (at L p) ≡ Some i)
leads_far L start None i h p e = cc
leads_far L start (Some q) i h p e =
    let a = and_parts (not (names start i)) (names (next_of (at L q)) i) h in
    let pq : q ≡ p = cc in
    (not_named start i (not-true (names start i) a.0), ap (λ k. next_of (at L k)) (sym pq) ∙ named (next_of (at L q)) i a.1)

back_is : (L : List Position) (o : Option ℕ) (i : ℕ) → points_back L o i ≡ true → (n : ℕ) → o ≡ Some n → prev_of (at L n) ≡ Some i
back_is L None i h n e = cc
back_is L (Some k) i h n e = let q : k ≡ n = cc in ap (λ w. prev_of (at L w)) (sym q) ∙ named (prev_of (at L k)) i h

pub between : (L : List Position) (start : Option ℕ) (i : ℕ) → can_remove L start i ≡ true → Between L start i (prev_of (at L i)) (next_of (at L i))
between L start i h =
    let a = and_parts (is_in (at L i)) (leads_to L start (prev_of (at L i)) i && points_back L (next_of (at L i)) i) h in
    let b = and_parts (leads_to L start (prev_of (at L i)) i) (points_back L (next_of (at L i)) i) a.1 in
    record {
      here = in_parts (at L i) a.0;
      lone = leads_lone L start (prev_of (at L i)) i b.0;
      far = λ p e. (leads_far L start (prev_of (at L i)) i b.0 p e).0;
      left = λ p e. (leads_far L start (prev_of (at L i)) i b.0 p e).1;
      right = back_is L (next_of (at L i)) i b.1;
    }

lead_from : (L : List Position) (start : Option ℕ) (o : Option ℕ) (i : ℕ) → (o ≡ None → start ≡ Some i) → ((p : ℕ) → o ≡ Some p → (start ≡ Some i → ⊥) × (next_of (at L p) ≡ Some i)) → leads_to L start o i ≡ true
lead_from L start None i f g = names_some start i (f refl)
lead_from L start (Some p) i f g = and_from (not (names start i)) (names (next_of (at L p)) i) (not_from_false (names start i) (names_none start i (g p refl).0)) (names_some (next_of (at L p)) i (g p refl).1)

back_from : (L : List Position) (o : Option ℕ) (i : ℕ) → ((n : ℕ) → o ≡ Some n → prev_of (at L n) ≡ Some i) → points_back L o i ≡ true
back_from L None i f = refl
back_from L (Some n) i f = names_some (prev_of (at L n)) i (f n refl)

pub can_of : (L : List Position) (start : Option ℕ) (i : ℕ) (p n : Option ℕ) → Between L start i p n → can_remove L start i ≡ true
can_of L start i p n b =
    let e = b.here in
    let pe : prev_of (at L i) ≡ p = ap prev_of e in
    let ne : next_of (at L i) ≡ n = ap next_of e in
    and_from (is_in (at L i)) (leads_to L start (prev_of (at L i)) i && points_back L (next_of (at L i)) i) (ap is_in e)
    (and_from (leads_to L start (prev_of (at L i)) i) (points_back L (next_of (at L i)) i)
    (ap (λ k. leads_to L start k i) pe ∙ lead_from L start p i b.lone (λ q h. (b.far q h, b.left q h)))
    (ap (λ k. points_back L k i) ne ∙ back_from L n i b.right))

-- an entry of a list stands between its neighbours
in_chain : (L : List Position) (start q : Option ℕ) (l : List ℕ) (i : ℕ) → Chain L q l → (q ≡ None → start ≡ first l)
    → ((p : ℕ) → q ≡ Some p → (next_of (at L p) ≡ first l) × ((k : ℕ) → first l ≡ Some k → start ≡ Some k → ⊥)) → ((k : ℕ) → start ≡ Some k → has (rest l) k ≡ false) → has l i ≡ true → can_remove L start i ≡ true
in_chain L start q [] i c f g d h = cc
in_chain L start q (x ∷ l) i c f g d h =
    ⊎_elim
    (λ (t : eqb x i ≡ true).
    let e : x ≡ i = eqb-true x i t in
    let c0 = c.0 in
    let a : at L i ≡ enlisted q (first l) = ap (at L) (sym e) ∙ c0 in
    can_of L start i q (first l) (record {
      here = a;
      lone = λ n. f n ∙ ap Some e;
      far = λ p n s. (g p n).1 x refl (s ∙ ap Some (sym e));
      left = λ p n. (g p n).0 ∙ ap Some e;
      right = λ n s. next_back l c.2 n s ∙ ap Some e;
    }))
    (λ (t : has l i ≡ true).
    in_chain L start (Some x) l i c.2 (λ n. cc)
    (λ p n. let xp : x ≡ p = cc in (ap (λ k. next_of (at L k)) (sym xp) ∙ ap next_of c.0, λ k u s. first_not l k (d k s) u))
    (λ k s. rest_none l k (d k s)) t)
    (or_cases (eqb x i) (has l i) h)
  where
    next_back : (m : List ℕ) → Chain L (Some x) m → (n : ℕ) → first m ≡ Some n → prev_of (at L n) ≡ Some x
    next_back [] k n s = cc
    next_back (u ∷ m) k n s = let un : u ≡ n = cc in ap (λ w. prev_of (at L w)) (sym un) ∙ ap prev_of k.0

    rest_none : (m : List ℕ) (k : ℕ) → has m k ≡ false → has (rest m) k ≡ false
    rest_none [] k w = refl
    rest_none (u ∷ m) k w = none_rest u m k w

pub listed_can : (L : List Position) (s : Option ℕ) (l : List ℕ) (i : ℕ) → Holds L s l → has l i ≡ true → can_remove L s i ≡ true
listed_can L s [] i h e = cc
listed_can L s (x ∷ l) i h e =
    in_chain L s None (x ∷ l) i h.linked (λ _. h.starts) (λ p n. cc)
    (λ k u. let xk : x ≡ k = cc in subst (λ w. has l w ≡ false) xk h.linked.1) e

pub refused_none : (L : List Position) (s : Option ℕ) (l : List ℕ) (i : ℕ) → Holds L s l → can_remove L s i ≡ false → has l i ≡ false
refused_none L s l i h e = ⊎_elim (λ t. cc (listed_can L s l i h t)) (λ t. t) (cases_Bool (has l i))

-- ---- the entry is taken out
pub remove_spliced : (L : List Position) (i : ℕ) → Spliced L (after_remove L i) i (prev_of (at L i)) (next_of (at L i)) [] (next_of (at L i)) (prev_of (at L i))
remove_spliced L i =
    let v = at L i in
    let W = relinked L v (next_of v) (prev_of v) in
    record {
      same = λ z ne _ p n. get_or-set_other W i z None None ne ∙ relinked_other L v (next_of v) (prev_of v) z p n;
      before = λ z ne _ p n. get_or-set_other W i z None None ne ∙ relinked_left L v (next_of v) (prev_of v) z p n;
      after = λ z ne _ p n. get_or-set_other W i z None None ne ∙ relinked_right L v (next_of v) (prev_of v) z p n;
      leads = λ l e. e;
      joins = λ l e f c. c;
    }

pub remove_length : (L : List Position) (i : ℕ) → length (after_remove L i) ≡ length L
remove_length L i = length-set (relinked L (at L i) (next_of (at L i)) (prev_of (at L i))) i None ∙ relinked_length L (at L i) (next_of (at L i)) (prev_of (at L i))

pub remove_in : (L : List Position) (i j : ℕ) → j ≢ i → is_in (at (after_remove L i) j) ≡ is_in (at L j)
remove_in L i j ne =
    let v = at L i in
    ap is_in (get_or-set_other (relinked L v (next_of v) (prev_of v)) i j None None ne) ∙ relinked_in L v (next_of v) (prev_of v) j

pub remove_free : (L : List Position) (start : Option ℕ) (i : ℕ) → can_remove L start i ≡ true → at (after_remove L i) i ≡ None
remove_free L start i h =
    let v = at L i in
    let W = relinked L v (next_of v) (prev_of v) in
    let r : i < length L = in_range L i (prev_of v) (next_of v) (between L start i h).here in
    let e : length W ≡ length L = relinked_length L v (next_of v) (prev_of v) in
    get_or-set_same W i None None (omega arith)

pub removed_list : (L : List Position) (start : Option ℕ) (i : ℕ) → can_remove L start i ≡ true → (s : Option ℕ) (l : List ℕ) → Holds L s l → Holds (after_remove L i) (start_after_remove L s i) (without i l)
removed_list L start i h s l k =
    every L (after_remove L i) start i (prev_of (at L i)) (next_of (at L i)) [] (next_of (at L i)) (prev_of (at L i)) (between L start i h) (remove_spliced L i) s l k (λ _ _. refl)

pub removed_other : (L : List Position) (start : Option ℕ) (i : ℕ) → can_remove L start i ≡ true → (s : Option ℕ) (l : List ℕ) → Holds L s l → Other s start → Holds (after_remove L i) s (without i l)
removed_other L start i h s l k o =
    every_other L (after_remove L i) start i (prev_of (at L i)) (next_of (at L i)) [] (next_of (at L i)) (prev_of (at L i)) (between L start i h) (remove_spliced L i) s l k o (λ _ _. refl)

-- ---- j, which is in no list, stands where i stood
pub replace_spliced : (L : List Position) (start : Option ℕ) (i j : ℕ) → can_remove L start i ≡ true → at L j ≡ None → j < length L
    → Spliced L (after_replace L i j) i (prev_of (at L i)) (next_of (at L i)) (j ∷ []) (Some j) (Some j)
replace_spliced L start i j h f r =
    let v = at L i in
    let b = between L start i h in
    let here : at L i ≡ enlisted (prev_of v) (next_of v) = b.here in
    let W = relinked L v (Some j) (Some j) in
    let e : length W ≡ length L = relinked_length L v (Some j) (Some j) in
    let ne : j ≢ i = λ q. cc in
    let other : (z : ℕ) → z ≢ i → has (j ∷ []) z ≡ false → at (after_replace L i j) z ≡ at W z =
    λ z n m. get_or-set_other (set W j v) i z None None n ∙ get_or-set_other W j z v None (none_first j [] z m) in
    let mine : at (after_replace L i j) j ≡ v =
    get_or-set_other (set W j v) i j None None ne ∙ get_or-set_same W j v None (omega arith) in
    record {
      same = λ z n m p q. other z n m ∙ relinked_other L v (Some j) (Some j) z p q;
      before = λ z n m p q. other z n m ∙ relinked_left L v (Some j) (Some j) z p q;
      after = λ z n m p q. other z n m ∙ relinked_right L v (Some j) (Some j) z p q;
      leads = λ l q. refl;
      joins = λ l q fr c. (mine ∙ here ∙ ap (enlisted (prev_of v)) q, not_there l fr, c);
    }
  where
    not_there : (l : List ℕ) → ((z : ℕ) → has l z ≡ true → has (j ∷ []) z ≡ false) → has l j ≡ false
    not_there l fr = ⊎_elim (λ t. cc (fr j t, has_head j [])) (λ t. t) (cases_Bool (has l j))

pub replace_length : (L : List Position) (i j : ℕ) → length (after_replace L i j) ≡ length L
replace_length L i j =
    let v = at L i in
    length-set (set (relinked L v (Some j) (Some j)) j v) i None ∙ length-set (relinked L v (Some j) (Some j)) j v ∙ relinked_length L v (Some j) (Some j)

-- a free entry is fresh to every list
pub free_fresh : (L : List Position) (s : Option ℕ) (l : List ℕ) (j : ℕ) → Holds L s l → at L j ≡ None → Fresh (j ∷ []) l
free_fresh L s l j h f z m = none_cons j [] z (λ e. both_ways (has l z) (subst (λ k. has l k ≡ false) (sym e) (free_not_in L None l j h.linked f)) m) refl

pub replaced_list : (L : List Position) (start : Option ℕ) (i j : ℕ) → can_remove L start i ≡ true → at L j ≡ None → j < length L
    → (s : Option ℕ) (l : List ℕ) → Holds L s l → Holds (after_replace L i j) (moved s i (Some j)) (replaced i j l)
replaced_list L start i j h f r s l k =
    every L (after_replace L i j) start i (prev_of (at L i)) (next_of (at L i)) (j ∷ []) (Some j) (Some j) (between L start i h) (replace_spliced L start i j h f r) s l k (free_fresh L s l j k f)

pub replaced_other : (L : List Position) (start : Option ℕ) (i j : ℕ) → can_remove L start i ≡ true → at L j ≡ None → j < length L
    → (s : Option ℕ) (l : List ℕ) → Holds L s l → Other s start → Holds (after_replace L i j) s (replaced i j l)
replaced_other L start i j h f r s l k o =
    every_other L (after_replace L i j) start i (prev_of (at L i)) (next_of (at L i)) (j ∷ []) (Some j) (Some j) (between L start i h) (replace_spliced L start i j h f r) s l k o (free_fresh L s l j k f)

pub replace_free : (L : List Position) (start : Option ℕ) (i j : ℕ) → can_remove L start i ≡ true → at (after_replace L i j) i ≡ None
replace_free L start i j h =
    let v = at L i in
    let W = relinked L v (Some j) (Some j) in
    let r : i < length L = in_range L i (prev_of v) (next_of v) (between L start i h).here in
    let e : length (set W j v) ≡ length L = length-set W j v ∙ relinked_length L v (Some j) (Some j) in
    get_or-set_same (set W j v) i None None (omega arith)

-- of the others only j comes into a list
pub replace_in : (L : List Position) (i j k : ℕ) → k ≢ i → k ≢ j → is_in (at (after_replace L i j) k) ≡ is_in (at L k)
replace_in L i j k n m =
    let v = at L i in
    let W = relinked L v (Some j) (Some j) in
    ap is_in (get_or-set_other (set W j v) i k None None n ∙ get_or-set_other W j k v None m) ∙ relinked_in L v (Some j) (Some j) k

pub replace_comes : (L : List Position) (start : Option ℕ) (i j : ℕ) → can_remove L start i ≡ true → j < length L → j ≢ i → is_in (at (after_replace L i j) j) ≡ true
replace_comes L start i j h r n =
    let v = at L i in
    let W = relinked L v (Some j) (Some j) in
    let e : length W ≡ length L = relinked_length L v (Some j) (Some j) in
    ap is_in (get_or-set_other (set W j v) i j None None n ∙ get_or-set_same W j v None (omega arith) ∙ (between L start i h).here)

-- ---- what a granted removal comes to, and a refused one
pub record Removed (L : List Position) (start : Option ℕ) (i : ℕ) (M : List Position) (begin : Option ℕ) : Type 0 where
  pub listed : Becomes (without i) L start M begin
  pub elsewhere : OthersBecome (without i) L start M
  pub others : OthersStayIfListed i L start M
  pub freed : at M i ≡ None
  pub status : StatusStays i L M
  pub size : length M ≡ length L

-- what a list does not have need not be taken out of it
pub not_listed : (L : List Position) (start : Option ℕ) (i : ℕ) (mid l : List ℕ) → Holds L start l → has l i ≡ true → (s : Option ℕ) (m : List ℕ) → Holds L s m → Other s start → spliced i mid m ≡ m
not_listed L start i mid l h e s m k o = spliced_none i mid m (lists_apart L start s l m h k o i e)

pub removes : (L M : List Position) (start begin : Option ℕ) (i : ℕ) → can_remove L start i ≡ true → M ≡ after_remove L i → begin ≡ start_after_remove L start i → Removed L start i M begin
removes L M start begin i h e f =
    record {
      listed = λ l k. rw (e, f) (removed_list L start i h start l k);
      elsewhere = λ s m k o. rw e (removed_other L start i h s m k o);
      others = λ l a b s m k o. subst (Holds M s) (not_listed L start i [] l a b s m k o) (rw e (removed_other L start i h s m k o));
      freed = rw e (remove_free L start i h);
      status = λ j n. rw e (remove_in L i j n);
      size = rw e (remove_length L i);
    }

pub refused_list : (L : List Position) (start : Option ℕ) (i : ℕ) → can_remove L start i ≡ false → (l : List ℕ) → Holds L start l → Holds L start (without i l)
refused_list L start i h l k = subst (Holds L start) (sym (spliced_none i [] l (refused_none L start l i k h))) k
