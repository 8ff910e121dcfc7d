-- What comes of putting the first entry where another stood.
use Rattle.std.proofs.Common.{◌≡◌, ℕ, ◌<◌, true, false, eqb, ◌≢◌, List, [], ◌∷◌, length, Some, None, Option, sym, refl, ap, ◌∙◌, subst, ⊎_elim, arith}
use Rattle.std.proofs.lemmas.Bool.{cases_eq, and_parts, and_from, eq-eqb, ne_eqb, cond-true, cond-false}
use Rattle.linked_list.specs.Places.{Position, enlisted, is_in, prev_of, next_of, with_prev, at}
use Rattle.linked_list.specs.Chains.{has, rest, replaced, swap_removed, Holds, Other, can_remove, after_remove, after_replace, moved, can_swap, after_swap, start_after_swap}
use Rattle.linked_list.specs.Laws.{Becomes, OthersBecome, OthersStayIfListed, StatusStays}
use Rattle.linked_list.proofs.Members.{spliced_none, has_first}
use Rattle.linked_list.proofs.Reading.{in_range, moved_other, some_cases, with_prev_next}
use Rattle.linked_list.proofs.Linking.{not_shared, starts_alone}
use Rattle.linked_list.proofs.Splicing.{Between}
use Rattle.linked_list.proofs.Removing.{between, can_of, listed_can, remove_spliced, remove_free, remove_in, remove_length, replaced_list, replace_free, replace_in, replace_comes, replace_length, not_listed}
use Rattle.linked_list.proofs.Popping.{front_alone, front_list, front_other}

-- ---- with the first entry f taken out, i stands between its neighbours still
module _ (L : List Position) (f i : ℕ) (hf : can_remove L (Some f) f ≡ true) (hi : can_remove L (Some f) i ≡ true) (ne : f ≢ i) where
  lone : at L f ≡ enlisted None (next_of (at L f))
  lone = front_alone L f hf

  no_prev : prev_of (at L f) ≡ None
  no_prev = ap prev_of lone

  no_before : (z : ℕ) → prev_of (at L f) ≡ Some z → ⊥
  no_before z e = cc no_prev

  back : (n : ℕ) → next_of (at L f) ≡ Some n → prev_of (at L n) ≡ Some f
  back = (between L (Some f) f hf).right

  other : (z : ℕ) → z ≢ f → (next_of (at L f) ≡ Some z → ⊥) → at (after_remove L f) z ≡ at L z
  other z n h = (remove_spliced L f).same z n refl (no_before z) h

  nexts : (z : ℕ) → z ≢ f → next_of (at (after_remove L f) z) ≡ next_of (at L z)
  nexts z n = ⊎_elim
      (λ (e : next_of (at L f) ≡ Some z). ap next_of ((remove_spliced L f).after z n refl (no_before z) e) ∙ with_prev_next (at L z) (prev_of (at L f)))
      (λ (e : next_of (at L f) ≡ Some z → ⊥). ap next_of (other z n e))
      (some_cases (next_of (at L f)) z)

  still : (p n : Option ℕ) → Between L (Some f) i p n → can_remove (after_remove L f) (next_of (at L f)) i ≡ true
  still None n b = absurd (ne (cc (b.lone refl)))
  still (Some p) n b = ⊎_elim
      (λ (e : p ≡ f).
      let led : next_of (at L f) ≡ Some i = ap (λ z. next_of (at L z)) (sym e) ∙ b.left p refl in
      let here : at L i ≡ enlisted (Some p) n = b.here in
      let ip : prev_of (at L i) ≡ Some p = ap prev_of here in
      can_of (after_remove L f) (next_of (at L f)) i None n (record {
        here = (remove_spliced L f).after i (λ q. ne (sym q)) refl (no_before i) led ∙ ap (λ z. with_prev z (prev_of (at L f))) here ∙ ap (λ z. enlisted z n) no_prev;
        lone = λ _. led;
        far = λ q w. cc;
        left = λ q w. cc;
        right = λ k w.
            let r : prev_of (at L k) ≡ Some i = b.right k w in
            let nf : k ≢ f = λ q. no_before i (ap (λ z. prev_of (at L z)) (sym q) ∙ r) in
            let ni : next_of (at L f) ≡ Some k → ⊥ = λ q. let fk = back k q in ne (cc) in
            ap prev_of (other k nf ni) ∙ r;
      }))
      (λ (d : p ≢ f).
      let here : at L i ≡ enlisted (Some p) n = b.here in
      let ip : prev_of (at L i) ≡ Some p = ap prev_of here in
      let not-led : next_of (at L f) ≡ Some i → ⊥ = λ q. let r = back i q in d (cc) in
      can_of (after_remove L f) (next_of (at L f)) i (Some p) n (record {
        here = other i (λ q. ne (sym q)) not-led ∙ here;
        lone = λ w. cc;
        far = λ q w s. not-led s;
        left = λ q w. let pq : p ≡ q = cc in ap (λ z. next_of (at (after_remove L f) z)) (sym pq) ∙ nexts p d ∙ b.left p refl;
        right = λ k w.
            let r : prev_of (at L k) ≡ Some i = b.right k w in
            let nf : k ≢ f = λ q. no_before i (ap (λ z. prev_of (at L z)) (sym q) ∙ r) in
            let ni : next_of (at L f) ≡ Some k → ⊥ = λ q. let fk = back k q in ne (cc) in
            ap prev_of (other k nf ni) ∙ r;
      }))
      (cases_eq p f)

  pub still_there : can_remove (after_remove L f) (next_of (at L f)) i ≡ true
  still_there = still (prev_of (at L i)) (next_of (at L i)) (between L (Some f) i hi)

  -- i has an entry before it
  after_some : (s : Option ℕ) (m : List ℕ) → Holds L s m → s ≡ Some i → ⊥
  after_some s m h e =
      let b = between L (Some f) i hi in
      let a = b.lone (starts_alone L i (prev_of (at L i)) (next_of (at L i)) s m h e b.here) in
      ne (cc)

  pub f_free : at (after_remove L f) f ≡ None
  f_free = remove_free L (Some f) f hf

  pub f_there : f < length (after_remove L f)
  f_there = let r = in_range L f None (next_of (at L f)) lone in let e = remove_length L f in omega arith

  pub swap_list : (l : List ℕ) → Holds L (Some f) l → Holds (after_replace (after_remove L f) i f) (moved (next_of (at L f)) i (Some f)) (replaced i f (rest l))
  swap_list l h = replaced_list (after_remove L f) (next_of (at L f)) i f still_there f_free f_there (next_of (at L f)) (rest l) (front_list L f hf l h)

  pub swap_other : (s : Option ℕ) (m : List ℕ) → Holds L s m → Other s (Some f) → Holds (after_replace (after_remove L f) i f) s (replaced i f m)
  swap_other s m h o =
      subst (λ z. Holds (after_replace (after_remove L f) i f) z (replaced i f m)) (moved_other s i (Some f) (after_some s m h))
      (replaced_list (after_remove L f) (next_of (at L f)) i f still_there f_free f_there s m (front_other L f hf s m h o))

  pub swap_free : at (after_replace (after_remove L f) i f) i ≡ None
  swap_free = replace_free (after_remove L f) (next_of (at L f)) i f still_there

  pub swap_in : (j : ℕ) → j ≢ i → is_in (at (after_replace (after_remove L f) i f) j) ≡ is_in (at L j)
  swap_in j n = ⊎_elim
      (λ (e : j ≡ f). subst (λ z. is_in (at (after_replace (after_remove L f) i f) z) ≡ is_in (at L z)) (sym e)
      (replace_comes (after_remove L f) (next_of (at L f)) i f still_there f_there ne ∙ sym (ap is_in lone)))
      (λ (d : j ≢ f). replace_in (after_remove L f) i f j n d ∙ remove_in L f j d)
      (cases_eq j f)

-- ---- what a granted call comes to
pub record Swapped (L : List Position) (start : Option ℕ) (i : ℕ) (M : List Position) (begin : Option ℕ) : Type 0 where
  pub listed : Becomes (swap_removed i) L start M begin
  pub elsewhere : (f : ℕ) → start ≡ Some f → OthersBecome (replaced i f) L start M
  pub others : OthersStayIfListed i L start M
  pub freed : at M i ≡ None
  pub status : StatusStays i L M
  pub size : length M ≡ length L

-- i is the first entry
swaps_first : (L M : List Position) (begin : Option ℕ) (f i : ℕ) → can_remove L (Some f) f ≡ true → f ≡ i → M ≡ after_remove L f → begin ≡ next_of (at L f) → Swapped L (Some f) i M begin
swaps_first L M begin f i h q e d =
    record {
      listed = λ l k. subst (Holds M begin) (sym (gone l k)) (rw (e, d) (front_list L f h l k));
      elsewhere = λ g w s m k o. subst (Holds M s) (sym (spliced_none i (g ∷ []) m (subst (λ z. has m z ≡ false) q (not_shared L f (next_of (at L f)) s m (front_alone L f h) k (λ u. o f u refl))))) (rw e (front_other L f h s m k o));
      others = λ _ _ _ s m k o. rw e (front_other L f h s m k o);
      freed = subst (λ z. at M z ≡ None) q (rw e (remove_free L (Some f) f h));
      status = λ j n. rw e (remove_in L f j (λ u. n (u ∙ q)));
      size = rw e (remove_length L f);
    }
  where
    gone : (l : List ℕ) → Holds L (Some f) l → swap_removed i l ≡ rest l
    gone [] k = refl
    gone (x ∷ l) k = let xi : x ≡ i = cc in cond-true (eqb x i) l (replaced i x l) (eq-eqb x i xi)

swaps_later : (L M : List Position) (begin : Option ℕ) (f i : ℕ) → can_remove L (Some f) f ≡ true → can_remove L (Some f) i ≡ true → f ≢ i → M ≡ after_replace (after_remove L f) i f → begin ≡ moved (next_of (at L f)) i (Some f) → Swapped L (Some f) i M begin
swaps_later L M begin f i h hi ne e d =
    record {
      listed = λ l k. subst (Holds M begin) (sym (put l k)) (rw (e, d) (swap_list L f i h hi ne l k));
      elsewhere = λ g w s m k o. let fg : f ≡ g = cc in subst (λ z. Holds M s (replaced i z m)) fg (rw e (swap_other L f i h hi ne s m k o));
      others = λ l a b s m k o. subst (Holds M s) (not_listed L (Some f) i (f ∷ []) l a b s m k o) (rw e (swap_other L f i h hi ne s m k o));
      freed = rw e (swap_free L f i h hi ne);
      status = λ j n. rw e (swap_in L f i h hi ne j n);
      size = rw e (replace_length (after_remove L f) i f ∙ remove_length L f);
    }
  where
    put : (l : List ℕ) → Holds L (Some f) l → swap_removed i l ≡ replaced i f (rest l)
    put [] k = refl
    put (x ∷ l) k =
        let xf : x ≡ f = cc in
        cond-false (eqb x i) l (replaced i x l) (ne_eqb x i (λ u. ne (sym xf ∙ u))) ∙ ap (λ z. replaced i z l) xf

pub swaps : (L M : List Position) (start begin : Option ℕ) (i : ℕ) → can_swap L start i ≡ true → M ≡ after_swap L start i → begin ≡ start_after_swap L start i → Swapped L start i M begin
swaps L M None begin i h e d = cc
swaps L M (Some f) begin i h e d =
    let p = and_parts (can_remove L (Some f) f) (can_remove L (Some f) i) h in
    ⊎_elim
    (λ (q : f ≡ i). swaps_first L M begin f i p.0 q
    (e ∙ cond-true (eqb f i) (after_remove L f) (after_replace (after_remove L f) i f) (eq-eqb f i q))
    (d ∙ cond-true (eqb f i) (next_of (at L f)) (moved (next_of (at L f)) i (Some f)) (eq-eqb f i q)))
    (λ (q : f ≢ i). swaps_later L M begin f i p.0 p.1 q
    (e ∙ cond-false (eqb f i) (after_remove L f) (after_replace (after_remove L f) i f) (ne_eqb f i q))
    (d ∙ cond-false (eqb f i) (next_of (at L f)) (moved (next_of (at L f)) i (Some f)) (ne_eqb f i q)))
    (cases_eq f i)

-- an entry of the list can be swapped out
pub listed_can_swap : (L : List Position) (s : Option ℕ) (l : List ℕ) (i : ℕ) → Holds L s l → has l i ≡ true → can_swap L s i ≡ true
listed_can_swap L s [] i h e = cc
listed_can_swap L s (x ∷ l) i h e =
    let k : Holds L (Some x) (x ∷ l) = record { starts = refl; linked = h.linked } in
    ap (λ z. can_swap L z i) h.starts
    ∙ and_from (can_remove L (Some x) x) (can_remove L (Some x) i) (listed_can L (Some x) (x ∷ l) x k (has_first (x ∷ l) x refl)) (listed_can L (Some x) (x ∷ l) i k e)
