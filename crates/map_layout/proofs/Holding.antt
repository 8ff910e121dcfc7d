-- Lists of places in one container, of which one is changed.
use Rattle.std.proofs.Common.{◌≡◌, ℕ, true, false, ◌≢◌, ◌⊎◌, List, [], Some, None, Option, sym, ap, ◌∙◌, subst, ⊎_elim, arith}
use Rattle.std.proofs.lemmas.Bool.{cases_eq, both_ways}
use Rattle.linked_list.specs.Places.{Position}
use Rattle.linked_list.specs.Chains.{has, Holds, Other, entries_of}
use Rattle.linked_list.specs.Laws.{OthersStay}
use Rattle.linked_list.proofs.Members.{has_first}
use Rattle.linked_list.proofs.Linking.{free_not_in, lists_apart, holds_read, holds_none, Differ, chain_differ}
use Rattle.map_layout.specs.Layout.{Held, Owns, Idle}

-- ---- one container
module _ (B : ℕ → Option ℕ → Type 0) (L : List Position) (h : Held B L) where
  pub other_lists : (j k p : ℕ) (s t : Option ℕ) → B j s → B k t → j ≢ k → has (entries_of L s) p ≡ true → has (entries_of L t) p ≡ false
  other_lists j k p s t b c n e = lists_apart L s t (entries_of L s) (entries_of L t) (h.each j s b) (h.each k t c) (h.apart k j t s c b (λ q. n (sym q))) p e

  -- a place is in one list at most
  pub one_owner : (j k p : ℕ) → Owns B L j p → Owns B L k p → j ≡ k
  one_owner j k p a b =
      ⊎_elim (λ (e : j ≡ k). e)
      (λ (n : j ≢ k). absurd (both_ways (has (entries_of L b.start) p) (other_lists j k p a.start b.start a.begins b.begins n a.has_it) b.has_it))
      (cases_eq j k)

  pub idle_unowned : (k p : ℕ) → Idle L p → Owns B L k p → ⊥
  idle_unowned k p f o = both_ways (has (entries_of L o.start) p) (free_not_in L None (entries_of L o.start) p (h.each k o.start o.begins).linked f) o.has_it

  pub differ_list : (k : ℕ) (s : Option ℕ) → B k s → Differ (entries_of L s)
  differ_list k s b = chain_differ L None (entries_of L s) (h.each k s b).linked

  -- a list that begins at x has x
  pub begins_has : (k x : ℕ) (s : Option ℕ) → B k s → s ≡ Some x → has (entries_of L s) x ≡ true
  begins_has k x s b e = has_first (entries_of L s) x (sym (h.each k s b).starts ∙ e)

-- ---- one list changes: the list k, which began at s, is l at t in M, and the others are as they were
module _ (B C : ℕ → Option ℕ → Type 0) (L M : List Position) (k : ℕ) (s t : Option ℕ) (l : List ℕ)
    (h : Held B L) (b : B k s) (now-here : Holds M t l) (others : OthersStay L s M)
    (head : (x : ℕ) → t ≡ Some x → Idle L x ⊎ (has (entries_of L s) x ≡ true))
    (here : (v : Option ℕ) → C k v → v ≡ t) (there : (j : ℕ) (v : Option ℕ) → j ≢ k → C j v → B j v) where
  other_holds : (j : ℕ) (v : Option ℕ) → j ≢ k → C j v → Holds M v (entries_of L v)
  other_holds j v n c = others v (entries_of L v) (h.each j v (there j v n c)) (h.apart j k v s (there j v n c) b n)

  pub other_entries : (j : ℕ) (v : Option ℕ) → j ≢ k → C j v → entries_of M v ≡ entries_of L v
  other_entries j v n c = holds_read M v (entries_of L v) (other_holds j v n c)

  pub here_entries : (v : Option ℕ) → C k v → entries_of M v ≡ l
  here_entries v c = ap (entries_of M) (here v c) ∙ holds_read M t l now-here

  each_held : (j : ℕ) (v : Option ℕ) → C j v → Holds M v (entries_of M v)
  each_held j v c =
      ⊎_elim
      (λ (e : j ≡ k). let d = subst (λ z. C z v) e c in subst (Holds M v) (sym (here_entries v d)) (subst (λ z. Holds M z l) (sym (here v d)) now-here))
      (λ (n : j ≢ k). subst (Holds M v) (sym (other_entries j v n c)) (other_holds j v n c))
      (cases_eq j k)

  not_begun : (j x : ℕ) (v : Option ℕ) → j ≢ k → C j v → t ≡ Some x → v ≡ Some x → ⊥
  not_begun j x v n c e f =
      let d = there j v n c in
      let g = begins_has B L h j x v d f in
      ⊎_elim
      (λ (i : Idle L x). both_ways (has (entries_of L v) x) (free_not_in L None (entries_of L v) x (h.each j v d).linked i) g)
      (λ (i : has (entries_of L s) x ≡ true). both_ways (has (entries_of L v) x) (other_lists B L h k j x s v b d (λ q. n (sym q)) i) g)
      (head x e)

  all_apart : (i j : ℕ) (u v : Option ℕ) → C i u → C j v → (i ≡ j → ⊥) → Other u v
  all_apart i j u v c d n x e f =
      ⊎_elim
      (λ (q : i ≡ k). not_begun j x v (λ r. n (q ∙ sym r)) d (sym (here u (subst (λ z. C z u) q c)) ∙ e) f)
      (λ (q : i ≢ k).
      ⊎_elim
      (λ (r : j ≡ k). not_begun i x u q c (sym (here v (subst (λ z. C z v) r d)) ∙ f) e)
      (λ (r : j ≢ k). h.apart i j u v (there i u q c) (there j v r d) n x e f)
      (cases_eq j k))
      (cases_eq i k)

  pub held_after : Held C M
  held_after = record { each = each_held; apart = all_apart }

  pub owns_other : (j p : ℕ) → j ≢ k → Owns C M j p → Owns B L j p
  owns_other j p n o = record { start = o.start; begins = there j o.start n o.begins; has_it = sym (ap (λ z. has z p) (other_entries j o.start n o.begins)) ∙ o.has_it }

  pub owns_here : (p : ℕ) → Owns C M k p → has l p ≡ true
  owns_here p o = sym (ap (λ z. has z p) (here_entries o.start o.begins)) ∙ o.has_it

  module _ (to : (j : ℕ) (v : Option ℕ) → j ≢ k → B j v → C j v) (at-k : C k t) where
    pub owned_other : (j p : ℕ) → j ≢ k → Owns B L j p → Owns C M j p
    owned_other j p n o = let c = to j o.start n o.begins in record { start = o.start; begins = c; has_it = ap (λ z. has z p) (other_entries j o.start n c) ∙ o.has_it }

    pub owned_here : (p : ℕ) → has l p ≡ true → Owns C M k p
    owned_here p e = record { start = t; begins = at-k; has_it = ap (λ z. has z p) (here_entries t at-k) ∙ e }

-- ---- lists come that are empty, or lists go
pub held_less : (B C : ℕ → Option ℕ → Type 0) (L : List Position) → Held B L → ((j : ℕ) (v : Option ℕ) → C j v → B j v ⊎ (v ≡ None)) → Held C L
held_less B C L h f = record {
  each = λ j v c. ⊎_elim (λ (b : B j v). h.each j v b) (λ (e : v ≡ None). none v e) (f j v c);
  apart = λ i j u v c d n x e g.
      ⊎_elim
      (λ (b : B i u). ⊎_elim (λ (w : B j v). h.apart i j u v b w n x e g) (λ (w : v ≡ None). let z : ◌≡◌ {A = ℕ} 0 1 = cc in omega arith) (f j v d))
      (λ (b : u ≡ None). let z : ◌≡◌ {A = ℕ} 0 1 = cc in omega arith)
      (f i u c);
}
  where
    none : (v : Option ℕ) → v ≡ None → Holds L v (entries_of L v)
    none v e = subst (λ z. Holds L z (entries_of L z)) (sym e) (subst (Holds L None) (sym (holds_read L None [] (holds_none L))) (holds_none L))
