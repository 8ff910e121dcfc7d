-- An entry that leaves a list, with nothing or another in its place.
use Rattle.std.proofs.Common.{◌≡◌, ℕ, true, false, ◌≢◌, List, [], ◌∷◌, ◌++◌, Some, None, Option, sym, ap, ◌∙◌, subst, ⊎_elim}
use Rattle.std.proofs.lemmas.Bool.{cases_eq}
use Rattle.linked_list.specs.Places.{Position, enlisted, prev_of, next_of, with_prev, with_next, at}
use Rattle.linked_list.specs.Chains.{has, first, spliced, Chain, Holds, Other, moved}
use Rattle.linked_list.proofs.Members.{none_first, none_rest, has_head, has_tail, first_not, spliced_here, spliced_later, none_spliced, first_spliced}
use Rattle.linked_list.proofs.Reading.{moved_there, moved_other, some_cases}
use Rattle.linked_list.proofs.Linking.{starts_alone}

-- i stands between prev and next, which agree
pub record Between (L : List Position) (start : Option ℕ) (i : ℕ) (prev next : Option ℕ) : Type 0 where
  pub here : at L i ≡ enlisted prev next
  pub lone : prev ≡ None → start ≡ Some i
  pub far : (p : ℕ) → prev ≡ Some p → start ≡ Some i → ⊥
  pub left : (p : ℕ) → prev ≡ Some p → next_of (at L p) ≡ Some i
  pub right : (n : ℕ) → next ≡ Some n → prev_of (at L n) ≡ Some i

-- M is L with mid where i stood between prev and next: x comes after prev, y before next
pub record Spliced (L M : List Position) (i : ℕ) (prev next : Option ℕ) (mid : List ℕ) (x y : Option ℕ) : Type 0 where
  pub same : (z : ℕ) → z ≢ i → has mid z ≡ false → (prev ≡ Some z → ⊥) → (next ≡ Some z → ⊥) → at M z ≡ at L z
  pub before : (z : ℕ) → z ≢ i → has mid z ≡ false → prev ≡ Some z → (next ≡ Some z → ⊥) → at M z ≡ with_next (at L z) x
  pub after : (z : ℕ) → z ≢ i → has mid z ≡ false → (prev ≡ Some z → ⊥) → next ≡ Some z → at M z ≡ with_prev (at L z) y
  pub leads : (l : List ℕ) → next ≡ first l → x ≡ first (mid ++ l)
  pub joins : (l : List ℕ) → next ≡ first l → ((z : ℕ) → has l z ≡ true → has mid z ≡ false) → Chain M y l → Chain M prev (mid ++ l)

abbrev pub Fresh : List ℕ → List ℕ → Type 0
Fresh mid l = (z : ℕ) → has l z ≡ true → has mid z ≡ false

with_next_is : (v : Position) (a b x : Option ℕ) → v ≡ enlisted a b → with_next v x ≡ enlisted a x
with_next_is v a b x e = ap (λ w. with_next w x) e

with_prev_is : (v : Position) (a b y : Option ℕ) → v ≡ enlisted a b → with_prev v y ≡ enlisted y b
with_prev_is v a b y e = ap (λ w. with_prev w y) e

module _ (L M : List Position) (start : Option ℕ) (i : ℕ) (prev next : Option ℕ) (mid : List ℕ) (x y : Option ℕ)
    (b : Between L start i prev next) (m : Spliced L M i prev next mid x y) where
  -- a stretch that i is not in, and that does not follow i, stays
  stays : (q : Option ℕ) (l : List ℕ) → Chain L q l → has l i ≡ false → (q ≡ Some i → ⊥) → Fresh mid l → Chain M q l
  stays q [] c n s f = tt
  stays q (z ∷ l) c n s f =
      let c0 = c.0 in
      let np : prev ≡ Some z → ⊥ = λ e. let w = b.left z e in let g : first l ≡ Some i = cc in first_not l i (none_rest z l i n) g in
      let nn : next ≡ Some z → ⊥ = λ e. let w = b.right z e in s (cc) in (
        m.same z (λ e. none_first z l i n (sym e)) (f z (has_head z l)) np nn ∙ c0,
        c.1,
        stays (Some z) l c.2 (none_rest z l i n) (λ e. none_first z l i n (cc)) (λ k h. f k (has_tail z l k h)),
      )

  link : (z : ℕ) (q : Option ℕ) (l : List ℕ) → z ≢ i → has mid z ≡ false → (q ≡ Some i → ⊥) → at L z ≡ enlisted q (first l) → Chain L (Some z) l → at M z ≡ enlisted q (first (spliced i mid l))
  link z q [] ne fr s e c =
      let np : prev ≡ Some z → ⊥ = λ p. let w = b.left z p in cc in
      let nn : next ≡ Some z → ⊥ = λ n. let w = b.right z n in s (cc) in
      m.same z ne fr np nn ∙ e
  link z q (u ∷ l) ne fr s e c =
      let nn : next ≡ Some z → ⊥ = λ n. let w = b.right z n in s (cc) in
      ⊎_elim
      (λ (h : u ≡ i).
      let p : prev ≡ Some z = cc (ap prev_of c.0, ap prev_of b.here) in
      let nl : next ≡ first l = cc (ap next_of c.0, ap next_of b.here) in
      m.before z ne fr p nn ∙ with_next_is (at L z) q (Some u) x e ∙ ap (enlisted q) (m.leads l nl) ∙ ap (λ k. enlisted q (first k)) (sym (spliced_here i mid l u h)))
      (λ (h : u ≢ i).
      let np : prev ≡ Some z → ⊥ = λ p. let w = b.left z p in h (cc) in
      m.same z ne fr np nn ∙ e ∙ ap (λ k. enlisted q (first k)) (sym (spliced_later i mid l u h)))
      (cases_eq u i)

  -- what follows i
  follows : (q : Option ℕ) (l : List ℕ) → at L i ≡ enlisted q (first l) → has l i ≡ false → Chain L (Some i) l → Fresh mid l → Chain M y l
  follows q [] e n c f = tt
  follows q (u ∷ l) e n c f =
      let c0 = c.0 in
      let ny : next ≡ Some u = cc (ap next_of b.here) in
      let np : prev ≡ Some u → ⊥ = λ p. let v = b.left u p in let g : first l ≡ Some i = cc in first_not l i (none_rest u l i n) g in (
        m.after u (λ h. none_first u l i n (sym h)) (f u (has_head u l)) np ny ∙ with_prev_is (at L u) (Some i) (first l) y c0,
        c.1,
        stays (Some u) l c.2 (none_rest u l i n) (λ h. none_first u l i n (cc)) (λ k h. f k (has_tail u l k h)),
      )

  chain : (q : Option ℕ) (l : List ℕ) → Chain L q l → (q ≡ Some i → ⊥) → Fresh mid l → Chain M q (spliced i mid l)
  chain q [] c s f = tt
  chain q (z ∷ l) c s f =
      ⊎_elim
      (λ (h : z ≡ i).
      let e : at L i ≡ enlisted q (first l) = ap (λ k. at L k) (sym h) ∙ c.0 in
      let pq : prev ≡ q = cc (ap prev_of b.here) in
      let nl : next ≡ first l = cc (ap next_of b.here) in
      let fl : Fresh mid l = λ k g. f k (has_tail z l k g) in
      subst (λ k. Chain M q k) (sym (spliced_here i mid l z h))
      (subst (λ k. Chain M k (mid ++ l)) pq
      (m.joins l nl fl (follows q l e (subst (λ k. has l k ≡ false) h c.1) (subst (λ k. Chain L (Some k) l) h c.2) fl))))
      (λ (h : z ≢ i).
      subst (λ k. Chain M q k) (sym (spliced_later i mid l z h)) (
        link z q l h (f z (has_head z l)) s c.0 c.2,
        none_spliced i mid l z (f z (has_head z l)) c.1,
        chain (Some z) l c.2 (λ e. h (cc)) (λ k g. f k (has_tail z l k g)),
      ))
      (cases_eq z i)

  front : (l : List ℕ) → Holds L (Some i) l → x ≡ first (spliced i mid l)
  front [] h = cc
  front (z ∷ l) h =
      let e : z ≡ i = cc in
      let nl : next ≡ first l = cc (ap next_of h.linked.0, ap next_of b.here) in
      m.leads l nl ∙ ap first (sym (spliced_here i mid l z e))

  -- every list has mid in the place of i
  pub every : (s : Option ℕ) (l : List ℕ) → Holds L s l → Fresh mid l → Holds M (moved s i x) (spliced i mid l)
  every s l h f =
      record {
        starts = ⊎_elim
            (λ (e : s ≡ Some i). moved_there s i x e ∙ front l (subst (λ k. Holds L k l) e h))
            (λ (n : s ≡ Some i → ⊥). moved_other s i x n ∙ h.starts ∙ sym (first_spliced i mid l (λ e. n (h.starts ∙ e))))
            (some_cases s i);
        linked = chain None l h.linked (λ e. cc) f;
      }

  -- i is the first of no list but the one at start
  pub elsewhere : (s : Option ℕ) (l : List ℕ) → Holds L s l → Other s start → s ≡ Some i → ⊥
  elsewhere s l h o e = o i e (b.lone (starts_alone L i prev next s l h e b.here))

  pub every_other : (s : Option ℕ) (l : List ℕ) → Holds L s l → Other s start → Fresh mid l → Holds M s (spliced i mid l)
  every_other s l h o f = subst (λ k. Holds M k (spliced i mid l)) (moved_other s i x (elsewhere s l h o)) (every s l h f)
