-- What a start and the positions stand for: entries that are in, out, or apart.
use Rattle.std.proofs.Common.{◌≡◌, ℕ, zero, suc, ◌<◌, ◌≤◌, true, false, ◌||◌, eqb, ◌≢◌, List, [], ◌∷◌, ◌++◌, length, set, Some, None, Option, sym, refl, ap, ◌∙◌, subst, ⊎_elim, arith}
use Rattle.std.proofs.lemmas.List.{get_or-set_other}
use Rattle.std.proofs.lemmas.Bool.{cases_eq, cases_Bool, both_ways, ne_eqb, cond_both, or_cases, eqb-true}
use Rattle.linked_list.specs.Places.{Position, enlisted, is_in, prev_of, next_of, at}
use Rattle.linked_list.specs.Chains.{has, first, last_from, last, without, Chain, Holds, Other, walk, entries_of}
use Rattle.linked_list.proofs.Members.{none_first, none_rest, none_cons, has_first, first_not, spliced_here, spliced_later, none_spliced}
use Rattle.linked_list.proofs.Reading.{in_range}

-- ---- one entry of a chain
pub in_is : (p : Position) (a b : Option ℕ) → p ≡ enlisted a b → is_in p ≡ true
in_is p a b e = ap is_in e

pub free_is : (p : Position) → is_in p ≡ false → p ≡ None
free_is None e = refl
free_is (Some p) e = cc

-- an entry in no list is not in l
pub free_not_in : (L : List Position) (p : Option ℕ) (l : List ℕ) (j : ℕ) → Chain L p l → at L j ≡ None → has l j ≡ false
free_not_in L p [] j c e = refl
free_not_in L p (x ∷ l) j c e =
    none_cons x l j (λ q. cc) (free_not_in L (Some x) l j c.2 e)

-- an entry of l is in a list
pub listed_in : (L : List Position) (p : Option ℕ) (l : List ℕ) (j : ℕ) → Chain L p l → has l j ≡ true → is_in (at L j) ≡ true
listed_in L p l j c h = ⊎_elim (λ t. t) (λ f. cc (free_not_in L p l j c (free_is (at L j) f))) (cases_Bool (is_in (at L j)))

-- an entry with none before it stands in no rest of a list
pub head_not_in : (L : List Position) (k : ℕ) (l : List ℕ) (j : ℕ) (n : Option ℕ) → Chain L (Some k) l → at L j ≡ enlisted None n → has l j ≡ false
head_not_in L k [] j n c e = refl
head_not_in L k (x ∷ l) j n c e =
    none_cons x l j (λ q. cc (ap prev_of c.0)) (head_not_in L x l j n c.2 e)

-- an entry with none before it is in no list that it does not start
pub not_shared : (L : List Position) (k : ℕ) (n s : Option ℕ) (m : List ℕ) → at L k ≡ enlisted None n → Holds L s m → (s ≡ Some k → ⊥) → has m k ≡ false
not_shared L k n s [] e h o = refl
not_shared L k n s (x ∷ m) e h o =
    none_cons x m k (λ q. o (h.starts ∙ ap Some (sym q))) (head_not_in L x m k n h.linked.2 e)

-- the first entry has none before it
pub starts_alone : (L : List Position) (i : ℕ) (p n s : Option ℕ) (m : List ℕ) → Holds L s m → s ≡ Some i → at L i ≡ enlisted p n → p ≡ None
starts_alone L i p n s [] h e a = cc
starts_alone L i p n s (x ∷ m) h e a = let q : x ≡ i = cc in sym (ap prev_of a) ∙ ap (λ k. prev_of (at L k)) (sym q) ∙ ap prev_of h.linked.0

-- ---- a write at an entry that is not in the list
pub chain_set : (L : List Position) (p : Option ℕ) (l : List ℕ) (j : ℕ) (v : Position) → Chain L p l → has l j ≡ false → Chain (set L j v) p l
chain_set L p [] j v c n = tt
chain_set L p (x ∷ l) j v c n =
    (get_or-set_other L j x v None (λ q. none_first x l j n (sym q)) ∙ c.0, c.1, chain_set L (Some x) l j v c.2 (none_rest x l j n))

pub frame : (L : List Position) (s : Option ℕ) (m : List ℕ) (j : ℕ) (v : Position) → Holds L s m → has m j ≡ false → Holds (set L j v) s m
frame L s m j v h n = record { starts = h.starts; linked = chain_set L None m j v h.linked n }

pub holds_none : (L : List Position) → Holds L None []
holds_none L = record { starts = refl; linked = tt }

-- ---- neighbours
-- what stands around the entry after a
around : (L : List Position) (p : Option ℕ) (a : List ℕ) (i : ℕ) (b : List ℕ) → Chain L p (a ++ i ∷ b) → at L i ≡ enlisted (last_from p a) (first b)
around L p [] i b c = c.0
around L p (x ∷ a) i b c = around L (Some x) a i b c.2

pub next_is : (L : List Position) (s : Option ℕ) (a : List ℕ) (i : ℕ) (b : List ℕ) → Holds L s (a ++ i ∷ b) → next_of (at L i) ≡ first b
next_is L s a i b h = ap next_of (around L None a i b h.linked)

pub prev_is : (L : List Position) (s : Option ℕ) (a : List ℕ) (i : ℕ) (b : List ℕ) → Holds L s (a ++ i ∷ b) → prev_of (at L i) ≡ last a
prev_is L s a i b h = ap prev_of (around L None a i b h.linked)

-- ---- two lists with different starts have no entry in common
after_absent : (L : List Position) (y z : ℕ) (n q : Option ℕ) (l : List ℕ) → Chain L q l → (q ≡ Some z → ⊥) → has l z ≡ false → at L y ≡ enlisted (Some z) n → has l y ≡ false
after_absent L y z n q [] c s a e = refl
after_absent L y z n q (x ∷ l) c s a e =
    none_cons x l y (λ h. s (cc (ap prev_of c.0))) (after_absent L y z n (Some x) l c.2 (λ g. none_first x l z a (cc)) (none_rest x l z a) e)

apart_chain : (L : List Position) (l : List ℕ) → Chain L None l → (q : Option ℕ) (m : List ℕ) → Chain L q m → ((z : ℕ) → q ≡ Some z → has l z ≡ false) → (q ≡ None → (y : ℕ) → first m ≡ Some y → has l y ≡ false)
    → (i : ℕ) → has l i ≡ true → has m i ≡ false
apart_chain L l k q [] c f g i n = refl
apart_chain L l k None (y ∷ m) c f g i n =
    let a : has l y ≡ false = g refl y refl in
    none_cons y m i (λ h. both_ways (has l i) (subst (λ z. has l z ≡ false) (sym h) a) n)
    (apart_chain L l k (Some y) m c.2 (λ z e. let h : y ≡ z = cc in subst (λ w. has l w ≡ false) h a) (λ e. cc) i n)
apart_chain L l k (Some x) (y ∷ m) c f g i n =
    let a : has l y ≡ false = after_absent L y x (first m) None l k (λ e. cc) (f x refl) c.0 in
    none_cons y m i (λ h. both_ways (has l i) (subst (λ z. has l z ≡ false) (sym h) a) n)
    (apart_chain L l k (Some y) m c.2 (λ z e. let h : y ≡ z = cc in subst (λ w. has l w ≡ false) h a) (λ e. cc) i n)

pub lists_apart : (L : List Position) (s t : Option ℕ) (l m : List ℕ) → Holds L s l → Holds L t m → Other t s → (i : ℕ) → has l i ≡ true → has m i ≡ false
lists_apart L s t l [] h k o i n = refl
lists_apart L s t l (y ∷ m) h k o i n =
    apart_chain L l h.linked None (y ∷ m) k.linked (λ z e. cc)
    (λ _ x e. let xy : y ≡ x = cc in subst (λ w. has l w ≡ false) xy (not_shared L y (first m) s l k.linked.0 h (λ a. o y k.starts a))) i n

-- ---- a list is no longer than the container, and all its entries are there
abbrev pub Differ : List ℕ → Type 0
Differ [] = Unit {0}
Differ (x ∷ l) = (has l x ≡ false) × Differ l

abbrev pub Below : ℕ → List ℕ → Type 0
Below n [] = Unit {0}
Below n (x ∷ l) = (x < n) × Below n l

pub chain_differ : (L : List Position) (q : Option ℕ) (l : List ℕ) → Chain L q l → Differ l
chain_differ L q [] c = tt
chain_differ L q (x ∷ l) c = (c.1, chain_differ L (Some x) l c.2)

pub chain_below : (L : List Position) (q : Option ℕ) (l : List ℕ) → Chain L q l → Below (length L) l
chain_below L q [] c = tt
chain_below L q (x ∷ l) c = (in_range L x q (first l) c.0, chain_below L (Some x) l c.2)

below_less : (n : ℕ) (l : List ℕ) → Below (suc n) l → has l n ≡ false → Below n l
below_less n [] b a = tt
below_less n (x ∷ l) b a = let ne : n ≢ x = none_first x l n a in (omega arith, below_less n l b.1 (none_rest x l n a))

below_without : (n : ℕ) (l : List ℕ) → Differ l → Below (suc n) l → Below n (without n l)
below_without n [] d b = tt
below_without n (x ∷ l) d b =
    ⊎_elim
    (λ (h : x ≡ n). subst (Below n) (sym (spliced_here n [] l x h)) (below_less n l b.1 (subst (λ z. has l z ≡ false) h d.0)))
    (λ (h : x ≢ n). subst (Below n) (sym (spliced_later n [] l x h)) (omega arith, below_without n l d.1 b.1))
    (cases_eq x n)

differ_without : (n : ℕ) (l : List ℕ) → Differ l → Differ (without n l)
differ_without n [] d = tt
differ_without n (x ∷ l) d = cond_both (eqb x n) l (x ∷ without n l) Differ (λ _. d.1) (λ _. (none_spliced n [] l x refl d.0, differ_without n l d.1))

length_without : (n : ℕ) (l : List ℕ) → length l ≤ suc (length (without n l))
length_without n [] = omega arith
length_without n (x ∷ l) = let r = length_without n l in cond_both (eqb x n) l (x ∷ without n l) (λ z. suc (length l) ≤ suc (length z)) (λ _. omega arith) (λ _. omega arith)

pub at_most : (n : ℕ) (l : List ℕ) → Differ l → Below n l → length l ≤ n
at_most zero [] d b = omega arith
at_most zero (x ∷ l) d b = omega arith
at_most (suc n) l d b = let r = length_without n l in let s = at_most n (without n l) (differ_without n l d) (below_without n l d b) in omega arith

pub chain_length : (L : List Position) (q : Option ℕ) (l : List ℕ) → Chain L q l → length l ≤ length L
chain_length L q l c = at_most (length L) l (chain_differ L q l c) (chain_below L q l c)

pub holds_length : (L : List Position) (s : Option ℕ) (l : List ℕ) → Holds L s l → length l ≤ length L
holds_length L s l h = chain_length L None l h.linked

pub below_has : (n : ℕ) (l : List ℕ) (i : ℕ) → Below n l → has l i ≡ true → i < n
below_has n [] i b h = cc
below_has n (x ∷ l) i b h = ⊎_elim
    (λ (e : eqb x i ≡ true). let q = eqb-true x i e in omega arith)
    (λ e. below_has n l i b.1 e)
    (or_cases (eqb x i) (has l i) h)

pub holds_within : (L : List Position) (s : Option ℕ) (l : List ℕ) (i : ℕ) → Holds L s l → has l i ≡ true → i < length L
holds_within L s l i h = below_has (length L) l i (chain_below L None l h.linked)

-- ---- the list can be read off
walk_chain : (n : ℕ) (L : List Position) (q s : Option ℕ) (l : List ℕ) → Chain L q l → s ≡ first l → length l ≤ n → walk n L s ≡ l
walk_chain zero L q s [] c e f = refl
walk_chain zero L q s (x ∷ l) c e f = absurd (omega arith)
walk_chain (suc n) L q s [] c e f = ap (walk (suc n) L) e
walk_chain (suc n) L q s (x ∷ l) c e f =
    ap (walk (suc n) L) e ∙ ap (λ z. x ∷ z) (walk_chain n L (Some x) (next_of (at L x)) l c.2 (ap next_of c.0) (omega arith))

pub holds_read : (L : List Position) (s : Option ℕ) (l : List ℕ) → Holds L s l → entries_of L s ≡ l
holds_read L s l h = walk_chain (length L) L None s l h.linked h.starts (holds_length L s l h)

-- ---- for those who keep several lists
pub other_sym : (s t : Option ℕ) → Other s t → Other t s
other_sym s t o h a b = o h b a

-- lists with no entry in common have different starts
pub other_from : (L : List Position) (s t : Option ℕ) (l m : List ℕ) → Holds L s l → Holds L t m → ((i : ℕ) → has l i ≡ true → has m i ≡ false) → Other t s
other_from L s t l m h k d i a b = first_not m i (d i (has_first l i (sym h.starts ∙ b))) (sym k.starts ∙ a)

-- an entry whose status stays is in no list if it was in none
pub stays_free : (L M : List Position) (j : ℕ) → is_in (at M j) ≡ is_in (at L j) → at L j ≡ None → at M j ≡ None
stays_free L M j e f = free_is (at M j) (e ∙ ap is_in f)

pub holds_differ : (L : List Position) (s : Option ℕ) (l : List ℕ) → Holds L s l → Differ l
holds_differ L s l h = chain_differ L None l h.linked

-- ---- what is in a list that i left
pub without_same : (i : ℕ) (l : List ℕ) → Differ l → has (without i l) i ≡ false
without_same i [] d = refl
without_same i (x ∷ l) d = ⊎_elim
    (λ (e : x ≡ i). ap (λ k. has k i) (spliced_here i [] l x e) ∙ subst (λ z. has l z ≡ false) e d.0)
    (λ (n : x ≢ i). ap (λ k. has k i) (spliced_later i [] l x n) ∙ none_cons x (without i l) i (λ q. n (sym q)) (without_same i l d.1))
    (cases_eq x i)

pub without_other : (i : ℕ) (l : List ℕ) (j : ℕ) → j ≢ i → has (without i l) j ≡ has l j
without_other i [] j n = refl
without_other i (x ∷ l) j n = ⊎_elim
    (λ (e : x ≡ i). ap (λ k. has k j) (spliced_here i [] l x e) ∙ ap (λ b. b || has l j) (sym (ne_eqb x j (λ q. n (sym q ∙ e)))))
    (λ (m : x ≢ i). ap (λ k. has k j) (spliced_later i [] l x m) ∙ ap (λ b. eqb x j || b) (without_other i l j n))
    (cases_eq x i)

pub without_length : (i : ℕ) (l : List ℕ) → has l i ≡ true → length l ≡ suc (length (without i l))
without_length i [] h = absurd (both_ways (has [] i) refl h)
without_length i (x ∷ l) h = ⊎_elim
    (λ (e : x ≡ i). ap suc (ap length (sym (spliced_here i [] l x e))))
    (λ (n : x ≢ i). ap suc (without_length i l (⊎_elim (λ t. absurd (n (eqb-true x i t))) (λ t. t) (or_cases (eqb x i) (has l i) h)) ∙ ap length (sym (spliced_later i [] l x n))))
    (cases_eq x i)
