-- The steps of the calls on the chains of a slice of slots.
use Rattle.std.proofs.Common.{is_some, ◌≡◌, ℕ, zero, suc, ◌+◌, ◌-◌, ◌*◌, ◌/◌, ◌%◌, ◌^◌, ◌<◌, ◌≤◌, min, Bool, true, false, cond, eqb, ltb, leb, ◌≢◌, List, [], ◌∷◌, length, get_or, set, replicate, Some, None, Option, sym, refl, ap, ◌∙◌, subst, ⊎_elim, mod-lt, mul_comm, div-lt_iff_lt-mul, mul-le-mul, mul-lt-mul_of_pos_right, arith, lit<}
use native.Mathlib.Nat.{min-le_left, min-le_right}
use Rattle.std.proofs.lemmas.List.{length-set, length-map, get_or-set_same, get_or-set_other, get_or_past, set_past}
use Rattle.keys.specs.Numbers.{mixed}
use Rattle.std.proofs.lemmas.Bool.Decides.{nat_tests}
use Rattle.std.proofs.lemmas.Bool.{true≢false, false≢true, ne_eqb, cases_eq, cases_lt, lt-ltb, le-ltb, le-leb, eq-eqb, eqb-true, cond-true, cond-false}
use Rattle.keyed_table.specs.declared.slots.Item.{Item}
use Rattle.keyed_table.specs.declared.slots.Slot.{Slot}
use Rattle.keyed_table.specs.Chains.{items, heads, nexts, height, home, homes, bucket, falling, holds_number, Linked, Chains, Above, heads_to, nexts_to, Filled, revalued, filled_gap, blank_slot}
use Rattle.keyed_table.proofs.Listed.{none_of}
use Rattle.keyed_table.proofs.Last.{IsLast, last_is, is_last, Walk, walk_more, walk_in, Chained, Cell, Differ, linking, unlinking, Sought, sought_none, sought_more, none_last, chained_agree}

pub mixed_lt : (k : ℕ) → mixed k < 2 ^ 32
mixed_lt k = (div-lt_iff_lt-mul {k = 2 ^ 32} {x = k * 11400714819323198485 % 2 ^ 64} {y = 2 ^ 32} (lit< tt)).1 (mod-lt (k * 11400714819323198485) (lit< tt))

pub product_lt : (k m : ℕ) → mixed k * min m 4294967295 < 2 ^ 64
product_lt k m = let x = mixed_lt k in let y = min-le_right m 4294967295 in let r = mul-le-mul {n₁ = mixed k} {m₁ = min m 4294967295} {n₂ = 4294967295} {m₂ = 4294967295} (omega arith) y in omega arith

pub bucket_lt : (m k : ℕ) → 0 < m → bucket m k < m
bucket_lt m k h =
    let x = mixed_lt k in
    let a = min-le_left m 4294967295 in
    let b : 0 < min m 4294967295 = omega arith in
    let c : mixed k * min m 4294967295 < min m 4294967295 * 2 ^ 32 = subst (λ (z : ℕ). mixed k * min m 4294967295 < z) (mul_comm (2 ^ 32) (min m 4294967295)) (mul-lt-mul_of_pos_right x b) in
    let d : mixed k * min m 4294967295 / 2 ^ 32 < min m 4294967295 = (div-lt_iff_lt-mul {k = 2 ^ 32} {x = mixed k * min m 4294967295} {y = min m 4294967295} (lit< tt)).1 c in
    omega arith

-- the bucket of a number, among as many as the list of what the slots hold is long
pub bucket_in : {K V : Type 0} (s : List (Slot K V)) (k b : ℕ) → b ≡ bucket (length s) k → b ≡ bucket (length (items s)) k
bucket_in s k b e = e ∙ ap (λ z. bucket z k) (sym (length-map s (λ z. z.item)))

home_lt : {K V : Type 0} (m : ℕ) (o : Option (Item K V)) → home m o < m → is_some o ≡ true
home_lt m None h = absurd (omega arith)
home_lt m (Some e) h = refl

pub home_none : {K V : Type 0} (m : ℕ) (o : Option (Item K V)) → is_some o ≡ false → home m o ≡ m
home_none m None h = refl
home_none m (Some e) h = absurd (true≢false h)

some_in : {K V : Type 0} (es : List (Option (Item K V))) (i : ℕ) → is_some (get_or es i None) ≡ true → i < length es
some_in es i h =
    ⊎_elim (λ (z : i < length es). z) (λ (z : length es ≤ i). absurd (false≢true (ap is_some (sym (get_or_past es i None z)) ∙ h))) (cases_lt i (length es))

module _ {K V : Type 0} (es : List (Option (Item K V))) (hs ns : List ℕ) where
  pub chained : Linked es hs ns → Chained (homes es) (λ b. get_or hs b 0) (λ i. get_or ns i 0) (length es)
  chained l =
      record {
        inside = λ i h. some_in es i (home_lt (length es) (get_or es i None) h);
        first = λ b h. subst (IsLast (homes es) b (length es)) (sym (l.0 b h)) (last_is (homes es) b (length es));
        after = λ i h. subst (IsLast (homes es) (homes es i) i) (sym (l.1 i h)) (last_is (homes es) (homes es i) i);
      }

  pub linked : Chained (homes es) (λ b. get_or hs b 0) (λ i. get_or ns i 0) (length es) → Linked es hs ns
  linked c = (
    λ b h. is_last (homes es) b (length es) (get_or hs b 0) (c.first b h),
    λ i h. is_last (homes es) (homes es i) i (get_or ns i 0) (c.after i h),
  )

-- a link is never followed upwards, and in a right chain it is followed as it stands
pub falling_le : (i next : ℕ) → falling i next ≤ i
falling_le i next = grind (arith, nat_tests)

pub followed : {K V : Type 0} (s : List (Slot K V)) → Chains s → (i : ℕ) → homes (items s) i < length (items s) → falling i (get_or (nexts s) i 0) ≡ get_or (nexts s) i 0
followed s l i h = cond-true (leb (get_or (nexts s) i 0) i) (get_or (nexts s) i 0) 0 (le-leb (get_or (nexts s) i 0) i ((chained (items s) (heads s) (nexts s) l).after i h).low)

-- ---- a search
module _ {K V : Type 0} (s : List (Slot K V)) (k : ℕ) (l : Chains s) where
  test : ℕ → Bool
  test = λ j. holds_number k (get_or (items s) j None)

  in_bucket : (o : Option (Item K V)) (m : ℕ) → holds_number k o ≡ true → (home m o ≡ bucket m k) × (is_some o ≡ true)
  in_bucket None m e = absurd (false≢true e)
  in_bucket (Some x) m e = (ap (bucket m) (eqb-true x.number k e), refl)

  tested : (j : ℕ) → holds_number k (get_or (items s) j None) ≡ true → (homes (items s) j ≡ bucket (length (items s)) k) × (j < length (items s))
  tested j e = let r = in_bucket (get_or (items s) j None) (length (items s)) e in (r.0, some_in (items s) j r.1)

  -- at the head of the bucket; where there is no slot the head is 0
  pub seek_start : (x b : ℕ) → b ≡ bucket (length (items s)) k → x ≡ get_or (heads s) b 0 → Sought (homes (items s)) (bucket (length (items s)) k) (length (items s)) (λ j. holds_number k (get_or (items s) j None)) x
  seek_start x b q e =
      ⊎_elim
      (λ (h : 0 < length (items s)).
      sought_none (homes (items s)) (bucket (length (items s)) k) (length (items s)) (λ j. holds_number k (get_or (items s) j None)) tested x
      (subst (IsLast (homes (items s)) (bucket (length (items s)) k) (length (items s))) (sym (e ∙ ap (λ z. get_or (heads s) z 0) q)) ((chained (items s) (heads s) (nexts s) l).first _ (bucket_lt (length (items s)) k h))))
      (λ (h : length (items s) ≤ 0).
      let m = length-map s (λ z. z.item) in
      let n = length-map s (λ z. height z.head) in
      let z : x ≡ 0 = e ∙ get_or_past (heads s) b 0 (omega arith) in
      record { low = omega arith; here = λ y i. absurd (omega arith); none = λ j _ t. let w = (tested j t).1 in absurd (omega arith) })
      (cases_lt 0 (length (items s)))

  next_last : 0 < length (items s) → (y n : ℕ) → homes (items s) y ≡ bucket (length (items s)) k → n ≡ get_or (nexts s) y 0 → IsLast (homes (items s)) (homes (items s) y) y n
  next_last h y n r e =
      let b = bucket_lt (length (items s)) k h in
      subst (IsLast (homes (items s)) (homes (items s) y) y) (sym e) ((chained (items s) (heads s) (nexts s) l).after y (omega arith))

  pub seek_more : (y n : ℕ) → Sought (homes (items s)) (bucket (length (items s)) k) (length (items s)) (λ j. holds_number k (get_or (items s) j None)) (suc y) → holds_number k (get_or (items s) y None) ≡ false → n ≡ falling y (get_or (nexts s) y 0)
      → Sought (homes (items s)) (bucket (length (items s)) k) (length (items s)) (λ j. holds_number k (get_or (items s) j None)) n
  seek_more y n w t q =
      let lo = w.low in
      let hm = w.here y refl in
      let b = bucket_lt (length (items s)) k (omega arith) in
      let u = next_last (omega arith) y n hm (q ∙ followed s l y (omega arith)) in
      sought_more (homes (items s)) (bucket (length (items s)) k) (length (items s)) (λ j. holds_number k (get_or (items s) j None)) tested y n w t u

-- ---- a walk to a gap
module _ {K V : Type 0} (s : List (Slot K V)) (l : Chains s) (b e : ℕ) (h : b < length (items s)) where
  pub gap_none : (x : ℕ) → x ≡ get_or (heads s) b 0 → Walk (homes (items s)) b e (length (items s)) 0 x
  gap_none x q = record { top = λ _. subst (IsLast (homes (items s)) b (length (items s))) (sym q) ((chained (items s) (heads s) (nexts s) l).first b h); low = λ p z. absurd (omega arith) }

  pub gap_more : (q y n : ℕ) → Walk (homes (items s)) b e (length (items s)) q (suc y) → e < suc y → n ≡ falling y (get_or (nexts s) y 0) → Walk (homes (items s)) b e (length (items s)) (suc y) n
  gap_more q y n w t r =
      let i = walk_in (homes (items s)) b e (length (items s)) q y w in
      let i1 = i.1 in
      let f = followed s l y (omega arith) in
      let u : IsLast (homes (items s)) (homes (items s) y) y n = subst (IsLast (homes (items s)) (homes (items s) y) y) (sym (r ∙ f)) ((chained (items s) (heads s) (nexts s) l).after y (omega arith)) in
      walk_more (homes (items s)) b e (length (items s)) q y n w (omega arith) u

-- ---- the link above a gap
cell : (hs ns : List ℕ) (b q x : ℕ) → b < length hs → ((p : ℕ) → q ≡ suc p → p < length ns) → Cell (λ i. get_or hs i 0) (λ i. get_or ns i 0) (λ i. get_or (heads_to b q x hs) i 0) (λ i. get_or (nexts_to q x ns) i 0) b q x
cell hs ns b zero x h r =
    record { top = λ _. get_or-set_same hs b x 0 h; heads = λ c n. get_or-set_other hs b c x 0 (λ z. n refl z); low = λ p z. absurd (omega arith); nexts = λ p n. refl }
cell hs ns b (suc p) x h r =
    let f : eqb (suc p) 0 ≡ false = ne_eqb (suc p) 0 (λ z. omega arith) in
    let t : suc p - 1 ≡ p = omega arith in
    let eh : heads_to b (suc p) x hs ≡ hs = cond-false (eqb (suc p) 0) (set hs b x) hs f in
    let en : nexts_to (suc p) x ns ≡ set ns p x = cond-false (eqb (suc p) 0) ns (set ns (suc p - 1) x) f ∙ ap (λ v. set ns v x) t in
    record {
      top = λ z. absurd (omega arith);
      heads = λ c n. ap (λ v. get_or v c 0) eh;
      low = λ y z. let w : y ≡ p = omega arith in
          ap (λ v. get_or v y 0) en ∙ ap (λ v. get_or (set ns p x) v 0) w ∙ get_or-set_same ns p x 0 (r p refl);
      nexts = λ y n. ap (λ v. get_or v y 0) en ∙ get_or-set_other ns p y x 0 (λ z. n (ap suc (sym z)));
    }

differ : {K V : Type 0} (es : List (Option (Item K V))) (i : ℕ) (o : Option (Item K V)) → Differ (homes es) (homes (set es i o)) i
differ es i o j n = ap (λ m. home m (get_or (set es i o) j None)) (length-set es i o) ∙ ap (home (length es)) (get_or-set_other es i j o None n)

newly : {K V : Type 0} (es : List (Option (Item K V))) (i : ℕ) (o : Option (Item K V)) → i < length es → homes (set es i o) i ≡ home (length es) o
newly es i o h = ap (λ m. home m (get_or (set es i o) i None)) (length-set es i o) ∙ ap (home (length es)) (get_or-set_same es i o None h)

module _ {K V : Type 0} (s t : List (Slot K V)) (i b q x : ℕ) (l : Chains s) (h : i < length (items s)) where
  sizes : (length (heads s) ≡ length (items s)) × (length (nexts s) ≡ length (items s))
  sizes = let a = length-map s (λ z. z.item) in let c = length-map s (λ z. height z.head) in let d = length-map s (λ z. height z.next) in (omega arith, omega arith)

  pub link_in : (n : Item K V) → b ≡ bucket (length (items s)) n.number → is_some (get_or (items s) i None) ≡ false → Above (homes (items s)) b (suc i) (length (items s)) q x
      → items t ≡ set (items s) i (Some n) → heads t ≡ heads_to b q (suc i) (heads s) → nexts t ≡ nexts_to q (suc i) (set (nexts s) i x) → Chains t
  link_in n bk free a ei eh en =
      let z = sizes in let z0 = z.0 in let z1 = z.1 in
      let lt = bucket_lt (length (items s)) n.number (omega arith) in
      let hb : b < length (heads s) = omega arith in
      let ls = length-set (nexts s) i x in
      let c = linking (homes (items s)) (homes (set (items s) i (Some n))) (λ v. get_or (heads s) v 0) (λ v. get_or (nexts s) v 0) (λ v. get_or (set (nexts s) i x) v 0) (λ v. get_or (heads_to b q (suc i) (heads s)) v 0) (λ v. get_or (nexts_to q (suc i) (set (nexts s) i x)) v 0)
      (length (items s)) i b q x (differ (items s) i (Some n)) (home_none (length (items s)) (get_or (items s) i None) free) (newly (items s) i (Some n) h ∙ sym bk) (omega arith) h
      (chained (items s) (heads s) (nexts s) l) a
      (get_or-set_same (nexts s) i x 0 (omega arith)) (λ p g. get_or-set_other (nexts s) i p x 0 g)
      (cell (heads s) (set (nexts s) i x) b q (suc i) hb (λ p g. let w = a.at p g in let w1 = w.1 in omega arith)) in
      rw (ei, eh, en) (linked (set (items s) i (Some n)) (heads_to b q (suc i) (heads s)) (nexts_to q (suc i) (set (nexts s) i x))
      (subst (Chained (homes (set (items s) i (Some n))) (λ v. get_or (heads_to b q (suc i) (heads s)) v 0) (λ v. get_or (nexts_to q (suc i) (set (nexts s) i x)) v 0)) (sym (length-set (items s) i (Some n))) c))

  pub link_out : (n : Item K V) → b ≡ bucket (length (items s)) n.number → Some n ≡ get_or (items s) i None → Above (homes (items s)) b (suc i) (length (items s)) q x
      → (y : ℕ) → y ≡ falling i (get_or (nexts s) i 0) → items t ≡ set (items s) i None → heads t ≡ heads_to b q y (heads s) → nexts t ≡ nexts_to q y (nexts s) → Chains t
  link_out n bk used a v ev ei eh' en' =
      let z = sizes in let z0 = z.0 in let z1 = z.1 in
      let lt = bucket_lt (length (items s)) n.number (omega arith) in
      let hb : b < length (heads s) = omega arith in
      let y = get_or (nexts s) i 0 in
      let hm : homes (items s) i ≡ b = ap (home (length (items s))) (sym used) ∙ sym bk in
      let vy : v ≡ get_or (nexts s) i 0 = ev ∙ followed s l i (omega arith) in
      let eh : heads t ≡ heads_to b q (get_or (nexts s) i 0) (heads s) = eh' ∙ ap (λ z. heads_to b q z (heads s)) vy in
      let en : nexts t ≡ nexts_to q (get_or (nexts s) i 0) (nexts s) = en' ∙ ap (λ z. nexts_to q z (nexts s)) vy in
      let c = unlinking (homes (items s)) (homes (set (items s) i None)) (λ v. get_or (heads s) v 0) (λ v. get_or (nexts s) v 0) (λ v. get_or (heads_to b q y (heads s)) v 0) (λ v. get_or (nexts_to q y (nexts s)) v 0)
      (length (items s)) i b q x (differ (items s) i None) hm (newly (items s) i None h) (omega arith)
      (chained (items s) (heads s) (nexts s) l) a
      (cell (heads s) (nexts s) b q y hb (λ p g. let w = a.at p g in let w1 = w.1 in omega arith)) in
      rw (ei, eh, en) (linked (set (items s) i None) (heads_to b q y (heads s)) (nexts_to q y (nexts s))
      (subst (Chained (homes (set (items s) i None)) (λ v. get_or (heads_to b q y (heads s)) v 0) (λ v. get_or (nexts_to q y (nexts s)) v 0)) (sym (length-set (items s) i None)) c))

pub seek_empty : {K V : Type 0} (s : List (Slot K V)) (k : ℕ) → length s ≡ 0 → (j : ℕ) → holds_number k (get_or (items s) j None) ≡ true → ⊥
seek_empty [] k e j h = false≢true h
seek_empty (x ∷ xs) k e j h = omega arith

-- ---- slots that are blanked
module _ (K V : Type 0) where
  no_item : (n k : ℕ) → get_or (items {K = K} {V = V} (replicate n blank_slot)) k None ≡ None
  no_item zero k = refl
  no_item (suc n) zero = refl
  no_item (suc n) (suc k) = no_item n k

  no_head : (n k : ℕ) → get_or (heads {K = K} {V = V} (replicate n blank_slot)) k 0 ≡ 0
  no_head zero k = refl
  no_head (suc n) zero = refl
  no_head (suc n) (suc k) = no_head n k

clean : {K V : Type 0} (s : List (Slot K V)) → ((k : ℕ) → get_or (items s) k None ≡ None) → ((k : ℕ) → get_or (heads s) k 0 ≡ 0) → Chains s
clean s a h =
    let f : (k : ℕ) → homes (items s) k ≡ length (items s) = λ k. ap (home (length (items s))) (a k) in (
      λ b l. h b ∙ sym (none_last (homes (items s)) b (length (items s)) (λ j g e. let w = f j in omega arith)),
      λ i l. let w = f i in absurd (omega arith),
    )

-- a slice of blank slots holds nothing, and its chains are right
pub blank_filled : {K V : Type 0} (s : List (Slot K V)) (n : ℕ) → s ≡ replicate n blank_slot → Filled (items s) 0
blank_filled {K} {V} s n e i = ap (λ z. is_some (get_or (items z) i None)) e ∙ ap is_some (no_item K V n i) ∙ sym (le-ltb i 0 (omega arith))

pub blank_linked : {K V : Type 0} (s : List (Slot K V)) (n : ℕ) → s ≡ replicate n blank_slot → Chains s
blank_linked {K} {V} s n e = clean s (λ k. ap (λ z. get_or (items z) k None) e ∙ no_item K V n k) (λ k. ap (λ z. get_or (heads z) k 0) e ∙ no_head K V n k)

-- ---- an item's value is changed
home_revalued : {K V : Type 0} (m : ℕ) (v : V) (o : Option (Item K V)) → home m (revalued v o) ≡ home m o
home_revalued m v None = refl
home_revalued m v (Some e) = refl

homes_revalued : {K V : Type 0} (es : List (Option (Item K V))) (i : ℕ) (v : V) (j : ℕ) → homes (set es i (revalued v (get_or es i None))) j ≡ homes es j
homes_revalued es i v j =
    ⊎_elim
    (λ (h : i < length es). ⊎_elim
    (λ (q : j ≡ i). subst (λ (z : ℕ). homes (set es i (revalued v (get_or es i None))) z ≡ homes es z) (sym q) (newly es i (revalued v (get_or es i None)) h ∙ home_revalued (length es) v (get_or es i None)))
    (λ (q : j ≢ i). differ es i (revalued v (get_or es i None)) j q)
    (cases_eq j i))
    (λ (h : length es ≤ i). ap (λ z. homes z j) (set_past es i (revalued v (get_or es i None)) h))
    (cases_lt i (length es))

pub revalue : {K V : Type 0} (s t : List (Slot K V)) (i : ℕ) (v : V) → Chains s → items t ≡ set (items s) i (revalued v (get_or (items s) i None)) → heads t ≡ heads s → nexts t ≡ nexts s → Chains t
revalue s t i v l ei eh en =
    let es = set (items s) i (revalued v (get_or (items s) i None)) in
    rw (ei, eh, en) (linked (set (items s) i (revalued v (get_or (items s) i None))) (heads s) (nexts s)
    (subst (Chained (homes (set (items s) i (revalued v (get_or (items s) i None)))) (λ b. get_or (heads s) b 0) (λ b. get_or (nexts s) b 0)) (sym (length-set (items s) i (revalued v (get_or (items s) i None))))
    (chained_agree (homes (items s)) (homes (set (items s) i (revalued v (get_or (items s) i None)))) (λ b. get_or (heads s) b 0) (λ b. get_or (nexts s) b 0) (length (items s)) (homes_revalued (items s) i v) (chained (items s) (heads s) (nexts s) l))))

-- ---- the last item fills the gap
module _ {K V : Type 0} (es : List (Option (Item K V))) (i m : ℕ) (filled : Filled es (m + 1)) (low : i ≤ m) (range : m < length es) where
  past : (j : ℕ) → m < j → get_or es j None ≡ None
  past j h = none_of (get_or es j None) (filled j ∙ le-ltb j (m + 1) (omega arith))

  gap_low : (j : ℕ) → j < m → filled_gap es i m j ≡ get_or es (cond (eqb j i) m j) None
  gap_low j h = cond-true (ltb j m) (get_or es (cond (eqb j i) m j) None) None (lt-ltb j m h)

  gap_past : (j : ℕ) → m ≤ j → filled_gap es i m j ≡ None
  gap_past j h = cond-false (ltb j m) (get_or es (cond (eqb j i) m j) None) None (le-ltb j m h)

  gap_other : (j : ℕ) → j < m → (j ≡ i → ⊥) → filled_gap es i m j ≡ get_or es j None
  gap_other j h n = gap_low j h ∙ ap (λ z. get_or es z None) (cond-false (eqb j i) m j (ne_eqb j i n))

  pub out_end : m ≤ i → (j : ℕ) → get_or (set es i None) j None ≡ filled_gap es i m j
  out_end g j =
      ⊎_elim
      (λ (h : j < m). let n : j ≢ i = omega arith in get_or-set_other es i j None None n ∙ sym (gap_other j h n))
      (λ (h : m ≤ j). ⊎_elim
      (λ (q : j ≡ i). ap (λ z. get_or (set es i None) z None) q ∙ get_or-set_same es i None None (omega arith) ∙ sym (gap_past j h))
      (λ (q : j ≢ i). get_or-set_other es i j None None q ∙ past j (omega arith) ∙ sym (gap_past j h))
      (cases_eq j i))
      (cases_lt j m)

  pub out_low : (x : Option (Item K V)) → x ≡ get_or es m None → i < m → (j : ℕ) → get_or (set (set (set es i None) m None) i x) j None ≡ filled_gap es i m j
  out_low x e g j =
      let a = length-set es i None in
      let b = length-set (set es i None) m None in
      ⊎_elim
      (λ (q : j ≡ i). ap (λ z. get_or (set (set (set es i None) m None) i x) z None) q ∙ get_or-set_same (set (set es i None) m None) i x None (omega arith) ∙ e
      ∙ ap (λ z. get_or es z None) (sym (cond-true (eqb j i) m j (eq-eqb j i q))) ∙ sym (gap_low j (omega arith)))
      (λ (q : j ≢ i). get_or-set_other (set (set es i None) m None) i j x None q ∙
      ⊎_elim
      (λ (h : j < m). let n : j ≢ m = omega arith in get_or-set_other (set es i None) m j None None n ∙ get_or-set_other es i j None None q ∙ sym (gap_other j h q))
      (λ (h : m ≤ j). ⊎_elim
      (λ (w : j ≡ m). ap (λ z. get_or (set (set es i None) m None) z None) w ∙ get_or-set_same (set es i None) m None None (omega arith) ∙ sym (gap_past j h))
      (λ (w : j ≢ m). get_or-set_other (set es i None) m j None None w ∙ get_or-set_other es i j None None q ∙ past j (omega arith) ∙ sym (gap_past j h))
      (cases_eq j m))
      (cases_lt j m))
      (cases_eq j i)

  pub last_there : None ≡ get_or es m None → ⊥
  last_there e = false≢true (ap is_some e ∙ filled m ∙ lt-ltb m (m + 1) (omega arith))

-- ---- between the steps of a removal
module _ {K V : Type 0} (es ds fs : List (Option (Item K V))) (i m : ℕ) (low : i < m) (range : m < length es) (is : ds ≡ set es i None) where
  pub mid_range : m < length ds
  mid_range = let a = ap length is in let b = length-set es i None in omega arith

  pub end_range : fs ≡ set ds m None → i < length fs
  end_range q = let a = ap length is in let b = length-set es i None in let c = ap length q in let d = length-set ds m None in omega arith

  pub end_free : fs ≡ set ds m None → is_some (get_or fs i None) ≡ false
  end_free q = let n : i ≢ m = omega arith in ap (λ z. is_some (get_or z i None)) q ∙ ap is_some (get_or-set_other ds m i None None n) ∙ ap (λ z. is_some (get_or z i None)) is ∙ ap is_some (get_or-set_same es i None None (omega arith))
