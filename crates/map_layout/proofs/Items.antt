-- The calls of a keyed table, as searches and changes by a number.
use Rattle.std.proofs.Common.{◌≡◌, ℕ, suc, ◌<◌, ◌≤◌, true, false, cond, ◌||◌, eqb, ltb, List, [], ◌∷◌, ◌++◌, length, get_or, take, set, Some, None, Option, sym, refl, ap, ◌∙◌, arith}
use lib.Dec.{leb-suc-suc, leb-zero}
use Rattle.std.specs.Option.{option_map}
use Rattle.std.proofs.lemmas.Bool.{false≢true, cond-true, cond-false, lt-ltb, le-ltb}
use Rattle.keyed_table.specs.declared.slots.Item.{Item}
use Rattle.keyed_table.specs.Listing.{place, has, value_at, with_value, written, left, inserted, swapped_out, without}
use Rattle.map_model.specs.Lists.{one, count, found, last, front, moved, taken, changed}
use Rattle.map_model.specs.Lists as tests
use Rattle.map_model.proofs.Searching.{has_counts}
use Rattle.map_layout.specs.Layout.{numbered}
use Rattle.map_layout.proofs.Members.{taken_none}

module _ {K V : Type 0} where
  abbrev pub value_of : Item K V → V
  value_of x = x.value

  pub value_found : (k : ℕ) (l : List (Item K V)) → value_at k l ≡ option_map value_of (found (numbered k) l)
  value_found k [] = refl
  value_found k (x ∷ l) =
      elim (eqb x.number k) as (λ b. cond b (Some x.value) (value_at k l) ≡ option_map value_of (cond b (Some x) (found (numbered k) l)))
      [ true ↦ refl | false ↦ value_found k l ]

  pub written_old : (k : ℕ) (key : K) (v : V) (l : List (Item K V)) (x : Item K V) → found (numbered k) l ≡ Some x → written k key v l ≡ changed (numbered k) (with_value v) l
  written_old k key v [] x e = absurd (let z : ◌≡◌ {A = ℕ} 0 1 = cc in omega arith)
  written_old k key v (y ∷ l) x e =
      elim (eqb y.number k) as (λ b. cond b (Some y) (found (numbered k) l) ≡ Some x → cond b (with_value v y ∷ l) (y ∷ written k key v l) ≡ cond b (with_value v y ∷ l) (y ∷ changed (numbered k) (with_value v) l))
      [ true ↦ λ h. refl | false ↦ λ h. ap (λ z. y ∷ z) (written_old k key v l x h) ] e

  pub written_new : (k : ℕ) (key : K) (v : V) (l : List (Item K V)) → found (numbered k) l ≡ None → written k key v l ≡ l ++ record { number = k; key = key; value = v } ∷ []
  written_new k key v [] e = refl
  written_new k key v (y ∷ l) e =
      elim (eqb y.number k) as (λ b. cond b (Some y) (found (numbered k) l) ≡ None → cond b (with_value v y ∷ l) (y ∷ written k key v l) ≡ y ∷ (l ++ record { number = k; key = key; value = v } ∷ []))
      [ true ↦ λ h. absurd (let z : ◌≡◌ {A = ℕ} 0 1 = cc in omega arith) | false ↦ λ h. ap (λ z. y ∷ z) (written_new k key v l h) ] e

  pub has_item : (k : ℕ) (l : List (Item K V)) → has k l ≡ tests.has (numbered k) l
  has_item k [] = refl
  has_item k (x ∷ l) =
      elim (eqb x.number k) as (λ b. ltb (cond b 0 (suc (place k l))) (suc (length l)) ≡ (b || tests.has (numbered k) l))
      [ true ↦ leb-suc-suc 0 (length l) ∙ leb-zero (length l) | false ↦ leb-suc-suc (suc (place k l)) (length l) ∙ has_item k l ]

module _ {X : Type 0} where
  at_end : (d y : X) (l : List X) → get_or (y ∷ l) (length l) d ≡ last y l
  at_end d y [] = refl
  at_end d y (z ∷ l) = at_end d z l

  all_but : (y : X) (l : List X) → take (length l) (y ∷ l) ≡ front y l
  all_but y [] = refl
  all_but y (z ∷ l) = ap (λ v. y ∷ v) (all_but z l)

  -- the last fills the gap that the first leaves
  swap_first : (x : X) (l : List X) → swapped_out 0 (x ∷ l) ≡ moved l
  swap_first x [] = refl
  swap_first x (y ∷ l) = ap (λ z. z ∷ take (length l) (y ∷ l)) (at_end x y l) ∙ ap (λ z. last y l ∷ z) (all_but y l)

  swap_later : (i : ℕ) (x : X) (l : List X) → i < length l → swapped_out (suc i) (x ∷ l) ≡ x ∷ swapped_out i l
  swap_later i x [] h = absurd (omega arith)
  swap_later i x (y ∷ l) h =
      ap (λ z. x ∷ take (length l) (set (y ∷ l) i z)) (at_end x y l ∙ sym (at_end y y l))

module _ {K V : Type 0} where
  swapped_taken : (k : ℕ) (l : List (Item K V)) → tests.has (numbered k) l ≡ true → (place k l < length l) × (swapped_out (place k l) l ≡ taken (numbered k) l)
  swapped_taken k [] h = absurd (false≢true h)
  swapped_taken k (x ∷ l) h =
      elim (eqb x.number k) as (λ b. (b || tests.has (numbered k) l) ≡ true
      → (cond b 0 (suc (place k l)) < suc (length l)) × (swapped_out (cond b 0 (suc (place k l))) (x ∷ l) ≡ cond b (moved l) (x ∷ taken (numbered k) l))) [
        | true ↦ λ e. (omega arith, swap_first x l)
        | false ↦ λ e. let r = swapped_taken k l e in (let q = r.0 in omega arith, swap_later (place k l) x l r.0 ∙ ap (λ z. x ∷ z) r.1)
      ] h

  taken_absent : (k : ℕ) (l : List (Item K V)) → tests.has (numbered k) l ≡ false → taken (numbered k) l ≡ l
  taken_absent k l h = taken_none (numbered k) l (has_counts (numbered k) l h)

  pub without_taken : (k : ℕ) (l : List (Item K V)) → without k l ≡ taken (numbered k) l
  without_taken k l =
      ap (λ b. cond b (swapped_out (place k l) l) l) (has_item k l)
      ∙ elim (tests.has (numbered k) l) as (λ b. tests.has (numbered k) l ≡ b → cond b (swapped_out (place k l) l) l ≡ taken (numbered k) l)
      [ true ↦ λ e. (swapped_taken k l e).1 | false ↦ λ e. sym (taken_absent k l e) ] refl

-- a value is put at a number that is there
pub put_old : {K V : Type 0} (r k : ℕ) (key : K) (v : V) (l : List (Item K V)) (x : Item K V) → found (numbered k) l ≡ Some x → inserted r k key v l ≡ changed (numbered k) (with_value v) l
put_old r k key v l x e =
    ap (λ o. left o (ltb (length l) r) (written k key v l) l) (value_found k l ∙ ap (option_map value_of) e)
    ∙ written_old k key v l x e

-- and at one that is not, where there is room
pub put_new : {K V : Type 0} (r k : ℕ) (key : K) (v : V) (l : List (Item K V)) → found (numbered k) l ≡ None → length l < r → inserted r k key v l ≡ l ++ record { number = k; key = key; value = v } ∷ []
put_new r k key v l e h =
    ap (λ o. left o (ltb (length l) r) (written k key v l) l) (value_found k l ∙ ap (option_map value_of) e)
    ∙ cond-true (ltb (length l) r) (written k key v l) l (lt-ltb (length l) r h)
    ∙ written_new k key v l e

-- and where there is none
pub put_full : {K V : Type 0} (r k : ℕ) (key : K) (v : V) (l : List (Item K V)) → found (numbered k) l ≡ None → r ≤ length l → inserted r k key v l ≡ l
put_full r k key v l e h =
    ap (λ o. left o (ltb (length l) r) (written k key v l) l) (value_found k l ∙ ap (option_map value_of) e)
    ∙ cond-false (ltb (length l) r) (written k key v l) l (le-ltb (length l) r h)

-- ---- what a look-up says
pub value_none : {K V : Type 0} (k : ℕ) (l : List (Item K V)) → value_at k l ≡ None → found (numbered k) l ≡ None
value_none {K} {V} k l e = go (found (numbered k) l) (sym (value_found k l) ∙ e)
  where
    go : (o : Option (Item K V)) → option_map value_of o ≡ None → o ≡ None
    go None h = refl
    go (Some x) h = absurd (let z : ◌≡◌ {A = ℕ} 0 1 = cc in omega arith)

pub record Stands {K V : Type 0} (k : ℕ) (l : List (Item K V)) (v : V) : Type 0 where
  pub item : Item K V
  pub there : found (numbered k) l ≡ Some item
  pub value : item.value ≡ v

pub value_some : {K V : Type 0} (k : ℕ) (l : List (Item K V)) (v : V) → value_at k l ≡ Some v → Stands k l v
value_some {K} {V} k l v e = go (found (numbered k) l) refl
  where
    go : (o : Option (Item K V)) → found (numbered k) l ≡ o → Stands k l v
    go None h = absurd (let q : value_at k l ≡ None = value_found k l ∙ ap (option_map value_of) h in let z : ◌≡◌ {A = ℕ} 0 1 = cc in omega arith)
    go (Some x) h = let q : value_at k l ≡ Some x.value = value_found k l ∙ ap (option_map value_of) h in record { item = x; there = h; value = cc }
