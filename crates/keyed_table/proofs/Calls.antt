-- The steps of the calls of a table.
use Rattle.std.proofs.Common.{is_some, ◌≡◌, ℕ, suc, inl, inr, ◌+◌, ◌-◌, ◌<◌, ◌≤◌, ◌≢◌, Bool, true, false, cond, eqb, ltb, List, [], ◌∷◌, length, drop, drop-cons, get_or, set, replicate, Some, None, Ok, Err, Option, MatchOption, sym, refl, ap, ◌∙◌, subst, arith}
use Rattle.std.specs.List.{slice_get}
use Rattle.std.proofs.lemmas.List.{length-map, length-set, length-replicate, drop_all}
use Rattle.std.proofs.lemmas.Option.{slice_get_cases, slice_get_within, get_or_from_slice_get}
use Rattle.std.proofs.lemmas.Bool.{le-ltb, ltb-true, ltb-false, cond-false}
use Rattle.keyed_table.specs.declared.slots.Item.{Item}
use Rattle.keyed_table.specs.declared.slots.Slot.{Slot}
use Rattle.keyed_table.specs.declared.table.KeyedTable.{KeyedTable}
use Rattle.keyed_table.specs.Tables.{places, listing, room}
use Rattle.keyed_table.specs.Chains.{items, listed, Kept, Chains, Filled, holds_number, value_in, revalued, filled_gap, room_of, blank_slot}
use Rattle.keyed_table.specs.Listing.{Different, place, has, found, value_at, insert_answer, inserted, changed_at, swapped_out, without}
use Rattle.keyed_table.proofs.Mending.{blank_filled, blank_linked}
use Rattle.keyed_table.proofs.Listed.{length_listed, nth_listed, listed_different, found_at, answer_some, answer_is, value_some, value_absent, put_filled, put_apart, put_changed, kept_changed, add_filled, add_apart, replaced, pushed, refused, removed_filled, removed_apart, removed_listed}

chosen : (b : Bool) (x i : ℕ) → Some i ≡ cond b (Some x) None → (b ≡ true) × (x ≡ i)
chosen true x i e = (refl, cc)
chosen false x i e = let z : ◌≡◌ {A = ℕ} 0 1 = cc in absurd (omega arith)

unchosen : (b : Bool) (x : ℕ) → None ≡ cond b (Some x) None → b ≡ false
unchosen true x e = let z : ◌≡◌ {A = ℕ} 0 1 = cc in absurd (omega arith)
unchosen false x e = refl

size_of : {K V : Type 0} (s : List (Slot K V)) → length (items s) ≡ length s
size_of s = length-map s (λ z. z.item)

place_le : {K V : Type 0} (k : ℕ) (l : List (Item K V)) → place k l ≤ length l
place_le k [] = omega arith
place_le k (p ∷ ps) =
    elim (eqb p.number k) as (λ b. cond b 0 (suc (place k ps)) ≤ suc (length ps)) [ true ↦ omega arith | false ↦ let h = place_le k ps in omega arith ]

-- a write of one item keeps the number of slots
pub same_size : {K V : Type 0} (s t : List (Slot K V)) (i : ℕ) (o : Option (Item K V)) → items t ≡ set (items s) i o → length t ≡ length s
same_size s t i o e =
    let a = size_of s in
    let b = size_of t in
    let c = ap length e in
    let d = length-set (items s) i o in
    omega arith

pub kept_blank : {K V : Type 0} (s : List (Slot K V)) (n : ℕ) → s ≡ replicate n blank_slot → Kept s 0
kept_blank s n e = (omega arith, blank_filled s n e, λ j h. absurd (omega arith), (blank_linked s n e).0, (blank_linked s n e).1)

pub blank_size : {K V : Type 0} (s : List (Slot K V)) (n : ℕ) → s ≡ replicate n blank_slot → length s ≡ n
blank_size s n e = ap length e ∙ length-replicate n blank_slot

-- ---- slots that keep a list of n items
module _ {K V : Type 0} (s : List (Slot K V)) (n : ℕ) (kept : Kept s n) where
  pub has_some : (k : ℕ) (r : Option ℕ) → r ≡ found k (listed s n) → is_some r ≡ has k (listed s n)
  has_some k None e = sym (unchosen (has k (listed s n)) (place k (listed s n)) e)
  has_some k (Some i) e = sym (chosen (has k (listed s n)) (place k (listed s n)) i e).0

  pub add_free : (i : ℕ) → i ≡ n → is_some (get_or (items s) i None) ≡ false
  add_free i e = kept.1 i ∙ le-ltb i n (omega arith)

  pub out_missing : (k : ℕ) → None ≡ found k (listed s n) → listed s n ≡ without k (listed s n)
  out_missing k e = sym (cond-false (has k (listed s n)) (swapped_out (place k (listed s n)) (listed s n)) (listed s n) (unchosen (has k (listed s n)) (place k (listed s n)) e))

-- ---- a list from a position on
pub left_none : {X : Type 0} (l : List X) (i : ℕ) → None ≡ slice_get l i → drop i l ≡ []
left_none l i e =
    elim (slice_get_cases l i).1 [ inl w ↦ let z : ◌≡◌ {A = ℕ} 0 1 = cc in absurd (omega arith) | inr w ↦ drop_all i l w.0 ]

pub left_some : {X : Type 0} (l : List X) (i : ℕ) (x : X) → Some x ≡ slice_get l i → drop i l ≡ x ∷ drop (i + 1) l
left_some l i x e =
    let h = slice_get_within l i x (sym e) in
    let next : suc i ≡ i + 1 = omega arith in
    drop-cons l i x h ∙ ap (λ y. y ∷ drop (suc i) l) (get_or_from_slice_get l i x x (sym e)) ∙ ap (λ j. x ∷ drop j l) next

module _ {K V : Type 0} (t : KeyedTable K V) where
  fits : t.len ≤ length (items (places t))
  fits = let a = size_of (places t) in let b = t.kept.0 in omega arith

  pub chains : Chains (places t)
  chains = (t.kept.3, t.kept.4)

  pub count : t.len ≡ length (listing t)
  count = sym (length_listed (items (places t)) t.len fits t.kept.1)

  pub different : Different (listing t)
  different = listed_different (items (places t)) t.len fits t.kept.1 t.kept.2

  pub item_is : (i : ℕ) → get_or (items (places t)) i None ≡ slice_get (listing t) i
  item_is i = nth_listed (items (places t)) t.len fits t.kept.1 i

  -- ---- a search
  place_some : (k i : ℕ) → holds_number k (get_or (items (places t)) i None) ≡ true → (i < t.len) × (Some i ≡ found k (listing t))
  place_some k i e =
      let f = found_at (items (places t)) t.len fits t.kept.1 t.kept.2 k i e in
      (f.0, answer_some (items (places t)) t.len fits t.kept.1 k i f.0 f.1)

  pub found_by : (k : ℕ) (r : Option ℕ)
      → MatchOption r ((j : ℕ) → holds_number k (get_or (items (places t)) j None) ≢ true) (λ i. holds_number k (get_or (items (places t)) i None) ≡ true)
      → r ≡ found k (listing t)
  found_by k r c = answer_is (items (places t)) t.len fits t.kept.1 t.kept.2 k r c

  there : (k i : ℕ) → Some i ≡ found k (listing t) → (i < t.len) × (place k (listing t) ≡ i)
  there k i e =
      let c = chosen (has k (listing t)) (place k (listing t)) i e in
      let m = count in
      let l = ltb-true (place k (listing t)) (length (listing t)) c.0 in
      let p = c.1 in
      (omega arith, p)

  pub within : (k i : ℕ) → Some i ≡ found k (listing t) → i < t.len
  within k i e = (there k i e).0

  absent : (k : ℕ) → None ≡ found k (listing t) → place k (listing t) ≡ t.len
  absent k e =
      let m = count in
      let l = ltb-false (place k (listing t)) (length (listing t)) (unchosen (has k (listing t)) (place k (listing t)) e) in
      let u = place_le k (listing t) in
      omega arith

  -- ---- the value of a key
  pub value_there : (k i : ℕ) → Some i ≡ found k (listing t) → value_in (slice_get (listing t) i) ≡ value_at k (listing t)
  value_there k i e = let p = there k i e in ap value_in (sym (item_is i)) ∙ value_some (items (places t)) t.len fits t.kept.1 k i p.0 p.1

  pub value_missing : (k : ℕ) → None ≡ found k (listing t) → None ≡ value_at k (listing t)
  value_missing k e = value_absent (items (places t)) t.len fits t.kept.1 k (absent k e)

  -- ---- a value is changed: u are the slots after
  module _ (u : List (Slot K V)) (i : ℕ) (v : V) (is : items u ≡ set (items (places t)) i (revalued v (get_or (items (places t)) i None))) where
    pub put_kept : Chains u → Kept u t.len
    put_kept l =
        let z = same_size (places t) u i (revalued v (get_or (items (places t)) i None)) is in
        (subst (λ (m : ℕ). t.len ≤ room_of m) (sym z) t.kept.0, put_filled (items (places t)) (items u) t.len fits t.kept.1 i v is, put_apart (items (places t)) (items u) t.len fits t.kept.1 i v is t.kept.2, l.0, l.1)

    pub put_at : i < t.len → listed u t.len ≡ changed_at i v (listing t)
    put_at h = put_changed (items (places t)) (items u) t.len fits t.kept.1 i v is h

    pub put_inserted : (k : ℕ) (key : K) (r : Option V) → Some i ≡ found k (listing t) → r ≡ value_in (get_or (items (places t)) i None)
        → (Ok r ≡ insert_answer (room t) k (listing t)) × (listed u t.len ≡ inserted (room t) k key v (listing t))
    put_inserted k key r e q =
        let p = there k i e in
        replaced (items (places t)) (items u) t.len fits t.kept.1 k key v i r (ltb (length (listing t)) (room t)) is p.0 p.1 q

  pub past_at : (i : ℕ) (v : V) → t.len ≤ i → listing t ≡ changed_at i v (listing t)
  past_at i v h = kept_changed (items (places t)) t.len fits t.kept.1 i v h

  -- there is room for one more item
  pub has_room : (r : ℕ) → r ≡ room t - length (listing t) → r ≢ 0 → t.len < room t
  has_room r e h = let l = count in omega arith

  -- ---- an item with the number k is added: u are the slots after
  module _ (u : List (Slot K V)) (x : Item K V) (k : ℕ) (is_k : x.number ≡ k) (more : t.len < room t) (is : items u ≡ set (items (places t)) t.len (Some x)) (new : None ≡ found k (listing t)) where
    range : t.len < length (items (places t))
    range = let a = size_of (places t) in omega arith

    free_slot : is_some (get_or (items (places t)) t.len None) ≡ false
    free_slot = t.kept.1 t.len ∙ le-ltb t.len t.len (omega arith)

    pub add_linked : (Chains (places t) → t.len < length (items (places t)) → is_some (get_or (items (places t)) t.len None) ≡ false → Chains u) → Chains u
    add_linked f = f chains range free_slot

    pub add_kept : Chains u → Kept u (t.len + 1)
    add_kept l =
        let z = same_size (places t) u t.len (Some x) is in (
          subst (λ (m : ℕ). t.len + 1 ≤ room_of m) (sym z) (omega arith),
          add_filled (items (places t)) (items u) t.len fits t.kept.1 x range is,
          add_apart (items (places t)) (items u) t.len fits t.kept.1 x range is t.kept.2 there_not,
          l.0,
          l.1,
        )
      where
        there_not : (j : ℕ) → holds_number x.number (get_or (items (places t)) j None) ≡ true → ⊥
        there_not j e =
            let p = place_some x.number j e in
            let q = new ∙ ap (λ z. found z (listing t)) (sym is_k) in
            let z : ◌≡◌ {A = ℕ} 0 1 = cc in omega arith

    pub add_inserted : (key : K) (v : V) → x.key ≡ key → x.value ≡ v
        → (Ok None ≡ insert_answer (room t) k (listing t)) × (listed u (t.len + 1) ≡ inserted (room t) k key v (listing t))
    add_inserted key v ek ev = pushed (items (places t)) (items u) t.len fits t.kept.1 k key v x (room t) range is is_k ek ev (absent k new) more

  -- ---- no room
  pub full : (k : ℕ) (key : K) (v : V) → None ≡ found k (listing t) → (r : ℕ) → r ≡ room t - length (listing t) → r ≡ 0
      → (Err (record {}) ≡ insert_answer (room t) k (listing t)) × (listing t ≡ inserted (room t) k key v (listing t))
  full k key v e r f z = let l = count in refused (items (places t)) (items (places t)) t.len fits t.kept.1 k key v (room t) (absent k e) (omega arith)

  -- ---- an item is taken out: u are the slots after
  module _ (u : List (Slot K V)) (k i : ℕ) (old : Some i ≡ found k (listing t)) where
    in_use : i < t.len
    in_use = (there k i old).0

    pub out_filled : Filled (items (places t)) (t.len - 1 + 1)
    out_filled = let h = in_use in let q : t.len ≡ t.len - 1 + 1 = omega arith in subst (Filled (items (places t))) q t.kept.1

    pub out_range : t.len - 1 < length (items (places t))
    out_range = let h = in_use in let f = fits in omega arith

    module _ (same : length u ≡ length (places t)) (is : (j : ℕ) → get_or (items u) j None ≡ filled_gap (items (places t)) i (t.len - 1) j) where
      sizes : length (items u) ≡ length (items (places t))
      sizes = let a = size_of (places t) in let b = size_of u in omega arith

      pub out_kept : Chains u → Kept u (t.len - 1)
      out_kept l =
          let a = t.kept.0 in (
            subst (λ (m : ℕ). t.len - 1 ≤ room_of m) (sym same) (omega arith),
            removed_filled (items (places t)) (items u) t.len i fits t.kept.1 in_use sizes is,
            removed_apart (items (places t)) (items u) t.len i fits t.kept.1 in_use sizes is t.kept.2,
            l.0,
            l.1,
          )

      pub out_listing : listed u (t.len - 1) ≡ without k (listing t)
      out_listing = removed_listed (items (places t)) (items u) t.len i fits t.kept.1 in_use k sizes is (there k i old).1
