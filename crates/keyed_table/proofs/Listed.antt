-- The list of the items of a slice of slots, of which the first n are in use.
use Rattle.std.proofs.Common.{is_some, ◌≡◌, ℕ, zero, suc, ◌+◌, ◌-◌, ◌<◌, ◌≤◌, Bool, true, false, cond, eqb, ltb, ◌≢◌, List, [], ◌∷◌, ◌++◌, map, length, get_or, take, set, Some, None, Ok, Err, Option, sym, refl, ap, ◌∙◌, subst, ⊎_elim, arith, MatchOption}
use lib.Seq.{take-set-lt, map-set}
use Rattle.std.proofs.lemmas.List.{length-set, length-map, length-take-le, get_or-set_same, get_or-set_other, get_or-take, get_or_default, get_or-map, take_more_set, map_push, same_lists, set_past}
use Rattle.std.proofs.lemmas.Option.{slice_get-get_or, slice_get_past}
use Rattle.std.specs.List.{slice_get}
use Rattle.std.proofs.lemmas.Bool.Decides.{nat_tests}
use Rattle.std.proofs.lemmas.Bool.{true≢false, false≢true, ne_eqb, cases_eq, cases_lt, eq-eqb, eqb-true, lt-ltb, le-ltb, cond-true, cond-false}
use Rattle.keyed_table.specs.declared.slots.Item.{Item}
use Rattle.keyed_table.specs.Chains.{number_of, numbers, holds_number, Filled, Apart, somes, value_in, revalued, filled_gap}
use Rattle.keyed_table.specs.Listing.{Different, place, has, found, value_at, with_value, written, changed_at, swapped_out, without, answered, left}
use Rattle.keyed_table.proofs.Last.{last_is, none_last, last_none}

-- ---- lists of options
pub none_of : {K V : Type 0} (o : Option (Item K V)) → is_some o ≡ false → o ≡ None
none_of None h = refl
none_of (Some e) h = absurd (true≢false h)

pub somes_map : {X : Type 0} (l : List X) → somes (map Some l) ≡ l
somes_map [] = refl
somes_map (x ∷ l) = ap (λ z. x ∷ z) (somes_map l)

module _ {K V : Type 0} where
  pub all_some : (es : List (Option (Item K V))) → ((i : ℕ) → i < length es → is_some (get_or es i None) ≡ true) → es ≡ map Some (somes es)
  all_some [] h = refl
  all_some (None ∷ es) h = absurd (false≢true (h 0 (omega arith)))
  all_some (Some e ∷ es) h = ap (λ z. Some e ∷ z) (all_some es (λ i g. h (suc i) (omega arith)))

  -- ---- what a place says
  pub place_is : (k : ℕ) (l : List (Item K V)) (i : ℕ) (d : Item K V) → i < length l → (get_or l i d).number ≡ k → ((j : ℕ) → j < i → (get_or l j d).number ≡ k → ⊥) → place k l ≡ i
  place_is k [] i d h e n = absurd (omega arith)
  place_is k (p ∷ ps) zero d h e n = cond-true (eqb p.number k) 0 (suc (place k ps)) (eq-eqb p.number k e)
  place_is k (p ∷ ps) (suc i) d h e n =
      cond-false (eqb p.number k) 0 (suc (place k ps)) (ne_eqb p.number k (λ q. n 0 (omega arith) q))
      ∙ ap suc (place_is k ps i d (omega arith) e (λ j g q. n (suc j) (omega arith) q))

  pub place_none : (k : ℕ) (l : List (Item K V)) → ((j : ℕ) (d : Item K V) → j < length l → (get_or l j d).number ≡ k → ⊥) → place k l ≡ length l
  place_none k [] n = refl
  place_none k (p ∷ ps) n =
      cond-false (eqb p.number k) 0 (suc (place k ps)) (ne_eqb p.number k (λ q. n 0 p (omega arith) q))
      ∙ ap suc (place_none k ps (λ j d g q. n (suc j) d (omega arith) q))

  pub value_here : (k : ℕ) (l : List (Item K V)) (d : Item K V) → place k l < length l → value_at k l ≡ Some (get_or l (place k l) d).value
  value_here k [] d h = absurd (omega arith)
  value_here k (p ∷ ps) d h =
      elim (eqb p.number k) as (λ b. cond b 0 (suc (place k ps)) < suc (length ps) → cond b (Some p.value) (value_at k ps) ≡ Some (get_or (p ∷ ps) (cond b 0 (suc (place k ps))) d).value)
      [ true ↦ λ _. refl | false ↦ λ g. value_here k ps d (omega arith) ] h

  pub value_none : (k : ℕ) (l : List (Item K V)) → place k l ≡ length l → value_at k l ≡ None
  value_none k [] h = refl
  value_none k (p ∷ ps) h =
      elim (eqb p.number k) as (λ b. cond b 0 (suc (place k ps)) ≡ suc (length ps) → cond b (Some p.value) (value_at k ps) ≡ None)
      [ true ↦ λ g. absurd (omega arith) | false ↦ λ g. value_none k ps (omega arith) ] h

  pub written_here : (n : ℕ) (k : K) (v : V) (l : List (Item K V)) (d : Item K V) → place n l < length l → written n k v l ≡ set l (place n l) (with_value v (get_or l (place n l) d))
  written_here n k v [] d h = absurd (omega arith)
  written_here n k v (p ∷ ps) d h =
      elim (eqb p.number n) as (λ b. cond b 0 (suc (place n ps)) < suc (length ps) → cond b (record { number = p.number; key = p.key; value = v } ∷ ps) (p ∷ written n k v ps) ≡ set (p ∷ ps) (cond b 0 (suc (place n ps))) (record { number = (get_or (p ∷ ps) (cond b 0 (suc (place n ps))) d).number; key = (get_or (p ∷ ps) (cond b 0 (suc (place n ps))) d).key; value = v }))
      [ true ↦ λ _. refl | false ↦ λ g. ap (λ t. p ∷ t) (written_here n k v ps d (omega arith)) ] h

  pub written_none : (n : ℕ) (k : K) (v : V) (l : List (Item K V)) → place n l ≡ length l → written n k v l ≡ l ++ record { number = n; key = k; value = v } ∷ []
  written_none n k v [] h = refl
  written_none n k v (p ∷ ps) h =
      elim (eqb p.number n) as (λ b. cond b 0 (suc (place n ps)) ≡ suc (length ps) → cond b (record { number = p.number; key = p.key; value = v } ∷ ps) (p ∷ written n k v ps) ≡ p ∷ (ps ++ record { number = n; key = k; value = v } ∷ []))
      [ true ↦ λ g. absurd (omega arith) | false ↦ λ g. ap (λ t. p ∷ t) (written_none n k v ps (omega arith)) ] h

module _ {K V : Type 0} where
  pub changed_here : (i : ℕ) (v : V) (l : List (Item K V)) (d : Item K V) → i < length l → changed_at i v l ≡ set l i (with_value v (get_or l i d))
  changed_here i v [] d h = absurd (omega arith)
  changed_here zero v (p ∷ ps) d h = refl
  changed_here (suc i) v (p ∷ ps) d h = ap (λ t. p ∷ t) (changed_here i v ps d (omega arith))

  pub changed_past : (i : ℕ) (v : V) (l : List (Item K V)) → length l ≤ i → changed_at i v l ≡ l
  changed_past i v [] h = refl
  changed_past zero v (p ∷ ps) h = absurd (omega arith)
  changed_past (suc i) v (p ∷ ps) h = ap (λ t. p ∷ t) (changed_past i v ps (omega arith))

pub swapped_is : {X : Type 0} (l : List X) (i n : ℕ) (d : X) → length l ≡ suc n → swapped_out i l ≡ take n (set l i (get_or l n d))
swapped_is [] i n d h = absurd (omega arith)
swapped_is (x ∷ xs) i n d h =
    let e : length xs ≡ n = omega arith in
    let g = get_or_default (x ∷ xs) (length xs) x d (omega arith) in
    ap (λ z. take (length xs) (set (x ∷ xs) i z)) g ∙ ap (λ z. take z (set (x ∷ xs) i (get_or (x ∷ xs) z d))) e

-- ---- the slots es, of which the first n are in use
module _ {K V : Type 0} (es : List (Option (Item K V))) (n : ℕ) (fits : n ≤ length es) (filled : Filled es n) where
  listed : take n es ≡ map Some (somes (take n es))
  listed =
      all_some (take n es) (λ i h. let m = length-take-le n es fits in let g : i < n = omega arith in
      ap is_some (get_or-take n es i None g) ∙ filled i ∙ lt-ltb i n g)

  pub length_listed : length (somes (take n es)) ≡ n
  length_listed =
      let a = length-map (somes (take n es)) Some in
      let b = length-take-le n es fits in
      let c = ap length listed in
      omega arith

  pub item_listed : (i : ℕ) (d : Item K V) → i < n → get_or es i None ≡ Some (get_or (somes (take n es)) i d)
  item_listed i d h =
      let m = length_listed in
      sym (get_or-take n es i None h) ∙ ap (λ z. get_or z i None) listed ∙ get_or-map Some (somes (take n es)) i d None (omega arith)

  number_listed : (i : ℕ) (d : Item K V) → i < n → (get_or (somes (take n es)) i d).number ≡ numbers es i
  number_listed i d h = ap number_of (sym (item_listed i d h))

  holds_in : (o : Option (Item K V)) (k : ℕ) → holds_number k o ≡ true → (is_some o ≡ true) × (number_of o ≡ k)
  holds_in None k e = absurd (false≢true e)
  holds_in (Some x) k e = (refl, eqb-true x.number k e)

  in_holds : (o : Option (Item K V)) (k : ℕ) → is_some o ≡ true → number_of o ≡ k → holds_number k o ≡ true
  in_holds None k h e = absurd (false≢true h)
  in_holds (Some x) k h e = eq-eqb x.number k e

  pub used_lt : (i : ℕ) → is_some (get_or es i None) ≡ true → i < n
  used_lt i h = ⊎_elim (λ (z : i < n). z) (λ (z : n ≤ i). absurd (false≢true (sym (le-ltb i n z) ∙ sym (filled i) ∙ h))) (cases_lt i n)

  first_of : (x : Option (Item K V)) → is_some x ≡ true → Item K V
  first_of None h = absurd (false≢true h)
  first_of (Some e) h = e

  module _ (apart : Apart es n) where
    pub found_at : (k i : ℕ) → holds_number k (get_or es i None) ≡ true → (i < n) × (place k (somes (take n es)) ≡ i)
    found_at k i e =
        let a = holds_in (get_or es i None) k e in
        let h = used_lt i a.0 in
        let d = first_of (get_or es i None) a.0 in
        let m = length_listed in
        let u = last_is (numbers es) (numbers es i) i in
        let z = apart i h in (
          h,
          place_is k (somes (take n es)) i d (omega arith) (number_listed i d h ∙ a.1)
              (λ j g q. u.none j (omega arith) g (sym (number_listed j d (omega arith)) ∙ q ∙ sym a.1)),
        )

  pub found_none : (k : ℕ) → ((j : ℕ) → holds_number k (get_or es j None) ≡ true → ⊥) → place k (somes (take n es)) ≡ n
  found_none k none =
      let m = length_listed in
      place_none k (somes (take n es)) (λ j d h q. let g : j < n = omega arith in
      none j (in_holds (get_or es j None) k (filled j ∙ lt-ltb j n g) (sym (number_listed j d g) ∙ q)))
      ∙ m

  -- ---- answers of position and get
  pub answer_some : (k i : ℕ) → i < n → place k (somes (take n es)) ≡ i → Some i ≡ found k (somes (take n es))
  answer_some k i h e =
      let m = length_listed in
      let l = somes (take n es) in
      ap Some (sym e) ∙ sym (cond-true (ltb (place k l) (length l)) (Some (place k l)) None (lt-ltb (place k l) (length l) (omega arith)))

  pub answer_none : (k : ℕ) → place k (somes (take n es)) ≡ n → None ≡ found k (somes (take n es))
  answer_none k e =
      let m = length_listed in
      let l = somes (take n es) in
      sym (cond-false (ltb (place k l) (length l)) (Some (place k l)) None (le-ltb (place k l) (length l) (omega arith)))

  default : (i : ℕ) → i < n → Item K V
  default i h = first_of (get_or es i None) (filled i ∙ lt-ltb i n h)

  pub value_some : (k i : ℕ) → i < n → place k (somes (take n es)) ≡ i → value_in (get_or es i None) ≡ value_at k (somes (take n es))
  value_some k i h e =
      let m = length_listed in
      let d = default i h in
      let l = somes (take n es) in
      let v = value_here k l d (omega arith) in
      ap value_in (item_listed i d h) ∙ ap (λ z. Some (get_or l z d).value) (sym e) ∙ sym v

  pub value_absent : (k : ℕ) → place k (somes (take n es)) ≡ n → None ≡ value_at k (somes (take n es))
  value_absent k e = let m = length_listed in sym (value_none k (somes (take n es)) (omega arith))

-- whether an item has the number
pub has_is : {K V : Type 0} (es : List (Option (Item K V))) (n : ℕ) (fits : n ≤ length es) (filled : Filled es n) (apart : Apart es n) (k : ℕ) (r : Option ℕ)
    → MatchOption r ((j : ℕ) → holds_number k (get_or es j None) ≡ true → ⊥) (λ i. holds_number k (get_or es i None) ≡ true) → is_some r ≡ has k (somes (take n es))
has_is es n fits filled apart k None c =
    let m = length_listed es n fits filled in
    let f = found_none es n fits filled k c in
    sym (le-ltb (place k (somes (take n es))) (length (somes (take n es))) (omega arith))
has_is es n fits filled apart k (Some i) c =
    let m = length_listed es n fits filled in
    let f = found_at es n fits filled apart k i c in
    let h = f.0 in
    let e = f.1 in
    sym (lt-ltb (place k (somes (take n es))) (length (somes (take n es))) (omega arith))

-- ---- the item at a position
module _ {K V : Type 0} (es : List (Option (Item K V))) (n : ℕ) (fits : n ≤ length es) (filled : Filled es n) where
  pub nth_listed : (i : ℕ) → get_or es i None ≡ slice_get (somes (take n es)) i
  nth_listed i =
      let m = length_listed es n fits filled in
      ⊎_elim
      (λ (h : i < n). let d = default es n fits filled i h in item_listed es n fits filled i d h ∙ sym (slice_get-get_or (somes (take n es)) i d (omega arith)))
      (λ (h : n ≤ i). none_of (get_or es i None) (filled i ∙ le-ltb i n h) ∙ sym (slice_get_past (somes (take n es)) i (omega arith)))
      (cases_lt i n)

  -- no two items have one number
  pub listed_different : Apart es n → Different (somes (take n es))
  listed_different apart i j x y ei ej e =
      let xi : get_or es i None ≡ Some x = nth_listed i ∙ ei in
      let yj : get_or es j None ≡ Some y = nth_listed j ∙ ej in
      let hi = used_lt es n fits filled i (ap is_some xi) in
      let hj = used_lt es n fits filled j (ap is_some yj) in
      let q : numbers es i ≡ numbers es j = ap number_of xi ∙ e ∙ sym (ap number_of yj) in
      ⊎_elim
      (λ (a : i < j). absurd (last_none (numbers es) (numbers es j) j (apart j hj) i a q))
      (λ (a : j ≤ i). ⊎_elim (λ (b : j < i). absurd (last_none (numbers es) (numbers es i) i (apart i hi) j b (sym q))) (λ (b : i ≤ j). omega arith) (cases_lt j i))
      (cases_lt i j)

pub answer_is : {K V : Type 0} (es : List (Option (Item K V))) (n : ℕ) (fits : n ≤ length es) (filled : Filled es n) (apart : Apart es n) (k : ℕ) (r : Option ℕ)
    → MatchOption r ((j : ℕ) → holds_number k (get_or es j None) ≡ true → ⊥) (λ i. holds_number k (get_or es i None) ≡ true) → r ≡ found k (somes (take n es))
answer_is es n fits filled apart k None c = answer_none es n fits filled k (found_none es n fits filled k c)
answer_is es n fits filled apart k (Some i) c = let f = found_at es n fits filled apart k i c in answer_some es n fits filled k i f.0 f.1

-- ---- numbers stay different
module _ {K V : Type 0} (es ds : List (Option (Item K V))) (n : ℕ) where
  differ_from : Apart es n → (i j : ℕ) → i < j → j < n → numbers es i ≡ numbers es j → ⊥
  differ_from a i j h g e = last_none (numbers es) (numbers es j) j (a j g) i h e

  pub apart_from : ((i j : ℕ) → i < j → j < n → numbers ds i ≡ numbers ds j → ⊥) → Apart ds n
  apart_from d j h = none_last (numbers ds) (numbers ds j) j (λ i g e. d i j g h e)

some_revalued : {K V : Type 0} (v : V) (o : Option (Item K V)) → is_some (revalued v o) ≡ is_some o
some_revalued v None = refl
some_revalued v (Some e) = refl

number_revalued : {K V : Type 0} (v : V) (o : Option (Item K V)) → number_of (revalued v o) ≡ number_of o
number_revalued v None = refl
number_revalued v (Some e) = refl

module _ {K V : Type 0} {Y : Type 0} (f : Option (Item K V) → Y) (es : List (Option (Item K V))) (i : ℕ) (o : Option (Item K V)) where
  at_set : f o ≡ f (get_or es i None) → (j : ℕ) → f (get_or (set es i o) j None) ≡ f (get_or es j None)
  at_set e j =
      ⊎_elim
      (λ (h : i < length es). ⊎_elim
      (λ (q : j ≡ i). subst (λ (z : ℕ). f (get_or (set es i o) z None) ≡ f (get_or es z None)) (sym q) (ap f (get_or-set_same es i o None h) ∙ e))
      (λ (q : j ≢ i). ap f (get_or-set_other es i j o None q))
      (cases_eq j i))
      (λ (h : length es ≤ i). ap (λ z. f (get_or z j None)) (set_past es i o h))
      (cases_lt i (length es))

-- ---- an item's value is changed
module _ {K V : Type 0} (es ds : List (Option (Item K V))) (n : ℕ) (fits : n ≤ length es) (filled : Filled es n) (i : ℕ) (v : V) (is : ds ≡ set es i (revalued v (get_or es i None))) where
  pub put_fits : n ≤ length ds
  put_fits = let a = ap length is in let b = length-set es i (revalued v (get_or es i None)) in omega arith

  pub put_filled : Filled ds n
  put_filled j = ap (λ z. is_some (get_or z j None)) is ∙ at_set is_some es i (revalued v (get_or es i None)) (some_revalued v (get_or es i None)) j ∙ filled j

  put_number : (j : ℕ) → numbers ds j ≡ numbers es j
  put_number j = ap (λ z. numbers z j) is ∙ at_set number_of es i (revalued v (get_or es i None)) (number_revalued v (get_or es i None)) j

  pub put_apart : Apart es n → Apart ds n
  put_apart a = apart_from es ds n (λ x y h g e. differ_from es ds n a x y h g (sym (put_number x) ∙ e ∙ put_number y))

  put_set : (d : Item K V) → i < n → somes (take n ds) ≡ set (somes (take n es)) i (with_value v (get_or (somes (take n es)) i d))
  put_set d h =
      let x : Item K V = with_value v (get_or (somes (take n es)) i d) in
      let y : revalued v (get_or es i None) ≡ Some (with_value v (get_or (somes (take n es)) i d)) = ap (revalued v) (item_listed es n fits filled i d h) in
      ap (λ z. somes (take n z)) (is ∙ ap (set es i) y) ∙ ap somes (take-set-lt n es i (Some x) h ∙ ap (λ z. set z i (Some x)) (listed es n fits filled) ∙ sym (map-set Some (somes (take n es)) i x))
      ∙ somes_map (set (somes (take n es)) i x)

  pub put_written : (k : ℕ) (key : K) → i < n → place k (somes (take n es)) ≡ i → somes (take n ds) ≡ written k key v (somes (take n es))
  put_written k key h e =
      let m = length_listed es n fits filled in
      let d = default es n fits filled i h in
      let w = written_here k key v (somes (take n es)) d (omega arith) in
      put_set d h ∙ ap (λ z. set (somes (take n es)) z (with_value v (get_or (somes (take n es)) z d))) (sym e) ∙ sym w

  pub put_changed : i < n → somes (take n ds) ≡ changed_at i v (somes (take n es))
  put_changed h =
      let m = length_listed es n fits filled in
      let d = default es n fits filled i h in
      put_set d h ∙ sym (changed_here i v (somes (take n es)) d (omega arith))

-- past the end nothing is changed
pub kept_changed : {K V : Type 0} (es : List (Option (Item K V))) (n : ℕ) (fits : n ≤ length es) (filled : Filled es n) (i : ℕ) (v : V) → n ≤ i → somes (take n es) ≡ changed_at i v (somes (take n es))
kept_changed es n fits filled i v h = let m = length_listed es n fits filled in sym (changed_past i v (somes (take n es)) (omega arith))

-- ---- an item is added
module _ {K V : Type 0} (es ds : List (Option (Item K V))) (n : ℕ) (fits : n ≤ length es) (filled : Filled es n) (x : Item K V) (range : n < length es) (is : ds ≡ set es n (Some x)) where
  pub add_fits : n + 1 ≤ length ds
  add_fits = let a = ap length is in let b = length-set es n (Some x) in omega arith

  add_here : get_or ds n None ≡ Some x
  add_here = ap (λ z. get_or z n None) is ∙ get_or-set_same es n (Some x) None range

  add_else : (j : ℕ) → (j ≡ n → ⊥) → get_or ds j None ≡ get_or es j None
  add_else j q = ap (λ z. get_or z j None) is ∙ get_or-set_other es n j (Some x) None q

  pub add_filled : Filled ds (n + 1)
  add_filled j =
      ⊎_elim
      (λ (q : j ≡ n). ap (λ z. is_some (get_or ds z None)) q ∙ ap is_some add_here ∙ sym (lt-ltb j (n + 1) (omega arith)))
      (λ (q : j ≢ n). ap is_some (add_else j q) ∙ filled j ∙ grind (arith, nat_tests))
      (cases_eq j n)

  pub add_apart : Apart es n → ((j : ℕ) → holds_number x.number (get_or es j None) ≡ true → ⊥) → Apart ds (n + 1)
  add_apart a none =
      apart_from es ds (n + 1) (λ i j h g e.
      let i≢ : i ≢ n = omega arith in
      let ei = ap number_of (add_else i i≢) in
      ⊎_elim
      (λ (q : j ≡ n). let ej : numbers ds j ≡ x.number = ap (numbers ds) q ∙ ap number_of add_here in
      none i (in_holds es n fits filled (get_or es i None) x.number (filled i ∙ lt-ltb i n (omega arith)) (sym ei ∙ e ∙ ej)))
      (λ (q : j ≢ n). differ_from es ds n a i j h (omega arith) (sym ei ∙ e ∙ ap number_of (add_else j q)))
      (cases_eq j n))

  pub add_listed : place x.number (somes (take n es)) ≡ n → somes (take (n + 1) ds) ≡ written x.number x.key x.value (somes (take n es))
  add_listed e =
      let m = length_listed es n fits filled in
      ap (λ z. somes (take (n + 1) z)) is ∙ ap somes (take_more_set es n (Some x) range ∙ ap (λ z. z ++ Some x ∷ []) (listed es n fits filled) ∙ sym (map_push Some (somes (take n es)) x))
      ∙ somes_map (somes (take n es) ++ x ∷ []) ∙ sym (written_none x.number x.key x.value (somes (take n es)) (omega arith))

-- ---- an item is taken out
module _ {K V : Type 0} (es ds : List (Option (Item K V))) (i m : ℕ) (fits : m + 1 ≤ length es) (filled : Filled es (m + 1)) (low : i ≤ m) (same : length ds ≡ length es) (is : (j : ℕ) → get_or ds j None ≡ filled_gap es i m j) where
  from : ℕ → ℕ
  from j = cond (eqb j i) m j

  out_at : (j : ℕ) → j < m → get_or ds j None ≡ get_or es (cond (eqb j i) m j) None
  out_at j h = is j ∙ cond-true (ltb j m) (get_or es (cond (eqb j i) m j) None) None (lt-ltb j m h)

  pub out_filled : Filled ds m
  out_filled j =
      ⊎_elim
      (λ (h : j < m). ap is_some (out_at j h) ∙ filled (cond (eqb j i) m j) ∙ lt-ltb (cond (eqb j i) m j) (m + 1) (grind (arith, nat_tests)) ∙ sym (lt-ltb j m h))
      (λ (h : m ≤ j). ap is_some (is j ∙ cond-false (ltb j m) (get_or es (cond (eqb j i) m j) None) None (le-ltb j m h)) ∙ sym (le-ltb j m h))
      (cases_lt j m)

  differ_either : Apart es (m + 1) → (x y : ℕ) → x < m + 1 → y < m + 1 → numbers es x ≡ numbers es y → x ≡ y
  differ_either a x y hx hy e =
      ⊎_elim
      (λ (q : x < y). absurd (differ_from es ds (m + 1) a x y q hy e))
      (λ (q : y ≤ x). ⊎_elim (λ (w : y < x). absurd (differ_from es ds (m + 1) a y x w hx (sym e))) (λ (w : x ≤ y). omega arith) (cases_lt y x))
      (cases_lt x y)

  pub out_apart : Apart es (m + 1) → Apart ds m
  out_apart a =
      apart_from es ds m (λ x y h g e.
      let ex = ap number_of (out_at x (omega arith)) in
      let ey = ap number_of (out_at y g) in
      let r : cond (eqb x i) m x ≡ cond (eqb y i) m y = differ_either a (cond (eqb x i) m x) (cond (eqb y i) m y) (grind (arith, nat_tests)) (grind (arith, nat_tests)) (sym ex ∙ e ∙ ey) in
      grind (arith, nat_tests))

  swapped_at : (l : List (Item K V)) (d : Item K V) → length l ≡ m + 1 → (j : ℕ) → j < m → get_or (take m (set l i (get_or l m d))) j d ≡ get_or l (cond (eqb j i) m j) d
  swapped_at l d h j g =
      get_or-take m (set l i (get_or l m d)) j d g ∙
      ⊎_elim
      (λ (q : j ≡ i). let a = get_or-set_same l i (get_or l m d) d (omega arith) in let z = cond-true (eqb j i) m j (eq-eqb j i q) in cc)
      (λ (q : j ≢ i). let a = get_or-set_other l i j (get_or l m d) d q in let z = cond-false (eqb j i) m j (ne_eqb j i q) in cc)
      (cases_eq j i)

  pub out_listed : (k : ℕ) → place k (somes (take (m + 1) es)) ≡ i → somes (take m ds) ≡ without k (somes (take (m + 1) es))
  out_listed k e =
      let n = length_listed es (m + 1) fits filled in
      let d = default es (m + 1) fits filled m (omega arith) in
      let l = somes (take (m + 1) es) in
      let w = swapped_is (somes (take (m + 1) es)) i m d (omega arith) in
      let c = cond-true (ltb (place k (somes (take (m + 1) es))) (length (somes (take (m + 1) es)))) (swapped_out (place k (somes (take (m + 1) es))) (somes (take (m + 1) es))) (somes (take (m + 1) es)) (lt-ltb _ _ (omega arith)) in
      let ls = length-set (somes (take (m + 1) es)) i (get_or (somes (take (m + 1) es)) m d) in
      let lt = length-take-le m (set (somes (take (m + 1) es)) i (get_or (somes (take (m + 1) es)) m d)) (omega arith) in
      let lm = length-map (take m (set (somes (take (m + 1) es)) i (get_or (somes (take (m + 1) es)) m d))) Some in
      let ld = length-take-le m ds (omega arith) in
      let t : take m ds ≡ map Some (take m (set (somes (take (m + 1) es)) i (get_or (somes (take (m + 1) es)) m d))) =
      same_lists (take m ds) (map Some (take m (set (somes (take (m + 1) es)) i (get_or (somes (take (m + 1) es)) m d)))) (omega arith)
      (λ j x h. let g : j < m = omega arith in
      get_or_default (take m ds) j x None h ∙ get_or-take m ds j None g ∙ out_at j g
      ∙ item_listed es (m + 1) fits filled (cond (eqb j i) m j) d (grind (arith, nat_tests))
      ∙ ap Some (sym (swapped_at (somes (take (m + 1) es)) d (omega arith) j g))
      ∙ sym (get_or-map Some (take m (set (somes (take (m + 1) es)) i (get_or (somes (take (m + 1) es)) m d))) j d x (omega arith))) in
      ap somes t ∙ somes_map (take m (set (somes (take (m + 1) es)) i (get_or (somes (take (m + 1) es)) m d))) ∙ sym w ∙ ap (λ z. swapped_out z (somes (take (m + 1) es))) (sym e) ∙ sym c

  pub out_absent : (k : ℕ) → place k (somes (take (m + 1) es)) ≡ m + 1 → somes (take (m + 1) es) ≡ without k (somes (take (m + 1) es))
  out_absent k e =
      let n = length_listed es (m + 1) fits filled in
      sym (cond-false (ltb (place k (somes (take (m + 1) es))) (length (somes (take (m + 1) es)))) (swapped_out (place k (somes (take (m + 1) es))) (somes (take (m + 1) es))) (somes (take (m + 1) es)) (le-ltb _ _ (omega arith)))

-- ---- what an insertion answers and leaves
answered_some : {V : Type 0} (o : Option V) (w : V) (b : Bool) → o ≡ Some w → Ok o ≡ answered o b
answered_some o w b e = ap Ok e ∙ ap (λ z. answered z b) (sym e)

answered_none : {V : Type 0} (o : Option V) (b : Bool) → o ≡ None → answered o b ≡ cond b (Ok None) (Err (record {}))
answered_none o b e = ap (λ z. answered z b) e

left_some : {V X : Type 0} (o : Option V) (w : V) (b : Bool) (new old : X) → o ≡ Some w → left o b new old ≡ new
left_some o w b new old e = ap (λ z. left z b new old) e

left_none : {V X : Type 0} (o : Option V) (b : Bool) (new old : X) → o ≡ None → left o b new old ≡ cond b new old
left_none o b new old e = ap (λ z. left z b new old) e

module _ {K V : Type 0} (es ds : List (Option (Item K V))) (n : ℕ) (fits : n ≤ length es) (filled : Filled es n) (k : ℕ) (key : K) (v : V) where
  value_is : (i : ℕ) (h : i < n) → place k (somes (take n es)) ≡ i → value_at k (somes (take n es)) ≡ Some (get_or (somes (take n es)) (place k (somes (take n es))) (default es n fits filled i h)).value
  value_is i h e = let m = length_listed es n fits filled in value_here k (somes (take n es)) (default es n fits filled i h) (omega arith)

  pub replaced : (i : ℕ) (r : Option V) (b : Bool) → ds ≡ set es i (revalued v (get_or es i None)) → i < n → place k (somes (take n es)) ≡ i → r ≡ value_in (get_or es i None)
      → (Ok r ≡ answered (value_at k (somes (take n es))) b) × (somes (take n ds) ≡ left (value_at k (somes (take n es))) b (written k key v (somes (take n es))) (somes (take n es)))
  replaced i r b is h e q =
      let w = value_is i h e in (
        ap Ok (q ∙ value_some es n fits filled k i h e) ∙ answered_some (value_at k (somes (take n es))) _ b w,
        put_written es ds n fits filled i v is k key h e ∙ sym (left_some (value_at k (somes (take n es))) _ b (written k key v (somes (take n es))) (somes (take n es)) w),
      )

  pub pushed : (x : Item K V) (size : ℕ) → n < length es → ds ≡ set es n (Some x) → x.number ≡ k → x.key ≡ key → x.value ≡ v → place k (somes (take n es)) ≡ n → n < size
      → (Ok None ≡ answered (value_at k (somes (take n es))) (ltb (length (somes (take n es))) size))
      × (somes (take (n + 1) ds) ≡ left (value_at k (somes (take n es))) (ltb (length (somes (take n es))) size) (written k key v (somes (take n es))) (somes (take n es)))
  pushed x size range is en ek ev e lt =
      let m = length_listed es n fits filled in
      let o : value_at k (somes (take n es)) ≡ None = sym (value_absent es n fits filled k e) in
      let b : ltb (length (somes (take n es))) size ≡ true = lt-ltb _ _ (omega arith) in
      let l : somes (take (n + 1) ds) ≡ written x.number x.key x.value (somes (take n es)) = add_listed es ds n fits filled x range is (ap (λ z. place z (somes (take n es))) en ∙ e) in (
        sym (answered_none (value_at k (somes (take n es))) (ltb (length (somes (take n es))) size) o ∙ cond-true (ltb (length (somes (take n es))) size) (Ok None) (Err (record {})) b),
        l ∙ ap (λ z. written z x.key x.value (somes (take n es))) en ∙ ap (λ z. written k z x.value (somes (take n es))) ek ∙ ap (λ z. written k key z (somes (take n es))) ev
            ∙ sym (left_none (value_at k (somes (take n es))) (ltb (length (somes (take n es))) size) (written k key v (somes (take n es))) (somes (take n es)) o ∙ cond-true (ltb (length (somes (take n es))) size) (written k key v (somes (take n es))) (somes (take n es)) b),
      )

  pub refused : (size : ℕ) → place k (somes (take n es)) ≡ n → size ≤ n
      → (Err (record {}) ≡ answered (value_at k (somes (take n es))) (ltb (length (somes (take n es))) size))
      × (somes (take n es) ≡ left (value_at k (somes (take n es))) (ltb (length (somes (take n es))) size) (written k key v (somes (take n es))) (somes (take n es)))
  refused size e lt =
      let m = length_listed es n fits filled in
      let o : value_at k (somes (take n es)) ≡ None = sym (value_absent es n fits filled k e) in
      let b : ltb (length (somes (take n es))) size ≡ false = le-ltb _ _ (omega arith) in (
        sym (answered_none (value_at k (somes (take n es))) (ltb (length (somes (take n es))) size) o ∙ cond-false (ltb (length (somes (take n es))) size) (Ok None) (Err (record {})) b),
        sym (left_none (value_at k (somes (take n es))) (ltb (length (somes (take n es))) size) (written k key v (somes (take n es))) (somes (take n es)) o ∙ cond-false (ltb (length (somes (take n es))) size) (written k key v (somes (take n es))) (somes (take n es)) b),
      )

-- ---- a removal, at n = m + 1
module _ {K V : Type 0} (es ds : List (Option (Item K V))) (n i : ℕ) (fits : n ≤ length es) (filled : Filled es n) (in_use : i < n) where
  pub one_less : n - 1 + 1 ≡ n
  one_less = omega arith

  pub removed_listed : (k : ℕ) → length ds ≡ length es → ((j : ℕ) → get_or ds j None ≡ filled_gap es i (n - 1) j) → place k (somes (take n es)) ≡ i → somes (take (n - 1) ds) ≡ without k (somes (take n es))
  removed_listed k same is e =
      let q : n ≡ n - 1 + 1 = sym one_less in
      out_listed es ds i (n - 1) (omega arith) (subst (Filled es) q filled) (omega arith) same is k (ap (λ z. place k (somes (take z es))) (sym q) ∙ e) ∙ ap (λ z. without k (somes (take z es))) (sym q)

  pub removed_filled : length ds ≡ length es → ((j : ℕ) → get_or ds j None ≡ filled_gap es i (n - 1) j) → Filled ds (n - 1)
  removed_filled same is = out_filled es ds i (n - 1) (omega arith) (subst (Filled es) (sym one_less) filled) (omega arith) same is

  pub removed_apart : length ds ≡ length es → ((j : ℕ) → get_or ds j None ≡ filled_gap es i (n - 1) j) → Apart es n → Apart ds (n - 1)
  removed_apart same is a = out_apart es ds i (n - 1) (omega arith) (subst (Filled es) (sym one_less) filled) (omega arith) same is (subst (Apart es) (sym one_less) a)

pub kept_listed : {K V : Type 0} (es : List (Option (Item K V))) (n : ℕ) (fits : n ≤ length es) (filled : Filled es n) (k : ℕ) → place k (somes (take n es)) ≡ n → somes (take n es) ≡ without k (somes (take n es))
kept_listed es n fits filled k e =
    let m = length_listed es n fits filled in
    sym (cond-false (ltb (place k (somes (take n es))) (length (somes (take n es)))) (swapped_out (place k (somes (take n es))) (somes (take n es))) (somes (take n es)) (le-ltb _ _ (omega arith)))
