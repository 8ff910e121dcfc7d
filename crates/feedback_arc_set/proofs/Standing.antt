-- Nodes at places of an order, and the places of nodes.
use Rattle.std.proofs.Common.{◌≡◌, ℕ, zero, suc, ◌<◌, ◌≤◌, Bool, true, false, cond, ◌&&◌, ◌||◌, eqb, leb, ◌⊎◌, List, [], ◌∷◌, map, length, get_or, take, Some, None, MatchOption, sym, refl, ap, ◌∙◌, inl, inr, ⊎_elim, arith}
use Rattle.std.specs.List.{slice_get}
use Rattle.std.specs.Option.{option_zip}
use Rattle.std.proofs.lemmas.List.{length-map, length-take-le}
use Rattle.std.proofs.lemmas.Bool.{eqb-true, eq-eqb, true≢false}
use Rattle.keys.specs.declared.node_index.NodeIndex.{NodeIndex}
use Rattle.keyed_table.specs.declared.slots.Item.{Item}
use Rattle.keyed_table.specs.Listing.{value_at}
use Rattle.network.specs.Counting.{has, EachOnce}
use Rattle.network.specs.Places.{place, held}
use Rattle.feedback_arc_set.specs.declared.fas_node.FasNode.{FasNode}
use Rattle.feedback_arc_set.specs.Orders.{Placed, order_in, place_of}
use Rattle.feedback_arc_set.specs.Verdicts.{place_in}
use Rattle.feedback_arc_set.specs.Cursors.{placed_and_held}

pub order_long : (xs : List NodeIndex) (n : ℕ) → n ≤ length xs → length (order_in xs n) ≡ n
order_long xs n b = length-map (take n xs) (λ k. k.value) ∙ length-take-le n xs b

pub index_taken : (xs : List NodeIndex) (n i : ℕ) → i < n → slice_get (map (λ k. k.value) xs) i ≡ slice_get (order_in xs n) i
index_taken [] (suc n) i b = refl
index_taken (x ∷ xs) (suc n) zero b = refl
index_taken (x ∷ xs) (suc n) (suc i) b = index_taken xs n i (omega arith)
index_taken xs zero i b = absurd (omega arith)

pub place_at : (order : List ℕ) (p : ℕ) → EachOnce order → p < length order → place order (get_or order p 0) ≡ p
place_at [] p o b = absurd (omega arith)
place_at (x ∷ xs) zero o b = ap (λ t. cond t 0 (suc (place xs x))) (eq-eqb x x refl)
place_at (x ∷ xs) (suc p) o b = go (eqb x (get_or xs p 0)) refl (place_at xs p o.1 (omega arith))
  where
    there : (ys : List ℕ) (q : ℕ) → q < length ys → has ys (get_or ys q 0) ≡ true
    there [] q b = absurd (omega arith)
    there (y ∷ ys) zero b = ap (λ t. t || has ys y) (eq-eqb y y refl)
    there (y ∷ ys) (suc q) b = let h = there ys q (omega arith) in grind arith

    go : (t : Bool) → eqb x (get_or xs p 0) ≡ t → place xs (get_or xs p 0) ≡ p → cond t 0 (suc (place xs (get_or xs p 0))) ≡ suc p
    go true e ih = let q = eqb-true x (get_or xs p 0) e in absurd (true≢false (sym (there xs p (omega arith)) ∙ ap (has xs) (sym q) ∙ o.0))
    go false e ih = ap suc ih

-- an item with the number k: where it stands, and the place of its value
record Stored (k : ℕ) (l : List (Item NodeIndex FasNode)) : Type 0 where
  at : ℕ
  below : at < length l
  number : get_or (map (λ x. x.number) l) at 0 ≡ k
  value : place_of (value_at k l) ≡ Some (get_or (map (λ x. x.value.place) l) at 0)
  there : has (map (λ x. x.number) l) k ≡ true

record Missing (k : ℕ) (l : List (Item NodeIndex FasNode)) : Type 0 where
  value : place_of (value_at k l) ≡ None
  there : has (map (λ x. x.number) l) k ≡ false

looked : (k : ℕ) (l : List (Item NodeIndex FasNode)) → Stored k l ⊎ Missing k l
looked k [] = inr (record { value = refl; there = refl })
looked k (x ∷ l) = go (eqb x.number k) refl (looked k l)
  where
    go : (b : Bool) → eqb x.number k ≡ b → Stored k l ⊎ Missing k l → Stored k (x ∷ l) ⊎ Missing k (x ∷ l)
    go true e ih = inl (record {
      at = 0;
      below = omega arith;
      number = eqb-true x.number k e;
      value = ap (λ t. place_of (cond t (Some x.value) (value_at k l))) e;
      there = ap (λ t. t || has (map (λ x. x.number) l) k) e;
    })
    go false e ih = ⊎_elim
        (λ (s : Stored k l). inl (record {
          at = suc s.at;
          below = let b = s.below in omega arith;
          number = s.number;
          value = ap (λ t. place_of (cond t (Some x.value) (value_at k l))) e ∙ s.value;
          there = ap (λ t. t || has (map (λ x. x.number) l) k) e ∙ s.there;
        }))
        (λ (s : Missing k l). inr (record {
          value = ap (λ t. place_of (cond t (Some x.value) (value_at k l))) e ∙ s.value;
          there = ap (λ t. t || has (map (λ x. x.number) l) k) e ∙ s.there;
        }))
        ih

-- the place of an entry is the place of its node in the order
pub place_found : (k : ℕ) (l : List (Item NodeIndex FasNode)) (order : List ℕ) → Placed l order → place_of (value_at k l) ≡ place_in order k
place_found k l order p = ⊎_elim
    (λ (s : Stored k l).
    let q = get_or (map (λ x. x.value.place) l) s.at 0 in
    let e = p.each s.at s.below in
    let here : get_or order q 0 ≡ k = e.1 ∙ s.number in
    let stands : place order k ≡ q = ap (place order) (sym here) ∙ place_at order q p.once e.0 in
    s.value ∙ ap Some (sym stands) ∙ ap (λ t. cond t (Some (place order k)) None) (sym (p.listed k ∙ s.there)))
    (λ (s : Missing k l). s.value ∙ ap (λ t. cond t (Some (place order k)) None) (sym (p.listed k ∙ s.there)))
    (looked k l)

-- the places of an arc's ends, or the lack of one, tell whether the arc is held
pub told_held : (order : List ℕ) (x y : ℕ) (r : Bool) → MatchOption (option_zip (place_in order x) (place_in order y)) (r ≡ false) (λ v. r ≡ leb v.1 v.0) → r ≡ placed_and_held order (x, y)
unfolding held
told_held order x y r h = go (has order x) (has order y) h
  where
    go : (a b : Bool) → MatchOption (option_zip (cond a (Some (place order x)) None) (cond b (Some (place order y)) None)) (r ≡ false) (λ v. r ≡ leb v.1 v.0) → r ≡ ((a && b) && leb (place order y) (place order x))
    go true true h = h
    go true false h = h
    go false b h = h
