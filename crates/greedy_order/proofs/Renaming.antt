-- The greedy order does not look at the nodes' indices.
use Rattle.std.proofs.Common.{◌≡◌, ℕ, zero, suc, ◌+◌, ◌<◌, ◌≤◌, Bool, true, false, cond, eqb, ltb, ◌≢◌, List, [], ◌∷◌, ◌++◌, map, reverse, length, sym, refl, ap, ◌∙◌, ⊎_elim, arith}
use mathlib.Core.List.{reverse_aux}
use mathlib.Core.Option.{Option, none, some}
use Rattle.std.proofs.lemmas.List.{length-map, map-append}
use Rattle.std.proofs.lemmas.Bool.{cases_eq, cases_lt, cond-true, cond-false, eq-eqb, ne_eqb, lt-ltb, le-ltb}
use Rattle.network.specs.Counting.{has, without}
use Rattle.network.specs.Network.{Link, meet, meet_all, touched}
use Rattle.greedy_order.specs.Part1Degrees.{out_degree, in_degree}
use Rattle.greedy_order.specs.Part3Order.{out_neighbours, in_neighbours, below, to_front, all_to_front, after_taking, greedy_order}
use Rattle.greedy_order.specs.Part7Folded.{first, best_of, chosen, choose, put, run, folded_order, TheOrderOfRenamedNodesIsRenamed}
use Rattle.greedy_order.proofs.Rounds.{rounds_are_folded}

abbrev pub ren_link : (ℕ → ℕ) → Link → Link
ren_link f a = (f a.0, f a.1)

abbrev pub ren : (ℕ → ℕ) → List Link → List Link
ren f arcs = map (ren_link f) arcs

map_o : (ℕ → ℕ) → Option ℕ → Option ℕ
map_o f none = none
map_o f (some x) = some (f x)

map_cond : {X Y : Type 0} (f : X → Y) (b : Bool) (x y : X) → f (cond b x y) ≡ cond b (f x) (f y)
map_cond f true x y = refl
map_cond f false x y = refl

module _ (f : ℕ → ℕ) (inj : (x y : ℕ) → eqb (f x) (f y) ≡ eqb x y) where
  has_ren : (us : List ℕ) (x : ℕ) → has (map f us) (f x) ≡ has us x
  has_ren [] x = refl
  has_ren (u ∷ us) x = let ih = has_ren us x in let e = inj u x in cc

  without_ren : (x : ℕ) (us : List ℕ) → without (f x) (map f us) ≡ map f (without x us)
  without_ren x [] = refl
  without_ren x (u ∷ us) = let ih = without_ren x us in let e = inj u x in let c = map_cond (map f) (eqb u x) (without x us) (u ∷ without x us) in cc

  out_ren : (arcs : List Link) (us : List ℕ) (x : ℕ) → out_degree (ren f arcs) (map f us) (f x) ≡ out_degree arcs us x
  unfolding out_degree
  out_ren [] us x = refl
  out_ren (a ∷ arcs) us x = let ih = out_ren arcs us x in let e = inj a.0 x in let h = has_ren us a.1 in cc

  in_ren : (arcs : List Link) (us : List ℕ) (x : ℕ) → in_degree (ren f arcs) (map f us) (f x) ≡ in_degree arcs us x
  unfolding in_degree
  in_ren [] us x = refl
  in_ren (a ∷ arcs) us x = let ih = in_ren arcs us x in let e = inj a.1 x in let h = has_ren us a.0 in cc

  first_ren : (p q : ℕ → Bool) → ((x : ℕ) → p (f x) ≡ q x) → (us : List ℕ) → first p (map f us) ≡ map_o f (first q us)
  unfolding map_o
  first_ren p q e [] = refl
  first_ren p q e (u ∷ us) = let ih = first_ren p q e us in let h = e u in let c = map_cond (map_o f) (q u) (some u) (first q us) in ap (λ b. cond b (some (f u)) (first p (map f us))) h ∙ ap (λ o. cond (q u) (some (f u)) o) ih ∙ sym c

  best_ren : (arcs : List Link) (us : List ℕ) (x : ℕ) (ys : List ℕ) → best_of (ren f arcs) (map f us) (f x) (map f ys) ≡ f (best_of arcs us x ys)
  best_ren arcs us x [] = refl
  best_ren arcs us x (y ∷ ys) =
      let a = out_ren arcs us x in let b = in_ren arcs us y in let c = out_ren arcs us y in let d = in_ren arcs us x in
      let e : ltb (out_degree (ren f arcs) (map f us) (f x) + in_degree (ren f arcs) (map f us) (f y)) (out_degree (ren f arcs) (map f us) (f y) + in_degree (ren f arcs) (map f us) (f x)) ≡ below arcs us x y = cc in
      let g = map_cond f (below arcs us x y) y x in
      ap (λ k. best_of (ren f arcs) (map f us) (cond k (f y) (f x)) (map f ys)) e ∙ ap (λ k. best_of (ren f arcs) (map f us) k (map f ys)) (sym g)
      ∙ best_ren arcs us (cond (below arcs us x y) y x) ys

  chosen_ren : (arcs : List Link) (u : ℕ) (vs : List ℕ) (o s : Option ℕ)
      → chosen (ren f arcs) (map f (u ∷ vs)) (f u) (map f vs) (map_o f o) (map_o f s) ≡ ((chosen arcs (u ∷ vs) u vs o s).0, f (chosen arcs (u ∷ vs) u vs o s).1)
  unfolding map_o
  chosen_ren arcs u vs (some x) s = refl
  chosen_ren arcs u vs none (some x) = refl
  chosen_ren arcs u vs none none = ap (λ v. (false, v)) (best_ren arcs (u ∷ vs) u vs)

  choose_ren : (arcs : List Link) (u : ℕ) (vs : List ℕ) → choose (ren f arcs) (f u) (map f vs) ≡ ((choose arcs u vs).0, f (choose arcs u vs).1)
  unfolding choose
  choose_ren arcs u vs =
      let us = u ∷ vs in
      let a = first_ren (λ x. eqb (out_degree (ren f arcs) (map f us) x) 0) (λ x. eqb (out_degree arcs us x) 0) (λ x. ap (λ v. eqb v 0) (out_ren arcs us x)) us in
      let b = first_ren (λ x. eqb (in_degree (ren f arcs) (map f us) x) 0) (λ x. eqb (in_degree arcs us x) 0) (λ x. ap (λ v. eqb v 0) (in_ren arcs us x)) us in
      ap (λ o. chosen (ren f arcs) (map f us) (f u) (map f vs) o (first (λ x. eqb (in_degree (ren f arcs) (map f us) x) 0) (map f us))) a
      ∙ ap (λ o. chosen (ren f arcs) (map f us) (f u) (map f vs) (map_o f (first (λ x. eqb (out_degree arcs us x) 0) us)) o) b
      ∙ chosen_ren arcs u vs (first (λ x. eqb (out_degree arcs us x) 0) us) (first (λ x. eqb (in_degree arcs us x) 0) us)

  front_ren : (y : ℕ) (us : List ℕ) → to_front (f y) (map f us) ≡ map f (to_front y us)
  front_ren y us = let h = has_ren us y in let l = without_ren y us in let c = map_cond (map f) (has us y) (y ∷ without y us) us in cc

  all_ren : (ys us : List ℕ) → all_to_front (map f ys) (map f us) ≡ map f (all_to_front ys us)
  all_ren [] us = refl
  all_ren (y ∷ ys) us = ap (all_to_front (map f ys)) (front_ren y us) ∙ all_ren ys (to_front y us)

  outs_ren : (arcs : List Link) (x : ℕ) → out_neighbours (ren f arcs) (f x) ≡ map f (out_neighbours arcs x)
  outs_ren [] x = refl
  outs_ren (a ∷ arcs) x = let ih = outs_ren arcs x in let e = inj a.0 x in let c = map_cond (map f) (eqb a.0 x) (a.1 ∷ out_neighbours arcs x) (out_neighbours arcs x) in cc

  ins_ren : (arcs : List Link) (x : ℕ) → in_neighbours (ren f arcs) (f x) ≡ map f (in_neighbours arcs x)
  ins_ren [] x = refl
  ins_ren (a ∷ arcs) x = let ih = ins_ren arcs x in let e = inj a.1 x in let c = map_cond (map f) (eqb a.1 x) (a.0 ∷ in_neighbours arcs x) (in_neighbours arcs x) in cc

  taking_ren : (arcs : List Link) (x : ℕ) (us : List ℕ) → after_taking (ren f arcs) (f x) (map f us) ≡ map f (after_taking arcs x us)
  unfolding after_taking
  taking_ren arcs x us =
      ap (λ l. all_to_front (in_neighbours (ren f arcs) (f x)) (all_to_front (out_neighbours (ren f arcs) (f x)) l)) (without_ren x us)
      ∙ ap (λ l. all_to_front (in_neighbours (ren f arcs) (f x)) (all_to_front l (map f (without x us)))) (outs_ren arcs x)
      ∙ ap (all_to_front (in_neighbours (ren f arcs) (f x))) (all_ren (out_neighbours arcs x) (without x us))
      ∙ ap (λ l. all_to_front l (map f (all_to_front (out_neighbours arcs x) (without x us)))) (ins_ren arcs x)
      ∙ all_ren (in_neighbours arcs x) (all_to_front (out_neighbours arcs x) (without x us))

  put_ren : (b : Bool) (x : ℕ) (l : List ℕ) → put (b, f x) (map f l) ≡ map f (put (b, x) l)
  put_ren true x l = sym (map-append f l (x ∷ []))
  put_ren false x l = refl

  pub run_ren : (arcs : List Link) (n : ℕ) (us : List ℕ) → run (ren f arcs) n (map f us) ≡ map f (run arcs n us)
  run_ren arcs zero us = refl
  run_ren arcs (suc n) [] = refl
  run_ren arcs (suc n) (u ∷ vs) =
      let x : ℕ = (choose arcs u vs).1 in
      ap (λ c. put c (run (ren f arcs) n (after_taking (ren f arcs) c.1 (map f (u ∷ vs))))) (choose_ren arcs u vs)
      ∙ ap (λ l. put ((choose arcs u vs).0, f (choose arcs u vs).1) (run (ren f arcs) n l)) (taking_ren arcs (choose arcs u vs).1 (u ∷ vs))
      ∙ ap (put ((choose arcs u vs).0, f (choose arcs u vs).1)) (run_ren arcs n (after_taking arcs (choose arcs u vs).1 (u ∷ vs)))
      ∙ put_ren (choose arcs u vs).0 (choose arcs u vs).1 (run arcs n (after_taking arcs (choose arcs u vs).1 (u ∷ vs)))

  meet_ren : (x : ℕ) (met : List ℕ) → meet (f x) (map f met) ≡ map f (meet x met)
  meet_ren x met = let h = has_ren met x in let c = map_cond (map f) (has met x) met (met ++ (x ∷ [])) in let d = map-append f met (x ∷ []) in cc

  meets_ren : (arcs : List Link) (met : List ℕ) → meet_all (ren f arcs) (map f met) ≡ map f (meet_all arcs met)
  meets_ren [] met = refl
  meets_ren (a ∷ arcs) met = ap (λ l. meet_all (ren f arcs) (meet (f a.1) l)) (meet_ren a.0 met) ∙ ap (meet_all (ren f arcs)) (meet_ren a.1 (meet a.0 met)) ∙ meets_ren arcs (meet a.1 (meet a.0 met))

  touched_ren : (arcs : List Link) → touched (ren f arcs) ≡ map f (touched arcs)
  unfolding touched
  touched_ren arcs = meets_ren arcs []

  onto_ren : (us vs : List ℕ) → reverse_aux (map f us) (map f vs) ≡ map f (reverse_aux us vs)
  onto_ren [] vs = refl
  onto_ren (u ∷ us) vs = onto_ren us (u ∷ vs)

  folded_ren : (arcs : List Link) → folded_order (ren f arcs) ≡ map f (folded_order arcs)
  unfolding folded_order
  folded_ren arcs =
      ap (λ l. run (ren f arcs) (length l) (reverse l)) (touched_ren arcs)
      ∙ ap (λ n. run (ren f arcs) n (reverse (map f (touched arcs)))) (length-map (touched arcs) f)
      ∙ ap (run (ren f arcs) (length (touched arcs))) (onto_ren (touched arcs) [])
      ∙ run_ren arcs (length (touched arcs)) (reverse (touched arcs))

  pub greedy_ren : (arcs : List Link) → greedy_order (ren f arcs) ≡ map f (greedy_order arcs)
  greedy_ren arcs = rounds_are_folded (ren f arcs) ∙ folded_ren arcs ∙ ap (map f) (sym (rounds_are_folded arcs))

pub the_order_of_renamed_nodes_is_renamed : TheOrderOfRenamedNodesIsRenamed
the_order_of_renamed_nodes_is_renamed f inj arcs = greedy_ren f inj arcs

-- keys that differ below n, made to differ everywhere
pub spread : ℕ → ℕ → (ℕ → ℕ) → ℕ → ℕ
spread n top key x = cond (ltb x n) (key x) (top + x)

pub spread_inj : (n top : ℕ) (key : ℕ → ℕ) → ((x : ℕ) → x < n → key x < top) → ((x y : ℕ) → x < n → y < n → key x ≡ key y → x ≡ y) → (x y : ℕ) → eqb (spread n top key x) (spread n top key y) ≡ eqb x y
unfolding spread
spread_inj n top key low apart x y = ⊎_elim
    (λ (e : x ≡ y). eq-eqb _ _ (ap (λ v. cond (ltb v n) (key v) (top + v)) e) ∙ sym (eq-eqb x y e))
    (λ (e : x ≢ y). ne_eqb _ _ (λ q. e (back q)) ∙ sym (ne_eqb x y e))
    (cases_eq x y)
  where
    at_in : (v : ℕ) → v < n → cond (ltb v n) (key v) (top + v) ≡ key v
    at_in v l = cond-true (ltb v n) (key v) (top + v) (lt-ltb v n l)

    at_out : (v : ℕ) → n ≤ v → cond (ltb v n) (key v) (top + v) ≡ top + v
    at_out v l = cond-false (ltb v n) (key v) (top + v) (le-ltb v n l)

    back : cond (ltb x n) (key x) (top + x) ≡ cond (ltb y n) (key y) (top + y) → x ≡ y
    back q = ⊎_elim
        (λ (a : x < n). ⊎_elim
        (λ (b : y < n). apart x y a b (sym (at_in x a) ∙ q ∙ at_in y b))
        (λ (b : n ≤ y). absurd (let u = at_in x a in let v = at_out y b in let w = low x a in omega arith))
        (cases_lt y n))
        (λ (a : n ≤ x). ⊎_elim
        (λ (b : y < n). absurd (let u = at_out x a in let v = at_in y b in let w = low y b in omega arith))
        (λ (b : n ≤ y). let u = at_out x a in let v = at_out y b in omega arith)
        (cases_lt y n))
        (cases_lt x n)
