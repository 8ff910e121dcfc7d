-- What the questions and the cursors show, seen from the nodes and the arcs.
use Rattle.std.proofs.Common.{◌≡◌, ℕ, ◌+◌, ◌≤◌, Bool, true, false, cond, ◌&&◌, ◌||◌, eqb, ◌⊎◌, List, [], ◌∷◌, map, Some, None, Option, sym, refl, ap, ◌∙◌, subst, inl, inr, arith}
use mathlib.Core.List.{Memᴰ}
use Rattle.std.proofs.lemmas.Bool.Decides.{nat_tests}
use Rattle.std.proofs.lemmas.Bool.{false≢true, eqb-true, eqb-false, eq-eqb, ne_eqb, and_parts}
use Rattle.network.specs.declared.direction.CompactDirection.{CompactDirection}
use Rattle.network.specs.declared.direction.CompactDirection.TheVariants.{Outgoing, Incoming}
use Rattle.map_model.specs.Lists.{one, count, has, found, kept, present, All}
use Rattle.network.specs.Directions.{opposite}
use Rattle.map_model.specs.Model.{same_direction, Link, Node, Arc, Model, named, links_to, between, links_of, links_at, weight_of, weight_at, arc_of, built, run}
use Rattle.map_model.specs.Shown.{nodes_shown, all_edges_shown, shows, with_ends, edge_of, edges_shown}
use Rattle.map_model.specs.Sound.{Fit, Sound, LinkStored, NodeStored, Stored}
use Rattle.map_model.specs.Statements.{EndsDiffer}
use Rattle.map_model.specs.Laws.{near, far, KeysDiffer, QuestionsAgree, QuestionsAgreeAfterEveryRun, EveryRunKeepsTheMap}
use Rattle.map_model.proofs.Searching.{none_counts, found_passes}
use Rattle.map_model.proofs.Running.{sound_built, sound_run}
use Rattle.map_model.proofs.Storing.{stored_built, stored_run}
use Rattle.map_model.proofs.Placing.{placed_built, placed_run}
use Rattle.map_model.proofs.Listing.{listed_counts, listed_found, found_listed}

-- ---- lists
module _ {X : Type 0} where
  pub all_of : (P : X → Type 0) (l : List X) → ((x : X) → Memᴰ x l → P x) → All P l
  all_of P [] f = tt
  all_of P (x ∷ l) f = (f x (Memᴰ.head refl), all_of P l (λ y m. f y (Memᴰ.tail m)))

  pub of_all : (P : X → Type 0) (l : List X) (x : X) → All P l → Memᴰ x l → P x
  of_all P [] x a m = elim m [ ]
  of_all P (y ∷ l) x a (Memᴰ.head e) = subst P (sym e) a.0
  of_all P (y ∷ l) x a (Memᴰ.tail m) = of_all P l x a.1 m

  pub mem_counts : (p : X → Bool) (x : X) (l : List X) → p x ≡ true → Memᴰ x l → 1 ≤ count p l
  mem_counts p x [] h m = elim m [ ]
  mem_counts p x (y ∷ l) h (Memᴰ.head e) = let k = ap one (sym (ap p e) ∙ h) in omega arith
  mem_counts p x (y ∷ l) h (Memᴰ.tail m) = let k = mem_counts p x l h m in omega arith

  pub counts_mem : (p : X → Bool) (l : List X) → 1 ≤ count p l → (x : X) × Memᴰ x l × (p x ≡ true)
  counts_mem p [] h = absurd (omega arith)
  counts_mem p (y ∷ l) h =
      elim (p y) as (λ b. p y ≡ b → 1 ≤ one b + count p l → (x : X) × Memᴰ x (y ∷ l) × (p x ≡ true)) [
        | true ↦ λ e k. (y, Memᴰ.head refl, e)
        | false ↦ λ e k. let r = counts_mem p l (omega arith) in (r.0, Memᴰ.tail r.1, r.2)
      ] refl h

  pub counts_has : (p : X → Bool) (l : List X) → 1 ≤ count p l → has p l ≡ true
  counts_has p [] h = absurd (omega arith)
  counts_has p (y ∷ l) h =
      elim (p y) as (λ b. 1 ≤ one b + count p l → (b || has p l) ≡ true) [ true ↦ λ k. refl | false ↦ λ k. counts_has p l (omega arith) ] h

  pub has_some : (p : X → Bool) (l : List X) → has p l ≡ true → 1 ≤ count p l
  has_some p [] h = absurd (false≢true h)
  has_some p (y ∷ l) h =
      elim (p y) as (λ b. (b || has p l) ≡ true → 1 ≤ one b + count p l) [ true ↦ λ k. omega arith | false ↦ λ k. let r = has_some p l k in omega arith ] h

  pub found_mem : (p : X → Bool) (l : List X) (x : X) → found p l ≡ Some x → Memᴰ x l
  found_mem p [] x h = absurd (let z : ◌≡◌ {A = ℕ} 0 1 = cc in omega arith)
  found_mem p (y ∷ l) x h =
      elim (p y) as (λ v. cond v (Some y) (found p l) ≡ Some x → Memᴰ x (y ∷ l))
      [ true ↦ λ k. Memᴰ.head (cc) | false ↦ λ k. Memᴰ.tail (found_mem p l x k) ] h

  -- what is present
  present_cases : (o : Option X) (l : List (Option X)) (y : X) → Memᴰ y (present (o ∷ l)) → (o ≡ Some y) ⊎ Memᴰ y (present l)
  present_cases None l y m = inr m
  present_cases (Some z) l y (Memᴰ.head e) = inl (ap Some (sym e))
  present_cases (Some z) l y (Memᴰ.tail m) = inr m

  present_here : (o : Option X) (l : List (Option X)) (y : X) → o ≡ Some y → Memᴰ y (present (o ∷ l))
  present_here None l y h = absurd (let z : ◌≡◌ {A = ℕ} 0 1 = cc in omega arith)
  present_here (Some z) l y h = Memᴰ.head (cc)

  present_more : (o : Option X) (l : List (Option X)) (y : X) → Memᴰ y (present l) → Memᴰ y (present (o ∷ l))
  present_more None l y m = m
  present_more (Some z) l y m = Memᴰ.tail m

module _ {X Y : Type 0} (f : X → Option Y) (p : X → Bool) where
  -- what is shown of the ones that pass
  abbrev picked : List X → List Y
  picked l = present (map f (kept p l))

  mem_picked : (y : Y) (l : List X) → Memᴰ y (picked l) → (x : X) × Memᴰ x l × (p x ≡ true) × (f x ≡ Some y)
  mem_picked y [] m = elim m [ ]
  mem_picked y (x ∷ l) m =
      elim (p x) as (λ b. p x ≡ b → Memᴰ y (present (map f (cond b (x ∷ kept p l) (kept p l)))) → (z : X) × Memᴰ z (x ∷ l) × (p z ≡ true) × (f z ≡ Some y)) [
        | true ↦ λ e n.
            elim (present_cases (f x) (map f (kept p l)) y n) [
              | inl h ↦ (x, Memᴰ.head refl, e, h)
              | inr h ↦ (let r = mem_picked y l h in (r.0, Memᴰ.tail r.1, r.2, r.3))
            ]
        | false ↦ λ e n. let r = mem_picked y l n in (r.0, Memᴰ.tail r.1, r.2, r.3)
      ] refl m

  picked_more : (y : Y) (x : X) (l : List X) → Memᴰ y (picked l) → Memᴰ y (picked (x ∷ l))
  picked_more y x l m =
      elim (p x) as (λ b. Memᴰ y (present (map f (cond b (x ∷ kept p l) (kept p l)))))
      [ true ↦ present_more (f x) (map f (kept p l)) y m | false ↦ m ]

  picked_mem : (y : Y) (x : X) (l : List X) → Memᴰ x l → p x ≡ true → f x ≡ Some y → Memᴰ y (picked l)
  picked_mem y x [] m h k = elim m [ ]
  picked_mem y x (z ∷ l) (Memᴰ.head e) h k =
      let g : p z ≡ true = sym (ap p e) ∙ h in
      subst (λ b. Memᴰ y (present (map f (cond b (z ∷ kept p l) (kept p l))))) (sym g) (present_here (f z) (map f (kept p l)) y (sym (ap f e) ∙ k))
  picked_mem y x (z ∷ l) (Memᴰ.tail m) h k = picked_more y z l (picked_mem y x l m h k)

  -- where each that passes shows something, as many are shown
  picked_all : {Z : Type 0} (g : X → Z) (h : Y → Z) (l : List X) → All (λ x. p x ≡ true → (y : Y) × (f x ≡ Some y) × (h y ≡ g x)) l → map g (kept p l) ≡ map h (picked l)
  picked_all g h [] a = refl
  picked_all {Z} g h (x ∷ l) a =
      elim (p x) as (λ b. p x ≡ b → map g (cond b (x ∷ kept p l) (kept p l)) ≡ map h (present (map f (cond b (x ∷ kept p l) (kept p l))))) [
        | true ↦ λ e.
            let r = a.0 e in
            subst (λ o. g x ∷ map g (kept p l) ≡ map h (present (o ∷ map f (kept p l)))) (sym r.1)
            (ap (λ z. z ∷ map g (kept p l)) (sym r.2) ∙ ap (λ t. h r.0 ∷ t) (picked_all g h l a.1))
        | false ↦ λ e. picked_all g h l a.1
      ] refl

or_right : (b c : Bool) → c ≡ true → (b || c) ≡ true
or_right true c h = refl
or_right false c h = h

same_self : (d : CompactDirection) → same_direction d d ≡ true
same_self Outgoing = refl
same_self Incoming = refl

-- the links of a node that a direction shows go to different nodes
shown_one : (i j x : ℕ) (e d : CompactDirection) → one ((same_direction e d || eqb x i) && eqb x j) ≤ one (eqb x j && same_direction e d) + cond (eqb i j) (one (eqb x j && same_direction e (opposite d))) 0
shown_one i j x Outgoing Outgoing = grind (arith, nat_tests)
shown_one i j x Outgoing Incoming = grind (arith, nat_tests)
shown_one i j x Incoming Outgoing = grind (arith, nat_tests)
shown_one i j x Incoming Incoming = grind (arith, nat_tests)

module _ {N : Type 0} where
  abbrev to : ℕ → CompactDirection → ℕ → Link N → Bool
  to i d j k = shows i d k && eqb k.index j

  count_shown : (i j : ℕ) (d : CompactDirection) (ks : List (Link N)) → count (to i d j) ks ≤ count (links_to j d) ks + cond (eqb i j) (count (links_to j (opposite d)) ks) 0
  count_shown i j d [] = omega arith
  count_shown i j d (k ∷ ks) =
      let p = shown_one i j k.index k.direction d in
      let q = count_shown i j d ks in
      elim (eqb i j) as (λ b.
      one (to i d j k) ≤ one (links_to j d k) + cond b (one (links_to j (opposite d) k)) 0
      → count (to i d j) ks ≤ count (links_to j d) ks + cond b (count (links_to j (opposite d)) ks) 0
      → one (to i d j k) + count (to i d j) ks ≤ one (links_to j d k) + count (links_to j d) ks + cond b (one (links_to j (opposite d) k) + count (links_to j (opposite d)) ks) 0)
      [ true ↦ λ s t. omega arith | false ↦ λ s t. omega arith ] p q

-- ---- links and arcs
module _ {N E : Type 0} where
  -- a link that a direction shows stands for an arc
  shown_counts : (i j : ℕ) (e d : CompactDirection) (nodes : List (Node N)) (arcs : List (Arc N E)) → Fit nodes arcs
      → 1 ≤ count (links_to j e) (links_at i nodes) → (same_direction e d || eqb j i) ≡ true → 1 ≤ count (arc_of i j d) arcs
  shown_counts i j Outgoing Outgoing nodes arcs f h s = let p = f.links i j Outgoing in omega arith
  shown_counts i j Incoming Outgoing nodes arcs f h s =
      let p = f.links i j Incoming in
      let q = ap (λ b. cond b 0 (count (between j i) arcs)) s in absurd (omega arith)
  shown_counts i j Outgoing Incoming nodes arcs f h s =
      let p = f.links i j Outgoing in
      let e = eqb-true j i s in
      let q : count (between i j) arcs ≡ count (between j i) arcs = ap (λ v. count (between v j) arcs) (sym e) ∙ ap (λ v. count (between j v) arcs) e in omega arith
  shown_counts i j Incoming Incoming nodes arcs f h s =
      let p = f.links i j Incoming in
      elim (eqb j i) as (λ b. count (links_to j Incoming) (links_at i nodes) ≡ cond b 0 (count (between j i) arcs) → 1 ≤ count (between j i) arcs)
      [ true ↦ λ k. absurd (omega arith) | false ↦ λ k. omega arith ] p

  pub shown_arc : (i : ℕ) (d : CompactDirection) (k : Link N) (nodes : List (Node N)) (arcs : List (Arc N E)) → Fit nodes arcs
      → Memᴰ k (links_at i nodes) → shows i d k ≡ true → 1 ≤ count (arc_of i k.index d) arcs
  shown_arc i d k nodes arcs f m s =
      let t : links_to k.index k.direction k ≡ true = ap (λ b. b && same_direction k.direction k.direction) (eq-eqb k.index k.index refl) ∙ same_self k.direction in
      shown_counts i k.index k.direction d nodes arcs f (mem_counts (links_to k.index k.direction) k (links_at i nodes) t m) s

  -- and each arc has a link that the direction shows
  pub arc_shown : (i j : ℕ) (d : CompactDirection) (nodes : List (Node N)) (arcs : List (Arc N E)) → Fit nodes arcs
      → 1 ≤ count (arc_of i j d) arcs → (k : Link N) × Memᴰ k (links_at i nodes) × (k.index ≡ j) × (shows i d k ≡ true)
  arc_shown i j Outgoing nodes arcs f h =
      let p = f.links i j Outgoing in
      let r = counts_mem (links_to j Outgoing) (links_at i nodes) (omega arith) in
      let t = and_parts _ _ r.2 in
      (r.0, r.1, eqb-true r.0.index j t.0, ap (λ b. b || eqb r.0.index i) t.1)
  arc_shown i j Incoming nodes arcs f h =
      let p = f.links i j Outgoing in
      let q = f.links i j Incoming in
      elim (eqb j i) as (λ b. eqb j i ≡ b → count (links_to j Incoming) (links_at i nodes) ≡ cond b 0 (count (between j i) arcs) → (k : Link N) × Memᴰ k (links_at i nodes) × (k.index ≡ j) × (shows i Incoming k ≡ true)) [
        | true ↦ λ e g.
            let z = eqb-true j i e in
            let u : count (between i j) arcs ≡ count (between j i) arcs = ap (λ v. count (between v j) arcs) (sym z) ∙ ap (λ v. count (between j v) arcs) z in
            let r = counts_mem (links_to j Outgoing) (links_at i nodes) (omega arith) in
            let x = eqb-true r.0.index j (and_parts _ _ r.2).0 in
            (r.0, r.1, x, or_right _ _ (eq-eqb r.0.index i (x ∙ z)))
        | false ↦ λ e g.
            let r = counts_mem (links_to j Incoming) (links_at i nodes) (omega arith) in
            let t = and_parts _ _ r.2 in
            (r.0, r.1, eqb-true r.0.index j t.0, ap (λ b. b || eqb r.0.index i) t.1)
      ] refl q

  shown_once : (i j : ℕ) (d : CompactDirection) (nodes : List (Node N)) (arcs : List (Arc N E)) → Fit nodes arcs → count (to i d j) (links_at i nodes) ≤ 1
  shown_once i j Outgoing nodes arcs f =
      let c = count_shown i j Outgoing (links_at i nodes) in
      let p = f.links i j Outgoing in
      let q = f.links i j Incoming in
      let o = f.one_arc i j in
      elim (eqb i j) as (λ b. eqb i j ≡ b → count (to i Outgoing j) (links_at i nodes) ≤ count (links_to j Outgoing) (links_at i nodes) + cond b (count (links_to j Incoming) (links_at i nodes)) 0 → count (to i Outgoing j) (links_at i nodes) ≤ 1) [
        | true ↦ λ e s. let z = ap (λ b. cond b 0 (count (between j i) arcs)) (eq-eqb j i (sym (eqb-true i j e))) in omega arith
        | false ↦ λ e s. omega arith
      ] refl c
  shown_once i j Incoming nodes arcs f =
      let c = count_shown i j Incoming (links_at i nodes) in
      let p = f.links i j Outgoing in
      let q = f.links i j Incoming in
      let o = f.one_arc i j in
      let o' = f.one_arc j i in
      elim (eqb i j) as (λ b. eqb i j ≡ b → count (to i Incoming j) (links_at i nodes) ≤ count (links_to j Incoming) (links_at i nodes) + cond b (count (links_to j Outgoing) (links_at i nodes)) 0 → count (to i Incoming j) (links_at i nodes) ≤ 1) [
        | true ↦ λ e s. let z = ap (λ b. cond b 0 (count (between j i) arcs)) (eq-eqb j i (sym (eqb-true i j e))) in omega arith
        | false ↦ λ e s. let z = ap (λ b. cond b 0 (count (between j i) arcs)) (ne_eqb j i (λ h. eqb-false i j e (sym h))) in omega arith
      ] refl c

  some_weight : (i j : ℕ) (arcs : List (Arc N E)) → 1 ≤ count (between i j) arcs → (w : E) × (weight_at i j arcs ≡ Some w)
  some_weight i j arcs h =
      elim (found (between i j) arcs) as (λ o. found (between i j) arcs ≡ o → (w : E) × (weight_of o ≡ Some w))
      [ Some x ↦ λ e. (x.weight, refl) | None ↦ λ e. let z = none_counts (between i j) arcs e in absurd (omega arith) ] refl

  -- ---- the triple that a link shows
  ends_of : (a b : N) (o : Option E) (t : N × N × E) → with_ends a b o ≡ Some t → (t.0 ≡ a) × (t.1 ≡ b) × (o ≡ Some t.2)
  ends_of a b None t h = absurd (let z : ◌≡◌ {A = ℕ} 0 1 = cc in omega arith)
  ends_of a b (Some w) t h = let e : t ≡ (a, b, w) = cc in (ap (λ u. u.0) e, ap (λ u. u.1) e, sym (ap (λ u. Some u.2) e))

  near_of : (a : N) (i : ℕ) (d : CompactDirection) (arcs : List (Arc N E)) (k : Link N) (t : N × N × E) → edge_of a i d arcs k ≡ Some t → near d t ≡ a
  near_of a i Outgoing arcs k t h = (ends_of a k.key (weight_at i k.index arcs) t h).0
  near_of a i Incoming arcs k t h = (ends_of k.key a (weight_at k.index i arcs) t h).1

  far_of : (a : N) (i : ℕ) (d : CompactDirection) (arcs : List (Arc N E)) (k : Link N) (t : N × N × E) → edge_of a i d arcs k ≡ Some t → far d t ≡ k.key
  far_of a i Outgoing arcs k t h = (ends_of a k.key (weight_at i k.index arcs) t h).1
  far_of a i Incoming arcs k t h = (ends_of k.key a (weight_at k.index i arcs) t h).0

  far_same : (d : CompactDirection) (t u : N × N × E) → t.0 ≡ u.0 → t.1 ≡ u.1 → far d t ≡ far d u
  far_same Outgoing t u p q = q
  far_same Incoming t u p q = p

  -- it shows one where its arc stands
  edge_there : (a : N) (i : ℕ) (d : CompactDirection) (arcs : List (Arc N E)) (k : Link N) → 1 ≤ count (arc_of i k.index d) arcs → (t : N × N × E) × (edge_of a i d arcs k ≡ Some t) × (far d t ≡ k.key)
  edge_there a i Outgoing arcs k h = let r = some_weight i k.index arcs h in ((a, k.key, r.0), ap (with_ends a k.key) r.1, refl)
  edge_there a i Incoming arcs k h = let r = some_weight k.index i arcs h in ((k.key, a, r.0), ap (with_ends k.key a) r.1, refl)

-- ---- keys
module _ {N : Type 0} (ix : N → ℕ) where
  stored_links : (i : ℕ) (nodes : List (Node N)) → All (NodeStored ix) nodes → All (LinkStored ix) (links_at i nodes)
  stored_links i [] a = tt
  stored_links i (x ∷ l) a =
      elim (named i x) as (λ b. All (LinkStored ix) (links_of (cond b (Some x) (found (named i) l)))) [ true ↦ a.0.links | false ↦ stored_links i l a.1 ]

module _ {N E : Type 0} (ix : N → ℕ) (inj : (x y : N) → ix x ≡ ix y → x ≡ y) (m : Model N E) (f : Sound m) (s : Stored ix m) where
  -- an arc that is found is shown
  shown_edge : (a : N) (d : CompactDirection) (k : Link N) (t : N × N × E) → LinkStored ix k → edge_of a (ix a) d m.arcs k ≡ Some t → Memᴰ t (all_edges_shown m)
  shown_edge a Outgoing k t l h =
      let e = ends_of a k.key (weight_at (ix a) k.index m.arcs) t h in
      found_listed ix inj t.0 t.1 t.2 m.arcs s.arcs
      (ap (λ v. weight_at (ix v) (ix t.1) m.arcs) e.0 ∙ ap (λ v. weight_at (ix a) v m.arcs) (ap ix e.1 ∙ sym l) ∙ e.2)
  shown_edge a Incoming k t l h =
      let e = ends_of k.key a (weight_at k.index (ix a) m.arcs) t h in
      found_listed ix inj t.0 t.1 t.2 m.arcs s.arcs
      (ap (λ v. weight_at (ix t.0) (ix v) m.arcs) e.1 ∙ ap (λ v. weight_at v (ix a) m.arcs) (ap ix e.0 ∙ sym l) ∙ e.2)

  links_stored : (a : N) → All (LinkStored ix) (links_at (ix a) m.nodes)
  links_stored a = stored_links ix (ix a) m.nodes s.nodes

  -- ---- a node's edges in a direction
  edges_to : (a : N) (d : CompactDirection) (t : N × N × E) → Memᴰ t (edges_shown ix m a d) → (near d t ≡ a) × Memᴰ t (all_edges_shown m)
  edges_to a d t h =
      let r = mem_picked (edge_of a (ix a) d m.arcs) (shows (ix a) d) t (links_at (ix a) m.nodes) h in
      (near_of a (ix a) d m.arcs r.0 t r.3, shown_edge a d r.0 t (of_all (LinkStored ix) (links_at (ix a) m.nodes) r.0 (links_stored a) r.1) r.3)

  edges_from : (a : N) (d : CompactDirection) (x y : N) (w : E) → near d (x, y, w) ≡ a → Memᴰ (x, y, w) (all_edges_shown m) → Memᴰ (x, y, w) (edges_shown ix m a d)
  edges_from a Outgoing x y w e h =
      let c = listed_counts ix x y w m.arcs s.arcs h in
      let g = listed_found ix x y w m.arcs s.arcs (f.one_arc (ix x) (ix y)) h in
      let r = arc_shown (ix a) (ix y) Outgoing m.nodes m.arcs f (subst (λ v. 1 ≤ count (between (ix v) (ix y)) m.arcs) e c) in
      let l = of_all (LinkStored ix) (links_at (ix a) m.nodes) r.0 (links_stored a) r.1 in
      let n : r.0.key ≡ y = inj _ _ (sym l ∙ r.2) in
      let t : weight_at (ix a) r.0.index m.arcs ≡ Some w = ap (λ v. weight_at (ix a) v m.arcs) r.2 ∙ ap (λ v. weight_at (ix v) (ix y) m.arcs) (sym e) ∙ g in
      picked_mem (edge_of a (ix a) Outgoing m.arcs) (shows (ix a) Outgoing) (x, y, w) r.0 (links_at (ix a) m.nodes) r.1 r.3
      (ap (with_ends a r.0.key) t ∙ (λ i. Some (sym e i, n i, w)))
  edges_from a Incoming x y w e h =
      let c = listed_counts ix x y w m.arcs s.arcs h in
      let g = listed_found ix x y w m.arcs s.arcs (f.one_arc (ix x) (ix y)) h in
      let r = arc_shown (ix a) (ix x) Incoming m.nodes m.arcs f (subst (λ v. 1 ≤ count (between (ix x) (ix v)) m.arcs) e c) in
      let l = of_all (LinkStored ix) (links_at (ix a) m.nodes) r.0 (links_stored a) r.1 in
      let n : r.0.key ≡ x = inj _ _ (sym l ∙ r.2) in
      let t : weight_at r.0.index (ix a) m.arcs ≡ Some w = ap (λ v. weight_at v (ix a) m.arcs) r.2 ∙ ap (λ v. weight_at (ix x) (ix v) m.arcs) (sym e) ∙ g in
      picked_mem (edge_of a (ix a) Incoming m.arcs) (shows (ix a) Incoming) (x, y, w) r.0 (links_at (ix a) m.nodes) r.1 r.3
      (ap (with_ends r.0.key a) t ∙ (λ i. Some (n i, sym e i, w)))

  -- no two go to one node
  edges_apart : (a : N) (d : CompactDirection) (k : Link N) (ks : List (Link N)) (t : N × N × E) → LinkStored ix k → All (LinkStored ix) ks → shows (ix a) d k ≡ true → edge_of a (ix a) d m.arcs k ≡ Some t
      → ((j : ℕ) → one (to (ix a) d j k) + count (to (ix a) d j) ks ≤ 1) → All (λ y. t.0 ≡ y.0 → t.1 ≡ y.1 → ⊥) (picked (edge_of a (ix a) d m.arcs) (shows (ix a) d) ks)
  edges_apart a d k ks t l ls p g h =
      all_of (λ y. t.0 ≡ y.0 → t.1 ≡ y.1 → ⊥) (picked (edge_of a (ix a) d m.arcs) (shows (ix a) d) ks)
      (λ y n e e'.
      let r = mem_picked (edge_of a (ix a) d m.arcs) (shows (ix a) d) y ks n in
      let q : k.key ≡ r.0.key = sym (far_of a (ix a) d m.arcs k t g) ∙ far_same d t y e e' ∙ far_of a (ix a) d m.arcs r.0 y r.3 in
      let v : r.0.index ≡ k.index = of_all (LinkStored ix) ks r.0 ls r.1 ∙ sym (ap ix q) ∙ sym l in
      let c = mem_counts (to (ix a) d k.index) r.0 ks (ap (λ b. b && eqb r.0.index k.index) r.2 ∙ eq-eqb r.0.index k.index v) r.1 in
      let b = ap one (ap (λ b. b && eqb k.index k.index) p ∙ eq-eqb k.index k.index refl) in
      let z = h k.index in
      absurd (omega arith))

  edges_differ : (a : N) (d : CompactDirection) (ks : List (Link N)) → All (LinkStored ix) ks → ((j : ℕ) → count (to (ix a) d j) ks ≤ 1) → EndsDiffer (picked (edge_of a (ix a) d m.arcs) (shows (ix a) d) ks)
  edges_differ a d [] ls h = tt
  edges_differ a d (k ∷ ks) ls h =
      let rest = edges_differ a d ks ls.1 (λ j. let z = h j in omega arith) in
      let g : Link N → Option (N × N × E) = edge_of a (ix a) d m.arcs in
      elim (shows (ix a) d k) as (λ b. shows (ix a) d k ≡ b → EndsDiffer (present (map g (cond b (k ∷ kept (shows (ix a) d) ks) (kept (shows (ix a) d) ks))))) [
        | true ↦ λ e.
            elim (g k) as (λ o. g k ≡ o → EndsDiffer (present (o ∷ map g (kept (shows (ix a) d) ks))))
            [ Some t ↦ λ q. (edges_apart a d k ks t ls.0 ls.1 e q h, rest) | None ↦ λ q. rest ] refl
        | false ↦ λ e. rest
      ] refl

  -- ---- nodes
  node_there : (i : ℕ) (k : Link N) (o : Option (Node N)) → Memᴰ k (links_of o) → (x : Node N) × (o ≡ Some x)
  node_there i k None n = elim n [ ]
  node_there i k (Some x) n = (x, refl)

  node_shown : (a : N) (k : Link N) → Memᴰ k (links_at (ix a) m.nodes) → Memᴰ a (nodes_shown m)
  node_shown a k n =
      let r = node_there (ix a) k (found (named (ix a)) m.nodes) n in
      let q = found_mem (named (ix a)) m.nodes r.0 r.1 in
      let e = eqb-true r.0.index (ix a) (found_passes (named (ix a)) m.nodes r.0 r.1) in
      let t = of_all (NodeStored ix) m.nodes r.0 s.nodes q in
      mapped m.nodes r.0 (sym (inj r.0.key a (sym t.own ∙ e))) q
    where
      mapped : (l : List (Node N)) (x : Node N) → a ≡ x.key → Memᴰ x l → Memᴰ a (map (λ z. z.key) l)
      mapped [] x p q = elim q [ ]
      mapped (y ∷ l) x p (Memᴰ.head e) = Memᴰ.head (p ∙ ap (λ z. z.key) e)
      mapped (y ∷ l) x p (Memᴰ.tail q) = Memᴰ.tail (mapped l x p q)

  ends_shown : (a b : N) (w : E) → Memᴰ (a, b, w) (all_edges_shown m) → Memᴰ a (nodes_shown m) × Memᴰ b (nodes_shown m)
  ends_shown a b w h =
      let c = listed_counts ix a b w m.arcs s.arcs h in
      let p = arc_shown (ix a) (ix b) Outgoing m.nodes m.arcs f c in
      let q = arc_shown (ix b) (ix a) Incoming m.nodes m.arcs f c in
      (node_shown a p.0 p.1, node_shown b q.0 q.1)

  keys_apart : (x : Node N) (l : List (Node N)) → NodeStored ix x → All (NodeStored ix) l → ((i : ℕ) → one (named i x) + count (named i) l ≤ 1) → All (λ y. x.key ≡ y → ⊥) (map (λ z. z.key) l)
  keys_apart x [] t ts h = tt
  keys_apart x (y ∷ l) t ts h = (
    λ e.
        let p = ap one (eq-eqb y.index x.index (ts.0.own ∙ sym (ap ix e) ∙ sym t.own)) in
        let q = ap one (eq-eqb x.index x.index refl) in
        let z = h x.index in
        absurd (omega arith),
    keys_apart x l t ts.1 (λ i. let z = h i in omega arith),
  )

  keys_differ : (l : List (Node N)) → All (NodeStored ix) l → ((i : ℕ) → count (named i) l ≤ 1) → KeysDiffer (map (λ z. z.key) l)
  keys_differ [] ts h = tt
  keys_differ (x ∷ l) ts h = (keys_apart x l ts.0 ts.1 h, keys_differ l ts.1 (λ i. let z = h i in omega arith))

  -- ---- all of it, for every map that is sound and stores each key with its own index
  pub questions_agree : QuestionsAgree ix m
  questions_agree =
      record {
        nodes_once = keys_differ m.nodes s.nodes f.one_node;
        ends = ends_shown;
        contains = λ a b. (
          λ h. let r = some_weight (ix a) (ix b) m.arcs (has_some (between (ix a) (ix b)) m.arcs h) in (r.0, found_listed ix inj a b r.0 m.arcs s.arcs r.1),
          λ h. counts_has (between (ix a) (ix b)) m.arcs (listed_counts ix a b h.0 m.arcs s.arcs h.1),
        );
        edges = λ a d t. (edges_to a d t, λ h. edges_from a d t.0 t.1 t.2 h.0 h.1);
        edges_once = λ a d. edges_differ a d (links_at (ix a) m.nodes) (links_stored a) (λ j. shown_once (ix a) j d m.nodes m.arcs f);
        neighbors = λ a d.
            picked_all (edge_of a (ix a) d m.arcs) (shows (ix a) d) (λ k. k.key) (far d) (links_at (ix a) m.nodes)
            (all_of _ (links_at (ix a) m.nodes) (λ k n p. edge_there a (ix a) d m.arcs k (shown_arc (ix a) d k m.nodes m.arcs f n p)));
      }

-- ---- after every run
pub every_run_keeps_the_map : {N E : Type 0} → EveryRunKeepsTheMap N E
every_run_keeps_the_map ix nodes arcs es =
    record {
      sound = sound_run ix (built nodes arcs) es (sound_built nodes arcs);
      placed = placed_run ix (built nodes arcs) es (placed_built nodes arcs);
      stored = stored_run ix (built nodes arcs) es (stored_built ix nodes arcs);
    }

pub questions_agree_after_every_run : {N E : Type 0} → QuestionsAgreeAfterEveryRun N E
questions_agree_after_every_run {N} {E} ix inj nodes arcs es =
    let k = every_run_keeps_the_map {N = N} {E = E} ix nodes arcs es in
    questions_agree ix inj (run ix (built nodes arcs) es) k.sound k.stored
