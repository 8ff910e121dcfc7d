-- Nodes found among the entries, and entered.
use Rattle.std.proofs.Common.{◌≡◌, ℕ, zero, suc, ◌+◌, ◌*◌, ◌<◌, ◌≤◌, Bool, true, false, cond, ◌||◌, eqb, ltb, List, [], ◌∷◌, ◌++◌, map, length, get_or, take, set, Some, None, sym, refl, ap, ◌∙◌, subst, arith}
use Rattle.std.proofs.lemmas.List.{length-map, length_push, map_push}
use Rattle.std.proofs.lemmas.Bool.{eqb-true, ltb-true, ltb-false, lt-ltb, cond-true}
use Rattle.std.proofs.lemmas.Bool.Decides.{nat_tests}
use Rattle.keys.specs.declared.node_index.NodeIndex.{NodeIndex}
use Rattle.keyed_table.specs.declared.slots.Item.{Item}
use Rattle.keyed_table.specs.Listing.{place, found, inserted, left, written}
use Rattle.keyed_table.specs.Tables.{listing}
use Rattle.keyed_table.proofs.Listed.{value_none, written_none}
use Rattle.network.specs.Counting.{has}
use Rattle.network.specs.Network.{Link, meet, meet_all, touched}
use Rattle.fas_layout.specs.Laying.{Names, Entered}
use Rattle.fas_layout.proofs.Entering.{meet_known, meet_new, names_new, met_source_few, met_target_few, entered_more}
use Rattle.keys.specs.declared.fas_node_index.FasNodeIndex.{FasNodeIndex}
use Rattle.feedback_arc_set.specs.declared.fas_node.FasNode.{FasNode}
use Rattle.feedback_arc_set.specs.declared.places.NeighbourPlace.{NeighbourPlace}
use Rattle.feedback_arc_set.specs.declared.container.FasNodeContainer.{FasNodeContainer}
use Rattle.feedback_arc_set.specs.Containers.{nodes_of, met_of, keys_of, Met}
use Rattle.feedback_arc_set.specs.Nodes.{blank_node, neighbours_of, neighbour_place}
use Rattle.feedback_arc_set.proofs.Reading.{field_written}

found_at : (k : ℕ) (l : List (Item NodeIndex FasNode)) → (place k l < length l → get_or (map (λ x. x.number) l) (place k l) 0 ≡ k) × (has (map (λ x. x.number) l) k ≡ ltb (place k l) (length l))
found_at k [] = ((λ b. absurd (omega arith)), refl)
found_at k (x ∷ l) = go (eqb x.number k) refl (found_at k l)
  where
    go : (b : Bool) → eqb x.number k ≡ b → (place k l < length l → get_or (map (λ x. x.number) l) (place k l) 0 ≡ k) × (has (map (λ x. x.number) l) k ≡ ltb (place k l) (length l))
        → (cond b 0 (suc (place k l)) < suc (length l) → get_or (x.number ∷ map (λ x. x.number) l) (cond b 0 (suc (place k l))) 0 ≡ k) × ((b || has (map (λ x. x.number) l) k) ≡ ltb (cond b 0 (suc (place k l))) (suc (length l)))
    go true e ih = ((λ _. eqb-true x.number k e), sym (lt-ltb 0 (suc (length l)) (omega arith)))
    go false e ih = ((λ h. ih.0 (omega arith)), ih.1 ∙ grind (arith, nat_tests))

pub found_some : (k i : ℕ) (l : List (Item NodeIndex FasNode)) → Some i ≡ found k l → Names (map (λ x. x.number) l) i k × (has (map (λ x. x.number) l) k ≡ true)
found_some k i l e = go (ltb (place k l) (length l)) refl e
  where
    go : (b : Bool) → ltb (place k l) (length l) ≡ b → Some i ≡ cond b (Some (place k l)) None → Names (map (λ x. x.number) l) i k × (has (map (λ x. x.number) l) k ≡ true)
    go true h f =
        let q : i ≡ place k l = cc in
        let b = ltb-true (place k l) (length l) h in
        let n = length-map l (λ x. x.number) in
        ((omega arith, ap (λ v. get_or (map (λ x. x.number) l) v 0) q ∙ (found_at k l).0 b), (found_at k l).1 ∙ h)
    go false h f = absurd (let z : ◌≡◌ {A = ℕ} 0 1 = cc in omega arith)

pub found_none : (k : ℕ) (l : List (Item NodeIndex FasNode)) → None ≡ found k l → (has (map (λ x. x.number) l) k ≡ false) × (place k l ≡ length l)
found_none k l e = go (ltb (place k l) (length l)) refl e
  where
    low : (l : List (Item NodeIndex FasNode)) → place k l ≤ length l
    low [] = omega arith
    low (x ∷ l) = let ih = low l in grind arith

    go : (b : Bool) → ltb (place k l) (length l) ≡ b → None ≡ cond b (Some (place k l)) None → (has (map (λ x. x.number) l) k ≡ false) × (place k l ≡ length l)
    go true h f = absurd (let z : ◌≡◌ {A = ℕ} 0 1 = cc in omega arith)
    go false h f = ((found_at k l).1 ∙ h, let a = ltb-false (place k l) (length l) h in let b = low l in omega arith)

abbrev item : ℕ → NodeIndex → FasNode → Item NodeIndex FasNode
item k key v = record { number = k; key = key; value = v }

pub inserted_new : (r k : ℕ) (key : NodeIndex) (v : FasNode) (l : List (Item NodeIndex FasNode)) → place k l ≡ length l → length l < r → inserted r k key v l ≡ l ++ (record { number = k; key = key; value = v } ∷ [])
inserted_new r k key v l p b =
    ap (λ o. left o (ltb (length l) r) (written k key v l) l) (value_none k l p) ∙ cond-true (ltb (length l) r) (written k key v l) l (lt-ltb (length l) r b) ∙ written_none k key v l p

blank_push : (ns : List FasNode) → ((k : ℕ) → get_or ns k blank_node ≡ blank_node) → (k : ℕ) → get_or (ns ++ (blank_node ∷ [])) k blank_node ≡ blank_node
blank_push [] h zero = refl
blank_push [] h (suc k) = refl
blank_push (n ∷ ns) h zero = h 0
blank_push (n ∷ ns) h (suc k) = blank_push ns (λ j. h (suc j)) k

-- a node that was met before
pub met_again : (c : FasNodeContainer) (x i : ℕ) → Some i ≡ found x (listing c.table) → Met c c x i
met_again c x i e =
    let f = found_some x i (listing c.table) e in
    record { met = sym (meet_known x (met_of c) f.1); entry = f.0; blank = λ h. h; own = λ h. h }

-- a node that is met for the first time
pub met_first : (a b : FasNodeContainer) (key : NodeIndex) (x n : ℕ) → x ≡ key.value → None ≡ found x (listing a.table) → listing b.table ≡ listing a.table ++ (record { number = x; key = key; value = blank_node } ∷ []) → n ≡ length (listing a.table) → Met a b x n
met_first a b key x n kx none e len =
    let l = listing a.table in
    let f = found_none x (listing a.table) none in
    let ns : nodes_of b ≡ nodes_of a ++ (blank_node ∷ []) = ap (map (λ x. x.value)) e ∙ map_push (λ x. x.value) l _ in
    let ms : met_of b ≡ met_of a ++ (x ∷ []) = ap (map (λ x. x.number)) e ∙ map_push (λ x. x.number) l _ in
    let ks : keys_of b ≡ keys_of a ++ (key ∷ []) = ap (map (λ x. x.key)) e ∙ map_push (λ x. x.key) l _ in
    let m : met_of b ≡ meet x (met_of a) = ms ∙ sym (meet_new x (met_of a) f.0) in
    let t : n ≡ length (met_of a) = len ∙ sym (length-map l (λ x. x.number)) in
    record {
      met = m;
      entry = subst (λ v. Names v n x) (sym m) (subst (λ v. Names (meet x (met_of a)) v x) (sym t) (names_new x (met_of a) f.0));
      blank = λ h. rw ns (blank_push (nodes_of a) h);
      own = λ h. ms ∙ ap (λ v. v ++ (x ∷ [])) h ∙ ap (λ v. map (λ k. k.value) (keys_of a) ++ (v ∷ [])) kx ∙ sym (map_push (λ k. k.value) (keys_of a) key) ∙ ap (map (λ k. k.value)) (sym ks);
    }

pub met_few : (c : FasNodeContainer) (x : ℕ) → None ≡ found x (listing c.table) → length (meet x (met_of c)) ≡ length (listing c.table) + 1
met_few c x none = ap length (meet_new x (met_of c) (found_none x (listing c.table) none).0) ∙ length_push (met_of c) x ∙ ap (λ v. v + 1) (length-map (listing c.table) (λ i. i.number))

-- ---- one arc is entered: x is its source and y its target
module _ (links : List Link) (i x y : ℕ) (l : i < length links) (e : get_or links i (0, 0) ≡ (x, y)) where
  pub refused_source : (most : ℕ) (met : List ℕ) → met ≡ meet_all (take i links) [] → most < length (meet x met) → most < length (touched links)
  refused_source most met m b =
      let f = met_source_few links i l in
      let q : length (meet x met) ≡ length (meet (get_or links i (0, 0)).0 (meet_all (take i links) [])) = ap (λ v. length (meet v met)) (sym (ap (λ p. p.0) e)) ∙ ap (λ v. length (meet (get_or links i (0, 0)).0 v)) m in
      omega arith

  pub refused_target : (most : ℕ) (met met1 : List ℕ) → met ≡ meet_all (take i links) [] → met1 ≡ meet x met → most < length (meet y met1) → most < length (touched links)
  refused_target most met met1 m m1 b =
      let f = met_target_few links i l in
      let q : length (meet y met1) ≡ length (meet (get_or links i (0, 0)).1 (meet (get_or links i (0, 0)).0 (meet_all (take i links) []))) =
      ap (λ v. length (meet v met1)) (sym (ap (λ p. p.1) e)) ∙ ap (λ v. length (meet (get_or links i (0, 0)).1 v)) (m1 ∙ ap (λ v. meet v met) (sym (ap (λ p. p.0) e)) ∙ ap (meet (get_or links i (0, 0)).0) m) in
      omega arith

  pub arc_entered : (a b d : FasNodeContainer) (nodes nodes' : List ℕ) (s t : ℕ) → Met a b x s → Met b d y t → 2 * i + 1 < length nodes → nodes' ≡ set (set nodes (2 * i) t) (2 * i + 1) s → Entered links i (met_of a) nodes → Entered links (i + 1) (met_of d) nodes'
  arc_entered a b d nodes nodes' s t p q r w h =
      entered_more links i (met_of a) (met_of b) (met_of d) nodes nodes' s t l r
      (p.met ∙ ap (λ v. meet v (met_of a)) (sym (ap (λ p. p.0) e))) (subst (Names (met_of b) s) (sym (ap (λ p. p.0) e)) p.entry)
      (q.met ∙ ap (λ v. meet v (met_of b)) (sym (ap (λ p. p.1) e))) (subst (Names (met_of d) t) (sym (ap (λ p. p.1) e)) q.entry)
      w h

-- the two neighbour places of an arc are written
pub places_written : (ps qs rs : List NeighbourPlace) (p q : ℕ) (s t : FasNodeIndex) → qs ≡ set ps p (neighbour_place t) → rs ≡ set qs q (neighbour_place s) → (neighbours_of rs).nodes ≡ set (set (neighbours_of ps).nodes p t.value) q s.value
places_written ps qs rs p q s t a b =
    ap (map (λ v. v.node.value)) b ∙ field_written (λ v. v.node.value) qs q (neighbour_place s) s.value refl ∙ ap (λ v. set v q s.value) (ap (map (λ v. v.node.value)) a ∙ field_written (λ v. v.node.value) ps p (neighbour_place t) t.value refl)
