-- Every edit leaves as many nodes and arcs as there are places for, at most.
use Rattle.std.proofs.Common.{◌≡◌, ℕ, ◌+◌, ◌-◌, ◌≤◌, Bool, true, false, cond, ◌||◌, eqb, ltb, leb, List, [], ◌∷◌, ◌++◌, length, Some, None, Ok, Err, Option, Result, refl, ap, ◌∙◌, subst, arith}
use Rattle.fault.specs.declared.Fault.{Fault}
use Rattle.fault.specs.declared.Fault.TheVariants.{NodesFull, ArcsFull}
use Rattle.std.proofs.lemmas.Bool.{eqb-true, ltb-true, leb-true}
use Rattle.network.specs.declared.direction.CompactDirection.{CompactDirection}
use Rattle.network.specs.declared.direction.CompactDirection.TheVariants.{Outgoing, Incoming}
use Rattle.map_model.specs.declared.Edit.{Edit}
use Rattle.map_model.specs.declared.Edit.TheVariants.{AddNode, AddEdge, RemoveNode, RemoveEdge}
use Rattle.map_model.specs.Lists.{one, has, front, moved, taken, changed}
use Rattle.network.specs.Directions.{opposite}
use Rattle.map_model.specs.Model.{Link, Node, Arc, Model, named, links_to, between, links_at, weight_at, joined, relinked, linked, both_linked, unlinked, both_unlinked, all_unlinked, weighed, arc_of, all_taken, with_tables, new_keys, node_added_at, new_edge_added_at, edge_put_at, edge_removed_at, node_removed_at, edited, built, run}
use Rattle.map_model.specs.Sound.{Placed}
use Rattle.map_model.proofs.Searching.{Keeps}
use Rattle.map_model.proofs.Linking.{link, new_node}

-- ---- lengths, and what a list has
module _ {X : Type 0} where
  pub length_push : (l : List X) (x : X) → length (l ++ x ∷ []) ≡ length l + 1
  length_push [] x = refl
  length_push (y ∷ l) x = let ih = length_push l x in omega arith

  length_front : (x : X) (l : List X) → length (front x l) ≡ length l
  length_front x [] = refl
  length_front x (y ∷ l) = let ih = length_front y l in omega arith

  pub length_moved : (l : List X) → length (moved l) ≡ length l
  length_moved [] = refl
  length_moved (x ∷ l) = let h = length_front x l in omega arith

  pub length_taken : (p : X → Bool) (l : List X) → length (taken p l) ≡ length l - one (has p l)
  length_taken p [] = refl
  length_taken p (x ∷ l) =
      let h = length_moved l in
      let k = length_taken p l in
      elim (p x) as (λ b. length (cond b (moved l) (x ∷ taken p l)) ≡ length (x ∷ l) - one (b || has p l)) [
        | true ↦ omega arith
        | false ↦
            let z : one (has p l) ≤ length l = fewer p l in omega arith
      ]
    where
      fewer : (p : X → Bool) (l : List X) → one (has p l) ≤ length l
      fewer p [] = omega arith
      fewer p (y ∷ l) = elim (p y || has p l) as (λ b. one b ≤ length (y ∷ l)) [ true ↦ omega arith | false ↦ omega arith ]

  pub length_changed : (p : X → Bool) (f : X → X) (l : List X) → length (changed p f l) ≡ length l
  length_changed p f [] = refl
  length_changed p f (x ∷ l) =
      let ih = length_changed p f l in
      elim (p x) as (λ b. length (cond b (f x ∷ l) (x ∷ changed p f l)) ≡ length (x ∷ l)) [ true ↦ omega arith | false ↦ omega arith ]

  pub has_push : (p : X → Bool) (l : List X) (x : X) → has p (l ++ x ∷ []) ≡ (p x || has p l)
  has_push p [] x = refl
  has_push p (y ∷ l) x = ap (λ b. p y || b) (has_push p l x) ∙ swapped (p y) (p x) (has p l)
    where
      swapped : (a b c : Bool) → (a || (b || c)) ≡ (b || (a || c))
      swapped true true c = refl
      swapped true false c = refl
      swapped false true c = refl
      swapped false false c = refl

  pub has_changed : (p q : X → Bool) (f : X → X) (l : List X) → Keeps p f → has p (changed q f l) ≡ has p l
  has_changed p q f [] k = refl
  has_changed p q f (x ∷ l) k =
      elim (q x) as (λ b. has p (cond b (f x ∷ l) (x ∷ changed q f l)) ≡ (p x || has p l))
      [ true ↦ ap (λ b. b || has p l) (k x) | false ↦ ap (λ b. p x || b) (has_changed p q f l k) ]

-- ---- the nodes
module _ {N : Type 0} where
  pub length_joined : (k : N) (n : ℕ) (nodes : List (Node N)) → length (joined k n nodes) ≡ length nodes + cond (has (named n) nodes) 0 1
  length_joined k n nodes =
      let p = length_push nodes (new_node k n) in
      elim (has (named n) nodes) as (λ b. length (cond b nodes (nodes ++ new_node k n ∷ [])) ≡ length nodes + cond b 0 1) [ true ↦ omega arith | false ↦ p ]

  pub has_joined : (k : N) (n x : ℕ) (nodes : List (Node N)) → has (named x) (joined k n nodes) ≡ (eqb n x || has (named x) nodes)
  has_joined k n x nodes =
      elim (has (named n) nodes) as (λ b. has (named n) nodes ≡ b → has (named x) (cond b nodes (nodes ++ new_node k n ∷ [])) ≡ (eqb n x || has (named x) nodes)) [
        | true ↦ λ e.
            elim (eqb n x) as (λ v. eqb n x ≡ v → has (named x) nodes ≡ (v || has (named x) nodes))
            [ true ↦ λ q. subst (λ v. has (named v) nodes ≡ true) (eqb-true n x q) e | false ↦ λ q. refl ] refl
        | false ↦ λ e. has_push (named x) nodes (new_node k n)
      ] refl

  pub length_linked : (k k' : N) (n o : ℕ) (d : CompactDirection) (nodes : List (Node N)) → length (linked k n k' o d nodes) ≡ length nodes + cond (has (named n) nodes) 0 1
  length_linked k k' n o d nodes = length_changed (named n) (relinked (λ l. l ++ link k' o d ∷ [])) (joined k n nodes) ∙ length_joined k n nodes

  pub has_linked : (k k' : N) (n x o : ℕ) (d : CompactDirection) (nodes : List (Node N)) → has (named x) (linked k n k' o d nodes) ≡ (eqb n x || has (named x) nodes)
  has_linked k k' n x o d nodes = has_changed (named x) (named n) (relinked (λ l. l ++ link k' o d ∷ [])) (joined k n nodes) (λ _. refl) ∙ has_joined k n x nodes

  -- a new arc brings its new keys
  pub length_both_linked : (s t : N) (a b : ℕ) (nodes : List (Node N)) → length (both_linked s a t b nodes) ≡ length nodes + new_keys a b nodes
  length_both_linked s t a b nodes =
      let p = length_linked s t a b Outgoing nodes in
      let q = length_linked t s b a Incoming (linked s a t b Outgoing nodes) in
      let r = has_linked s t a b b Outgoing nodes in
      elim (eqb a b) as (λ v.
      has (named b) (linked s a t b Outgoing nodes) ≡ (v || has (named b) nodes)
      → length (cond v (linked s a t b Outgoing nodes) (linked t b s a Incoming (linked s a t b Outgoing nodes))) ≡ length nodes + (cond (has (named a) nodes) 0 1 + cond (v || has (named b) nodes) 0 1))
      [ true ↦ λ e. omega arith | false ↦ λ e. let z = ap (λ u. cond {A = ℕ} u 0 1) e in omega arith ] r

  pub length_unlinked : (i j : ℕ) (d : CompactDirection) (nodes : List (Node N)) → length (unlinked i j d nodes) ≡ length nodes
  length_unlinked i j d nodes = length_changed (named i) (relinked (taken (links_to j d))) nodes

  pub length_both_unlinked : (i j : ℕ) (nodes : List (Node N)) → length (both_unlinked i j nodes) ≡ length nodes
  length_both_unlinked i j nodes =
      let p = length_unlinked i j Outgoing nodes in
      let q = length_unlinked j i Incoming (unlinked i j Outgoing nodes) in
      elim (eqb i j) as (λ v. length (cond v (unlinked i j Outgoing nodes) (unlinked j i Incoming (unlinked i j Outgoing nodes))) ≡ length nodes) [ true ↦ p | false ↦ q ∙ p ]

  pub length_all_unlinked : (i : ℕ) (ks : List (Link N)) (nodes : List (Node N)) → length (all_unlinked i ks nodes) ≡ length nodes
  length_all_unlinked i [] nodes = refl
  length_all_unlinked i (k ∷ ks) nodes = length_all_unlinked i ks _ ∙ length_unlinked k.index i (opposite k.direction) nodes

-- ---- the edits
module _ {N E : Type 0} where
  length_all_taken : (i : ℕ) (ks : List (Link N)) (arcs : List (Arc N E)) → length (all_taken i ks arcs) ≤ length arcs
  length_all_taken i [] arcs = omega arith
  length_all_taken i (k ∷ ks) arcs =
      let p = length_all_taken i ks (taken (arc_of i k.index k.direction) arcs) in
      let q = length_taken (arc_of i k.index k.direction) arcs in omega arith

  pub placed_node_added : (m : Model N E) (k : N) (n : ℕ) → Placed m → Placed (node_added_at m k n).1
  placed_node_added m k n s =
      let l = length_joined k n m.nodes in
      elim (has (named n) m.nodes) as (λ b.
      length (joined k n m.nodes) ≡ length m.nodes + cond b 0 1
      → Placed (cond {A = Result N Fault × Model N E} (b || ltb (length m.nodes) m.node_places) (Ok k, with_tables m (joined k n m.nodes) m.arcs) (Err NodesFull, m)).1) [
        | true ↦ λ e. let p = s.nodes in record { nodes = omega arith; arcs = s.arcs }
        | false ↦ λ e.
            elim (ltb (length m.nodes) m.node_places) as (λ t. ltb (length m.nodes) m.node_places ≡ t → Placed (cond {A = Result N Fault × Model N E} t (Ok k, with_tables m (joined k n m.nodes) m.arcs) (Err NodesFull, m)).1)
            [ true ↦ λ h. let p = ltb-true _ _ h in record { nodes = omega arith; arcs = s.arcs } | false ↦ λ h. s ] refl
      ] l

  placed_new_edge : (m : Model N E) (s t : N) (x y : ℕ) (w : E) → Placed m → Placed (new_edge_added_at m s x t y w).1
  placed_new_edge m s t x y w f =
      let laid : Model N E = with_tables m (both_linked s x t y m.nodes) (m.arcs ++ record { source = s; source_index = x; target = t; target_index = y; weight = w } ∷ []) in
      let l = length_both_linked s t x y m.nodes in
      let k = length_push m.arcs (record { source = s; source_index = x; target = t; target_index = y; weight = w }) in
      let total : ℕ = length m.nodes + new_keys x y m.nodes in
      elim (leb total m.node_places) as (λ v. leb total m.node_places ≡ v → Placed (cond {A = Result (Option E) Fault × Model N E} v (cond (ltb (length m.arcs) m.arc_places) (Ok None, laid) (Err ArcsFull, m)) (Err NodesFull, m)).1) [
        | true ↦ λ h.
            elim (ltb (length m.arcs) m.arc_places) as (λ v. ltb (length m.arcs) m.arc_places ≡ v → Placed (cond {A = Result (Option E) Fault × Model N E} v (Ok None, laid) (Err ArcsFull, m)).1)
            [ true ↦ λ g. let p = leb-true _ _ h in let q = ltb-true _ _ g in record { nodes = omega arith; arcs = omega arith } | false ↦ λ g. f ] refl
        | false ↦ λ h. f
      ] refl

  pub placed_edge_put : (m : Model N E) (s t : N) (x y : ℕ) (w : E) (o : Option E) → Placed m → Placed (edge_put_at m s x t y w o).1
  placed_edge_put m s t x y w (Some old) f = let p = length_changed (between x y) (weighed w) m.arcs in let q = f.arcs in record { nodes = f.nodes; arcs = omega arith }
  placed_edge_put m s t x y w None f = placed_new_edge m s t x y w f

  pub placed_edge_removed : (m : Model N E) (x y : ℕ) → Placed m → Placed (edge_removed_at m x y).1
  placed_edge_removed m x y f =
      let p = length_both_unlinked x y m.nodes in let q = length_taken (between x y) m.arcs in let g = f.nodes in let h = f.arcs in
      record { nodes = omega arith; arcs = omega arith }

  pub placed_node_removed : (m : Model N E) (n : ℕ) → Placed m → Placed (node_removed_at m n).1
  placed_node_removed m n f =
      let ks : List (Link N) = links_at n m.nodes in
      let p = length_all_unlinked n ks (taken (named n) m.nodes) in
      let q = length_taken (named n) m.nodes in
      let r = length_all_taken n ks m.arcs in
      let g = f.nodes in let h = f.arcs in
      elim (has (named n) m.nodes) as (λ b. Placed (cond {A = Bool × Model N E} b (true, with_tables m (all_unlinked n ks (taken (named n) m.nodes)) (all_taken n ks m.arcs)) (false, m)).1)
      [ true ↦ record { nodes = omega arith; arcs = omega arith } | false ↦ f ]

  pub placed_edited : (ix : N → ℕ) (m : Model N E) (e : Edit N E) → Placed m → Placed (edited ix m e).1
  placed_edited ix m (AddNode n) s = placed_node_added m n (ix n) s
  placed_edited ix m (AddEdge a b w) s = placed_edge_put m a b (ix a) (ix b) w (weight_at (ix a) (ix b) m.arcs) s
  placed_edited ix m (RemoveNode n) s = placed_node_removed m (ix n) s
  placed_edited ix m (RemoveEdge a b) s = placed_edge_removed m (ix a) (ix b) s

  pub placed_built : (nodes arcs : ℕ) → Placed (built {N = N} {E = E} nodes arcs)
  placed_built nodes arcs = record { nodes = omega arith; arcs = omega arith }

  pub placed_run : (ix : N → ℕ) (m : Model N E) (es : List (Edit N E)) → Placed m → Placed (run ix m es)
  placed_run ix m [] s = s
  placed_run ix m (e ∷ es) s = placed_run ix (edited ix m e).1 es (placed_edited ix m e s)
