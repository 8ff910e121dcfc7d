-- Every edit keeps the map sound, and changes the weight of exactly the arcs that it concerns.
use Rattle.std.proofs.Common.{◌≡◌, ℕ, ◌+◌, ◌≤◌, Bool, true, false, cond, ◌&&◌, ◌||◌, eqb, ltb, leb, List, [], ◌∷◌, ◌++◌, length, Some, None, Ok, Err, Option, Result, sym, refl, ap, ◌∙◌, subst, arith}
use Rattle.fault.specs.declared.Fault.{Fault}
use Rattle.fault.specs.declared.Fault.TheVariants.{NodesFull, ArcsFull}
use Rattle.std.proofs.lemmas.Bool.{eqb-true, and_parts}
use Rattle.network.specs.declared.direction.CompactDirection.TheVariants.{Outgoing, Incoming}
use Rattle.map_model.specs.declared.Edit.{Edit}
use Rattle.map_model.specs.declared.Edit.TheVariants.{AddNode, AddEdge, RemoveNode, RemoveEdge}
use Rattle.map_model.specs.declared.Answer.TheVariants.{NodeAdded, EdgeAdded}
use Rattle.map_model.specs.Answers.{granted}
use Rattle.map_model.specs.Lists.{count, has, found, taken, changed}
use Rattle.map_model.specs.Model.{Arc, Model, named, between, links_of, links_at, joined, all_unlinked, all_taken, both_linked, weighed, weight_of, weight_at, new_keys, with_tables, node_added_at, new_edge_added_at, edge_put_at, edge_added_at, edge_removed_at, node_removed_at, edited, built, run, answers}
use Rattle.map_model.specs.Sound.{due, Sound}
use Rattle.map_model.specs.Statements.{granted_edits}
use Rattle.map_model.proofs.Searching.{applied, count_taken, none_found, found_taken_other, found_changed, found_changed_other, found_push, found_push_new, none_counts, has_counts}
use Rattle.map_model.proofs.Linking.{apart_between}
use Rattle.map_model.proofs.Keeping.{arc, fit_joined, fit_weighed, fit_new, fit_removed}
use Rattle.map_model.proofs.Taking.{fit_gone, found_gone}

-- the last that passes
abbrev pub either : {X : Type 0} → Option X → Option X → Option X
either (Some x) o = Some x
either None o = o

abbrev pub last_of : {X : Type 0} → (X → Bool) → List X → Option X
last_of p [] = None
last_of p (x ∷ l) = either (last_of p l) (cond (p x) (Some x) None)

abbrev is_ok : {X : Type 0} → Result X Fault → Bool
is_ok (Ok x) = true
is_ok (Err f) = false

abbrev nowhere : ℕ → ℕ → Bool
nowhere a b = false

abbrev there : ℕ → ℕ → ℕ → ℕ → Bool
there x y a b = eqb x a && eqb y b

abbrev at_end : ℕ → ℕ → ℕ → Bool
at_end n a b = eqb n a || eqb n b

granted_node : {N : Type 0} (E : Type 0) (r : Result N Fault) → granted {N = N} {E = E} (NodeAdded r) ≡ is_ok r
granted_node E (Ok x) = refl
granted_node E (Err f) = refl

granted_edge : {E : Type 0} (N : Type 0) (r : Result (Option E) Fault) → granted {N = N} {E = E} (EdgeAdded r) ≡ is_ok r
granted_edge N (Ok x) = refl
granted_edge N (Err f) = refl

module _ {N E : Type 0} where
  weight_none : (o : Option (Arc N E)) → weight_of o ≡ None → o ≡ None
  weight_none None h = refl
  weight_none (Some x) h = absurd (let z : ◌≡◌ {A = ℕ} 0 1 = cc in omega arith)

  weight_some : (o : Option (Arc N E)) (v w : E) → weight_of o ≡ Some v → weight_of (applied (weighed w) o) ≡ Some w
  weight_some None v w h = absurd (let z : ◌≡◌ {A = ℕ} 0 1 = cc in omega arith)
  weight_some (Some x) v w h = refl

  weight_cond : (t : Bool) (o : Option (Arc N E)) → weight_of (cond t None o) ≡ cond t None (weight_of o)
  weight_cond true o = refl
  weight_cond false o = refl

  -- ---- the weight at a b once the arc from x to y has the weight w
  pub at_weighed : (x y a b : ℕ) (w v : E) (arcs : List (Arc N E)) → weight_at x y arcs ≡ Some v → weight_at a b (changed (between x y) (weighed w) arcs) ≡ cond (eqb x a && eqb y b) (Some w) (weight_at a b arcs)
  at_weighed x y a b w v arcs h =
      elim (eqb x a && eqb y b) as (λ t. (eqb x a && eqb y b) ≡ t → weight_at a b (changed (between x y) (weighed w) arcs) ≡ cond t (Some w) (weight_at a b arcs)) [
        | true ↦ λ e. let p = and_parts _ _ e in
            subst (λ i. weight_at i b (changed (between x y) (weighed w) arcs) ≡ Some w) (eqb-true x a p.0)
            (subst (λ j. weight_at x j (changed (between x y) (weighed w) arcs) ≡ Some w) (eqb-true y b p.1)
            (ap weight_of (found_changed (between x y) (weighed w) arcs (λ _. refl)) ∙ weight_some (found (between x y) arcs) v w h))
        | false ↦ λ e. ap weight_of (found_changed_other (between a b) (between x y) (weighed w) arcs (λ _. refl) (apart_between a b x y e))
      ] refl

  -- ---- once it is new
  pub at_new : (s t : N) (x y a b : ℕ) (w : E) (arcs : List (Arc N E)) → found (between x y) arcs ≡ None → weight_at a b (arcs ++ arc s x t y w ∷ []) ≡ cond (eqb x a && eqb y b) (Some w) (weight_at a b arcs)
  at_new s t x y a b w arcs h =
      elim (eqb x a && eqb y b) as (λ v. (eqb x a && eqb y b) ≡ v → weight_at a b (arcs ++ arc s x t y w ∷ []) ≡ cond v (Some w) (weight_at a b arcs)) [
        | true ↦ λ e. let p = and_parts _ _ e in
            let z : found (between a b) arcs ≡ None = subst (λ i. found (between i b) arcs ≡ None) (eqb-true x a p.0) (subst (λ j. found (between x j) arcs ≡ None) (eqb-true y b p.1) h) in
            ap weight_of (found_push_new (between a b) arcs (arc s x t y w) e z)
        | false ↦ λ e. ap weight_of (found_push (between a b) arcs (arc s x t y w) e)
      ] refl

  -- ---- once it is removed
  pub at_removed : (x y a b : ℕ) (arcs : List (Arc N E)) → count (between x y) arcs ≤ 1 → count (between a b) arcs ≤ 1 → weight_at a b (taken (between x y) arcs) ≡ cond (eqb x a && eqb y b) None (weight_at a b arcs)
  at_removed x y a b arcs h k =
      elim (eqb x a && eqb y b) as (λ t. (eqb x a && eqb y b) ≡ t → weight_at a b (taken (between x y) arcs) ≡ cond t None (weight_at a b arcs)) [
        | true ↦ λ e. let p = and_parts (eqb x a) (eqb y b) e in
            let c = count_taken (between x y) arcs in
            let z = none_found (between x y) (taken (between x y) arcs) (omega arith) in
            ap weight_of (subst (λ i. found (between i b) (taken (between x y) arcs) ≡ None) (eqb-true x a p.0) (subst (λ j. found (between x j) (taken (between x y) arcs) ≡ None) (eqb-true y b p.1) z))
        | false ↦ λ e. ap weight_of (found_taken_other (between a b) (between x y) arcs (apart_between a b x y e) k)
      ] refl

  -- ---- what one call leaves: the map is sound, and at the arcs of which t says true the weight is o, if the call was granted
  pub record Leaves (m m' : Model N E) (t : ℕ → ℕ → Bool) (o : Option E) (g : Bool) : Type 0 where
    pub sound : Sound m'
    pub weights : (a b : ℕ) → weight_at a b m'.arcs ≡ cond g (cond (t a b) o (weight_at a b m.arcs)) (weight_at a b m.arcs)

  pub leaves_node : (m : Model N E) (k : N) (n : ℕ) → Sound m → Leaves m (node_added_at m k n).1 nowhere None (is_ok (node_added_at m k n).0)
  leaves_node m k n s =
      let P : Result N Fault × Model N E → Type 0 = λ r. Leaves m r.1 nowhere None (is_ok r.0) in
      elim (has (named n) m.nodes || ltb (length m.nodes) m.node_places) as (λ b. P (cond b (Ok k, with_tables m (joined k n m.nodes) m.arcs) (Err NodesFull, m)))
      [ true ↦ record { sound = fit_joined k n m.nodes m.arcs s; weights = λ a b. refl } | false ↦ record { sound = s; weights = λ a b. refl } ]

  leaves_new : (m : Model N E) (s t : N) (x y : ℕ) (w : E) → found (between x y) m.arcs ≡ None → Sound m → Leaves m (new_edge_added_at m s x t y w).1 (there x y) (Some w) (is_ok (new_edge_added_at m s x t y w).0)
  leaves_new m s t x y w h f =
      let P : Result (Option E) Fault × Model N E → Type 0 = λ r. Leaves m r.1 (there x y) (Some w) (is_ok r.0) in
      let laid : Model N E = with_tables m (both_linked s x t y m.nodes) (m.arcs ++ arc s x t y w ∷ []) in
      elim (leb (length m.nodes + new_keys x y m.nodes) m.node_places) as (λ v. P (cond v (cond (ltb (length m.arcs) m.arc_places) (Ok None, laid) (Err ArcsFull, m)) (Err NodesFull, m))) [
        | true ↦
            elim (ltb (length m.arcs) m.arc_places) as (λ v. P (cond v (Ok None, laid) (Err ArcsFull, m))) [
              | true ↦ record { sound = fit_new s t x y w m.nodes m.arcs (none_counts (between x y) m.arcs h) f; weights = λ a b. at_new s t x y a b w m.arcs h }
              | false ↦ record { sound = f; weights = λ a b. refl }
            ]
        | false ↦ record { sound = f; weights = λ a b. refl }
      ]

  pub leaves_edge : (m : Model N E) (s t : N) (x y : ℕ) (w : E) → Sound m → Leaves m (edge_added_at m s x t y w).1 (there x y) (Some w) (is_ok (edge_added_at m s x t y w).0)
  leaves_edge m s t x y w f =
      elim (weight_at x y m.arcs) as (λ o. weight_at x y m.arcs ≡ o → Leaves m (edge_put_at m s x t y w o).1 (there x y) (Some w) (is_ok (edge_put_at m s x t y w o).0)) [
        | Some v ↦ λ h. record { sound = fit_weighed x y w m.nodes m.arcs f; weights = λ a b. at_weighed x y a b w v m.arcs h }
        | None ↦ λ h. leaves_new m s t x y w (weight_none (found (between x y) m.arcs) h) f
      ] refl

  pub leaves_edge_removed : (m : Model N E) (x y : ℕ) → Sound m → Leaves m (edge_removed_at m x y).1 (there x y) None true
  leaves_edge_removed m x y f =
      record { sound = fit_removed x y m.nodes m.arcs f; weights = λ a b. at_removed x y a b m.arcs (f.one_arc x y) (f.one_arc a b) }

  pub leaves_node_removed : (m : Model N E) (n : ℕ) → Sound m → Leaves m (node_removed_at m n).1 (at_end n) None true
  leaves_node_removed m n f =
      let P : Bool × Model N E → Type 0 = λ r. Leaves m r.1 (at_end n) None true in
      elim (has (named n) m.nodes) as (λ t. has (named n) m.nodes ≡ t → P (cond t (true, with_tables m (all_unlinked n (links_at n m.nodes) (taken (named n) m.nodes)) (all_taken n (links_at n m.nodes) m.arcs)) (false, m))) [
        | true ↦ λ h. record {
          sound = fit_gone n m.nodes m.arcs f;
          weights = λ a b. ap weight_of (found_gone n a b m.nodes m.arcs f) ∙ weight_cond (eqb n a || eqb n b) (found (between a b) m.arcs);
        }
        | false ↦ λ h.
            let z : links_at n m.nodes ≡ [] = ap links_of (none_found (named n) m.nodes (has_counts (named n) m.nodes h)) in
            record {
              sound = f;
              weights = λ a b. ap weight_of (subst (λ ks. found (between a b) (all_taken n ks m.arcs) ≡ cond (eqb n a || eqb n b) None (found (between a b) m.arcs)) z (found_gone n a b m.nodes m.arcs f)) ∙ weight_cond (eqb n a || eqb n b) (found (between a b) m.arcs);
            }
      ] refl

  -- ---- an edit
  pub sound_built : (nodes arcs : ℕ) → Sound (built {N = N} {E = E} nodes arcs)
  sound_built nodes arcs =
      record { one_node = λ _. omega arith; one_arc = λ _ _. omega arith; links = λ n o w. elim w as (λ v. 0 ≡ due {N = N} {E = E} n o v []) [ Outgoing ↦ refl | Incoming ↦ elim (eqb o n) as (λ b. ◌≡◌ {A = ℕ} 0 (cond b 0 0)) [ true ↦ refl | false ↦ refl ] ] }

  -- whether an edit concerns the arc from a to b, by the indices
  abbrev pub concerns : (N → ℕ) → ℕ → ℕ → Edit N E → Bool
  concerns ix a b (AddNode n) = false
  concerns ix a b (AddEdge x y w) = eqb (ix x) a && eqb (ix y) b
  concerns ix a b (RemoveNode n) = eqb (ix n) a || eqb (ix n) b
  concerns ix a b (RemoveEdge x y) = eqb (ix x) a && eqb (ix y) b

  -- the weight that an edit gives the arc that it concerns
  abbrev pub given : Option (Edit N E) → Option E
  given None = None
  given (Some (AddNode n)) = None
  given (Some (AddEdge x y w)) = Some w
  given (Some (RemoveNode n)) = None
  given (Some (RemoveEdge x y)) = None

  pub leaves : (ix : N → ℕ) (m : Model N E) (e : Edit N E) → Sound m → Leaves m (edited ix m e).1 (λ a b. concerns ix a b e) (given (Some e)) (granted (edited ix m e).0)
  leaves ix m (AddNode n) s = subst (λ g. Leaves m (node_added_at m n (ix n)).1 nowhere None g) (sym (granted_node E (node_added_at m n (ix n)).0)) (leaves_node m n (ix n) s)
  leaves ix m (AddEdge x y w) s = subst (λ g. Leaves m (edge_added_at m x (ix x) y (ix y) w).1 (there (ix x) (ix y)) (Some w) g) (sym (granted_edge N (edge_added_at m x (ix x) y (ix y) w).0)) (leaves_edge m x y (ix x) (ix y) w s)
  leaves ix m (RemoveNode n) s = leaves_node_removed m (ix n) s
  leaves ix m (RemoveEdge x y) s = leaves_edge_removed m (ix x) (ix y) s

  pub sound_edited : (ix : N → ℕ) (m : Model N E) (e : Edit N E) → Sound m → Sound (edited ix m e).1
  sound_edited ix m e s = (leaves ix m e s).sound

  pub sound_run : (ix : N → ℕ) (m : Model N E) (es : List (Edit N E)) → Sound m → Sound (run ix m es)
  sound_run ix m [] s = s
  sound_run ix m (e ∷ es) s = sound_run ix (edited ix m e).1 es (sound_edited ix m e s)

  -- ---- a run: the weight that it leaves, where the arc had the weight old
  abbrev pub left : Option E → Option (Edit N E) → Option E
  left old None = old
  left old (Some e) = given (Some e)

  left_either : (old new : Option E) (end : Option (Edit N E)) (e : Edit N E) (t : Bool) → new ≡ cond t (given (Some e)) old → left new end ≡ left old (either end (cond t (Some e) None))
  left_either old new None e true h = h
  left_either old new None e false h = h
  left_either old new (Some x) e t h = refl

  left_given : (o : Option (Edit N E)) → left None o ≡ given o
  left_given None = refl
  left_given (Some e) = refl

  pub run_left : (ix : N → ℕ) (a b : ℕ) (m : Model N E) (es : List (Edit N E)) → Sound m → weight_at a b (run ix m es).arcs ≡ left (weight_at a b m.arcs) (last_of (concerns ix a b) (granted_edits es (answers ix m es)))
  run_left ix a b m [] s = refl
  run_left ix a b m (e ∷ es) s =
      let m' : Model N E = (edited ix m e).1 in
      let h = leaves ix m e s in
      let ih = run_left ix a b m' es h.sound in
      let rest : List (Edit N E) = granted_edits es (answers ix m' es) in
      elim (granted (edited ix m e).0) as (λ t.
      weight_at a b m'.arcs ≡ cond t (cond (concerns ix a b e) (given (Some e)) (weight_at a b m.arcs)) (weight_at a b m.arcs)
      → weight_at a b (run ix m' es).arcs ≡ left (weight_at a b m.arcs) (last_of (concerns ix a b) (cond t (e ∷ rest) rest))) [
        | true ↦ λ k. ih ∙ left_either (weight_at a b m.arcs) (weight_at a b m'.arcs) (last_of (concerns ix a b) rest) e (concerns ix a b e) k
        | false ↦ λ k. ih ∙ ap (λ o. left o (last_of (concerns ix a b) rest)) k
      ] (h.weights a b)

  -- the weight that a run from a map just built leaves is that of the last granted edit that concerns the arc
  pub run_given : (ix : N → ℕ) (a b : ℕ) (nodes arcs : ℕ) (es : List (Edit N E)) → weight_at a b (run ix (built nodes arcs) es).arcs ≡ given (last_of (concerns ix a b) (granted_edits es (answers ix (built nodes arcs) es)))
  run_given ix a b nodes arcs es = run_left ix a b (built nodes arcs) es (sound_built nodes arcs) ∙ left_given (last_of (concerns ix a b) (granted_edits es (answers ix (built nodes arcs) es)))
