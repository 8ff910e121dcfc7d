-- What is listed is what is found; and all edges show what was granted last.
use Rattle.std.proofs.Common.{◌≡◌, ℕ, ◌+◌, ◌≤◌, Bool, true, false, cond, ◌&&◌, ◌||◌, eqb, ◌⊎◌, List, [], ◌∷◌, ◌++◌, map, Some, None, sym, refl, ap, ◌∙◌, inl, inr, arith}
use mathlib.Core.List.{Memᴰ}
use Rattle.std.proofs.lemmas.Bool.{false≢true, eqb-true, eq-eqb, and_parts}
use Rattle.map_model.specs.declared.Edit.{Edit}
use Rattle.map_model.specs.declared.Edit.TheVariants.{AddNode, AddEdge, RemoveNode, RemoveEdge}
use Rattle.map_model.specs.Lists.{one, count, found, All}
use Rattle.map_model.specs.Model.{Arc, Model, between, weight_of, weight_at, built, run}
use Rattle.map_model.specs.Shown.{triple}
use Rattle.map_model.specs.Sound.{ArcStored, Stored, Sound}
use Rattle.map_model.specs.Statements.{Concerns, AddedLast, EndsDiffer, AllEdgesShowWhatWasGrantedLast}
use Rattle.map_model.proofs.Running.{either, last_of, concerns, given, run_given, sound_built, sound_run}
use Rattle.map_model.proofs.Storing.{stored_built, stored_run}

both_true : (p q : Bool) → p ≡ true → q ≡ true → (p && q) ≡ true
both_true p q e f = ap (λ b. b && q) e ∙ f

-- ---- the arcs of a map, listed and found
module _ {N E : Type 0} (ix : N → ℕ) where
  -- an arc that is stored with its ends' indices is found by them
  pub between_own : (a b : N) (x : Arc N E) → ArcStored ix x → x.source ≡ a → x.target ≡ b → between (ix a) (ix b) x ≡ true
  between_own a b x s p q = both_true _ _ (eq-eqb x.source_index (ix a) (s.source ∙ ap ix p)) (eq-eqb x.target_index (ix b) (s.target ∙ ap ix q))

  pub listed_counts : (a b : N) (w : E) (l : List (Arc N E)) → All (ArcStored ix) l → Memᴰ (a, b, w) (map triple l) → 1 ≤ count (between (ix a) (ix b)) l
  listed_counts a b w [] s m = elim m [ ]
  listed_counts a b w (x ∷ l) s (Memᴰ.head e) = let k = ap one (between_own a b x s.0 (sym (ap (λ t. t.0) e)) (sym (ap (λ t. t.1) e))) in omega arith
  listed_counts a b w (x ∷ l) s (Memᴰ.tail m) = let k = listed_counts a b w l s.1 m in omega arith

  pub listed_found : (a b : N) (w : E) (l : List (Arc N E)) → All (ArcStored ix) l → count (between (ix a) (ix b)) l ≤ 1 → Memᴰ (a, b, w) (map triple l) → weight_at (ix a) (ix b) l ≡ Some w
  listed_found a b w [] s h m = elim m [ ]
  listed_found a b w (x ∷ l) s h (Memᴰ.head e) =
      ap (λ v. weight_of (cond v (Some x) (found (between (ix a) (ix b)) l))) (between_own a b x s.0 (sym (ap (λ t. t.0) e)) (sym (ap (λ t. t.1) e))) ∙ ap Some (sym (ap (λ t. t.2) e))
  listed_found a b w (x ∷ l) s h (Memᴰ.tail m) =
      elim (between (ix a) (ix b) x) as (λ v. one v + count (between (ix a) (ix b)) l ≤ 1 → weight_of (cond v (Some x) (found (between (ix a) (ix b)) l)) ≡ Some w)
      [ true ↦ λ k. let c = listed_counts a b w l s.1 m in absurd (omega arith) | false ↦ λ k. listed_found a b w l s.1 (omega arith) m ] h

  pub found_listed : ((x y : N) → ix x ≡ ix y → x ≡ y) → (a b : N) (w : E) (l : List (Arc N E)) → All (ArcStored ix) l → weight_at (ix a) (ix b) l ≡ Some w → Memᴰ (a, b, w) (map triple l)
  found_listed inj a b w [] s h = absurd (let z : ◌≡◌ {A = ℕ} 0 1 = cc in omega arith)
  found_listed inj a b w (x ∷ l) s h =
      elim (between (ix a) (ix b) x) as (λ v. between (ix a) (ix b) x ≡ v → weight_of (cond v (Some x) (found (between (ix a) (ix b)) l)) ≡ Some w → Memᴰ (a, b, w) (triple x ∷ map triple l)) [
        | true ↦ λ e k.
            let p = and_parts _ _ e in
            let q : a ≡ x.source = sym (inj x.source a (sym s.0.source ∙ eqb-true x.source_index (ix a) p.0)) in
            let r : b ≡ x.target = sym (inj x.target b (sym s.0.target ∙ eqb-true x.target_index (ix b) p.1)) in
            let z : w ≡ x.weight = cc in
            Memᴰ.head (λ i. (q i, r i, z i))
        | false ↦ λ e k. Memᴰ.tail (found_listed inj a b w l s.1 k)
      ] refl h

  -- no two have the same ends, where each is counted once
  apart_from : (x : Arc N E) (l m : List (Arc N E)) → ArcStored ix x → All (ArcStored ix) l → ((y : N × N × E) → Memᴰ y (map triple m) → Memᴰ y (map triple l))
      → ((i j : ℕ) → one (between i j x) + count (between i j) l ≤ 1) → All (λ y. (triple x).0 ≡ y.0 → (triple x).1 ≡ y.1 → ⊥) (map triple m)
  apart_from x l [] s t f h = tt
  apart_from x l (y ∷ m) s t f h = (
    λ p q.
        let c = listed_counts y.source y.target y.weight l t (f (triple y) (Memᴰ.head refl)) in
        let k = ap one (between_own y.source y.target x s p q) in
        let g = h (ix y.source) (ix y.target) in
        absurd (omega arith),
    apart_from x l m s t (λ z n. f z (Memᴰ.tail n)) h,
  )

  pub ends_differ : (l : List (Arc N E)) → All (ArcStored ix) l → ((i j : ℕ) → count (between i j) l ≤ 1) → EndsDiffer (map triple l)
  ends_differ [] s h = tt
  ends_differ (x ∷ l) s h = (apart_from x l l s.0 s.1 (λ y m. m) h, ends_differ l s.1 (λ i j. let g = h i j in omega arith))

-- ---- the last edit that concerns an arc
module _ {N E : Type 0} (ix : N → ℕ) (inj : (x y : N) → ix x ≡ ix y → x ≡ y) where
  concerned : (a b : N) (e : Edit N E) → concerns ix (ix a) (ix b) e ≡ true → Concerns a b e
  concerned a b (AddNode n) h = absurd (false≢true h)
  concerned a b (AddEdge x y w) h = let p = and_parts _ _ h in (inj x a (eqb-true (ix x) (ix a) p.0), inj y b (eqb-true (ix y) (ix b) p.1))
  concerned a b (RemoveNode n) h =
      elim (eqb (ix n) (ix a)) as (λ v. eqb (ix n) (ix a) ≡ v → (v || eqb (ix n) (ix b)) ≡ true → (n ≡ a) ⊎ (n ≡ b))
      [ true ↦ λ e k. inl (inj n a (eqb-true (ix n) (ix a) e)) | false ↦ λ e k. inr (inj n b (eqb-true (ix n) (ix b) k)) ] refl h
  concerned a b (RemoveEdge x y) h = let p = and_parts _ _ h in (inj x a (eqb-true (ix x) (ix a) p.0), inj y b (eqb-true (ix y) (ix b) p.1))

  concerning : (a b : N) (e : Edit N E) → Concerns a b e → concerns ix (ix a) (ix b) e ≡ true
  concerning a b (AddNode n) h = absurd h
  concerning a b (AddEdge x y w) h = both_true _ _ (eq-eqb (ix x) (ix a) (ap ix h.0)) (eq-eqb (ix y) (ix b) (ap ix h.1))
  concerning a b (RemoveNode n) (inl h) = ap (λ v. v || eqb (ix n) (ix b)) (eq-eqb (ix n) (ix a) (ap ix h))
  concerning a b (RemoveNode n) (inr h) =
      elim (eqb (ix n) (ix a)) as (λ v. (v || eqb (ix n) (ix b)) ≡ true) [ true ↦ refl | false ↦ eq-eqb (ix n) (ix b) (ap ix h) ]
  concerning a b (RemoveEdge x y) h = both_true _ _ (eq-eqb (ix x) (ix a) (ap ix h.0)) (eq-eqb (ix y) (ix b) (ap ix h.1))

  none_last : (a b : N) (l : List (Edit N E)) → All (λ e. Concerns a b e → ⊥) l → last_of (concerns ix (ix a) (ix b)) l ≡ None
  none_last a b [] s = refl
  none_last a b (e ∷ l) s =
      elim (concerns ix (ix a) (ix b) e) as (λ v. concerns ix (ix a) (ix b) e ≡ v → either (last_of (concerns ix (ix a) (ix b)) l) (cond v (Some e) None) ≡ None)
      [ true ↦ λ h. absurd (s.0 (concerned a b e h)) | false ↦ λ h. ap (λ o. either o None) (none_last a b l s.1) ] refl

  last_none : (a b : N) (l : List (Edit N E)) → last_of (concerns ix (ix a) (ix b)) l ≡ None → All (λ e. Concerns a b e → ⊥) l
  last_none a b [] h = tt
  last_none a b (e ∷ l) h =
      elim (last_of (concerns ix (ix a) (ix b)) l) as (λ o. last_of (concerns ix (ix a) (ix b)) l ≡ o → either o (cond (concerns ix (ix a) (ix b) e) (Some e) None) ≡ None → (Concerns a b e → ⊥) × All (λ z. Concerns a b z → ⊥) l) [
        | Some z ↦ λ k g. absurd (let z' : ◌≡◌ {A = ℕ} 0 1 = cc in omega arith)
        | None ↦ λ k g. (
          λ c. let t : Some e ≡ None = sym (ap (λ v. cond v (Some e) None) (concerning a b e c)) ∙ g in absurd (let z : ◌≡◌ {A = ℕ} 0 1 = cc in omega arith),
          last_none a b l k,
        )
      ] refl h

  last_behind : (p : Edit N E → Bool) (k l : List (Edit N E)) (e : Edit N E) → last_of p l ≡ Some e → last_of p (k ++ l) ≡ Some e
  last_behind p [] l e h = h
  last_behind p (x ∷ k) l e h = ap (λ o. either o (cond (p x) (Some x) None)) (last_behind p k l e h)

  added_last : (a b : N) (w : E) (l : List (Edit N E)) → AddedLast a b w l → last_of (concerns ix (ix a) (ix b)) l ≡ Some (AddEdge a b w)
  added_last a b w l h =
      let c = concerning a b (AddEdge a b w) (refl, refl) in
      let t : last_of (concerns ix (ix a) (ix b)) (AddEdge a b w ∷ h.later) ≡ Some (AddEdge a b w) =
      ap (λ o. either o (cond (concerns ix (ix a) (ix b) (AddEdge a b w)) (Some (AddEdge a b w)) None)) (none_last a b h.later h.unconcerned)
      ∙ ap (λ v. cond v (Some (AddEdge a b w)) None) c in
      ap (last_of (concerns ix (ix a) (ix b))) h.split ∙ last_behind (concerns ix (ix a) (ix b)) h.earlier (AddEdge a b w ∷ h.later) (AddEdge a b w) t

  -- an edit that concerns the arc and gives it a weight adds it
  adds : (a b : N) (w : E) (e : Edit N E) → Concerns a b e → given (Some e) ≡ Some w → e ≡ AddEdge a b w
  adds a b w (AddNode n) c h = absurd c
  adds a b w (AddEdge x y v) c h = let p = c.0 in let q = c.1 in let r : v ≡ w = cc in λ i. AddEdge (p i) (q i) (r i)
  adds a b w (RemoveNode n) c h = absurd (let z : ◌≡◌ {A = ℕ} 0 1 = cc in omega arith)
  adds a b w (RemoveEdge x y) c h = absurd (let z : ◌≡◌ {A = ℕ} 0 1 = cc in omega arith)

  last_added : (a b : N) (w : E) (l : List (Edit N E)) → given (last_of (concerns ix (ix a) (ix b)) l) ≡ Some w → AddedLast a b w l
  last_added a b w [] h = absurd (let z : ◌≡◌ {A = ℕ} 0 1 = cc in omega arith)
  last_added a b w (e ∷ l) h =
      elim (last_of (concerns ix (ix a) (ix b)) l) as (λ o. last_of (concerns ix (ix a) (ix b)) l ≡ o → given (either o (cond (concerns ix (ix a) (ix b) e) (Some e) None)) ≡ Some w → AddedLast a b w (e ∷ l)) [
        | Some z ↦ λ k g.
            let r = last_added a b w l (ap given k ∙ g) in
            record { earlier = e ∷ r.earlier; later = r.later; split = ap (λ t. e ∷ t) r.split; unconcerned = r.unconcerned }
        | None ↦ λ k g.
            elim (concerns ix (ix a) (ix b) e) as (λ v. concerns ix (ix a) (ix b) e ≡ v → given (cond v (Some e) None) ≡ Some w → AddedLast a b w (e ∷ l)) [
              | true ↦ λ c j.
                  record { earlier = []; later = l; split = ap (λ t. t ∷ l) (adds a b w e (concerned a b e c) j); unconcerned = last_none a b l k }
              | false ↦ λ c j. absurd (let z : ◌≡◌ {A = ℕ} 0 1 = cc in omega arith)
            ] refl g
      ] refl h

-- ---- the promise
pub all_edges_show : {N E : Type 0} → AllEdgesShowWhatWasGrantedLast N E
all_edges_show {N} {E} ix inj nodes arcs es =
    let m : Model N E = run ix (built nodes arcs) es in
    let f : Sound m = sound_run ix (built nodes arcs) es (sound_built nodes arcs) in
    let s : Stored ix m = stored_run ix (built nodes arcs) es (stored_built ix nodes arcs) in
    record {
      exactly = λ a b w. (
        λ h. last_added ix inj a b w _ (sym (run_given ix (ix a) (ix b) nodes arcs es) ∙ listed_found ix a b w m.arcs s.arcs (f.one_arc (ix a) (ix b)) h),
        λ h. found_listed ix inj a b w m.arcs s.arcs (run_given ix (ix a) (ix b) nodes arcs es ∙ ap given (added_last ix inj a b w _ h)),
      );
      once = ends_differ ix m.arcs s.arcs f.one_arc;
    }
