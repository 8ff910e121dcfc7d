-- Every link that is shown has its arc.
use Rattle.std.proofs.Common.{◌≡◌, ℕ, ◌≤◌, Bool, true, false, cond, List, [], ◌∷◌, map, MatchOption, is_some, Some, None, Option, sym, refl, ap, ◌∙◌, subst, arith}
use base.Stored.{Coded, coded×, coded_via}
use mathlib.Core.List.{Memᴰ}
use mathlib.Core.Logic.{∥∥₁_map, ∥∥₁_map₂, ∥∥₁_elim}
use mathlib.Core.HLevel.{⊥_prop}
use Rattle.std.proofs.lemmas.Bool.{true≢false}
use Rattle.network.specs.declared.direction.CompactDirection.{CompactDirection}
use Rattle.network.specs.declared.direction.CompactDirection.TheVariants.{Outgoing, Incoming}
use Rattle.map_model.specs.Lists.{All, kept, present, found, count}
use Rattle.map_model.specs.Model.{Link, Arc, between, arc_of, weight_of, weight_at, links_at}
use Rattle.map_model.specs.Shown.{shows, links_shown, edge_of, with_ends}
use Rattle.map_model.proofs.Searching.{none_counts}
use Rattle.map_model.proofs.Showing.{shown_arc}
use Rattle.map_layout.specs.Layout.{State, model}
use Rattle.map_layout.specs.Edits.{Good}
use Rattle.map_layout.specs.declared.records.IndexedKey.{IndexedKey}
use Rattle.graphmap.specs.Links.{ToCome, LeadsTo, links_left, first_of, HasArc, edge_first}
use Rattle.graphmap.proofs.Walking.{only_left}

all_kept : {X : Type 0} (P : X → Type 0) (p : X → Bool) (l : List X) → ((x : X) → Memᴰ x l → p x ≡ true → P x) → All P (kept p l)
all_kept P p [] f = tt
all_kept P p (x ∷ l) f =
    let rest = all_kept P p l (λ y m. f y (Memᴰ.tail m)) in
    elim (p x) as (λ b. p x ≡ b → All P (cond b (x ∷ kept p l) (kept p l))) [ true ↦ λ e. (f x (Memᴰ.head refl) e, rest) | false ↦ λ e. rest ] refl

module _ {N E : Type 0} (arcs : List (Arc N E)) where
  weighs : (i j : ℕ) (o : Option (Arc N E)) → found (between i j) arcs ≡ o → 1 ≤ count (between i j) arcs → is_some (weight_of o) ≡ true
  weighs i j None e h = absurd (let z = none_counts (between i j) arcs e in omega arith)
  weighs i j (Some x) e h = refl

  some_ends : (a b : N) (o : Option E) → is_some o ≡ true → is_some (with_ends a b o) ≡ true
  some_ends a b None h = h
  some_ends a b (Some w) h = refl

  pub has_edge : (a : N) (i : ℕ) (d : CompactDirection) (k : Link N) → 1 ≤ count (arc_of i k.index d) arcs → is_some (edge_of a i d arcs k) ≡ true
  has_edge a i Outgoing k h = some_ends a k.key (weight_at i k.index arcs) (weighs i k.index (found (between i k.index) arcs) refl h)
  has_edge a i Incoming k h = some_ends k.key a (weight_at k.index i arcs) (weighs k.index i (found (between k.index i) arcs) refl h)

module _ {N E : Type 0} (st : State N E) (a : N) (i : ℕ) (d : CompactDirection) where
  pub each_has_arc : ∥ Good st ∥₁ → ∥ All (HasArc a i d (model st).arcs) (links_shown (model st) i d) ∥₁
  each_has_arc g = ∥∥₁_map g (λ k. all_kept (HasArc a i d (model st).arcs) (shows i d) (links_at i (model st).nodes)
      (λ x m s. has_edge (model st).arcs a i d x (shown_arc i d x (model st).nodes (model st).arcs k.sound m s)))

  pub each_left : (s : Option ℕ) → ∥ Good st ∥₁ → ∥ ToCome st i d s 0 (links_shown (model st) i d) ∥₁ → ∥ All (HasArc a i d (model st).arcs) (links_left st i d s) ∥₁
  each_left s g e = ∥∥₁_map₂ e (each_has_arc g) (λ t w. subst (All (HasArc a i d (model st).arcs)) (only_left st i d s (links_shown (model st) i d) t) w)

module _ {N E : Type 0} (arcs : List (Arc N E)) (a : N) (i : ℕ) (d : CompactDirection) where
  -- the links that come later have their arcs
  pub later_each : (ks ls : List (Link N)) (o : Option (IndexedKey N)) → LeadsTo ks o ls → ∥ All (HasArc a i d arcs) ks ∥₁ → ∥ All (HasArc a i d arcs) ls ∥₁
  later_each ks ls None h e = ∥∥₁_map e (λ w. subst (All (HasArc a i d arcs)) (sym h.1) tt)
  later_each ks ls (Some n) h e = ∥∥₁_map e (λ w. (subst (All (HasArc a i d arcs)) h.1 w).1)

  -- the edges of links come as the links do
  pub edges_come : (ks ls : List (Link N)) (n : IndexedKey N) (r : Option (N × N × E)) → LeadsTo ks (Some n) ls → ((own : CompactDirection) → r ≡ edge_of a i d arcs (record { key = n.key; index = n.index.value; direction = own }))
      → ∥ All (HasArc a i d arcs) ks ∥₁
      → MatchOption r ((present (map (edge_of a i d arcs) ks) ≡ []) × (present (map (edge_of a i d arcs) ls) ≡ [])) (λ x. present (map (edge_of a i d arcs) ks) ≡ x ∷ present (map (edge_of a i d arcs) ls))
  edges_come ks ls n (Some x) h e w = ap (λ l. present (map (edge_of a i d arcs) l)) h.1 ∙ ap (λ o. present (o ∷ map (edge_of a i d arcs) ls)) (sym (e h.0))
  edges_come ks ls n None h e w = absurd (∥∥₁_elim w ⊥_prop (λ all. true≢false (sym (subst (All (HasArc a i d arcs)) h.1 all).0 ∙ sym (ap is_some (e h.0)))))

module _ {N E : Type 0} (st : State N E) (a : N) (i : ℕ) (d : CompactDirection) (s : Option ℕ) (ks ls : List (Link N)) (t : ToCome st i d s 0 ks) where
  pub first_edge : (n : IndexedKey N) (r : Option (N × N × E)) → LeadsTo (links_left st i d s) (Some n) ls
      → ((own : CompactDirection) → r ≡ edge_of a i d (model st).arcs (record { key = n.key; index = n.index.value; direction = own })) → r ≡ edge_first a i d (model st).arcs (first_of ks)
  first_edge n r h e = e h.0 ∙ sym (ap (λ l. edge_first a i d (model st).arcs (first_of l)) (only_left st i d s ks t ∙ h.1))

  pub no_edge : LeadsTo (links_left st i d s) None ls → None ≡ edge_first a i d (model st).arcs (first_of ks)
  no_edge h = sym (ap (λ l. edge_first a i d (model st).arcs (first_of l)) (only_left st i d s ks t ∙ h.0))

-- the same node, direction and arcs
module _ {N E : Type 0} (a b : IndexedKey N) (d e : CompactDirection) (xs ys : List (Arc N E)) (ls : List (Link N)) (p : b ≡ a) (q : e ≡ d) (r : ys ≡ xs) where
  pub same_edges : present (map (edge_of b.key b.index.value e ys) ls) ≡ present (map (edge_of a.key a.index.value d xs) ls)
  same_edges = λ x. present (map (edge_of (p x).key (p x).index.value (q x) (r x)) ls)

  pub same_each : ∥ All (HasArc a.key a.index.value d xs) ls ∥₁ → ∥ All (HasArc b.key b.index.value e ys) ls ∥₁
  same_each w =
      let all : ◌≡◌ {A = IndexedKey N × (CompactDirection × List (Arc N E))} (a, (d, xs)) (b, (e, ys)) = λ x. (sym p x, (sym q x, sym r x)) in
      subst (λ z. ∥ All (HasArc z.0.key z.0.index.value z.1.0 z.1.1) ls ∥₁) all w

-- edges are a set, where keys and weights are
pub coded_edge : {N E : Type 0} → Coded N → Coded E → Coded (N × N × E)
coded_edge n w = coded_via (coded× n (coded× n w)) (λ t. (t.0, (t.1, t.2))) (λ x y e. λ i. ((e i).0, (e i).1.0, (e i).1.1))
