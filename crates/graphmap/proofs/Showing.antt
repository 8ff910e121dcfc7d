-- What a walk over links begins with, and what comes first.
use Rattle.std.proofs.Common.{◌≡◌, ℕ, List, [], ◌∷◌, map, Some, None, Option, MatchOption, sym, ap, ◌∙◌, subst}
use mathlib.Core.Logic.{∥∥₁_map, ∥∥₁_elim}
use native.Mathlib.Bridge.{le_prop}
use base.Stored.{Coded, Coded-set, coded_list}
use Rattle.std.specs.Option.{option_map}
use Rattle.network.specs.declared.direction.CompactDirection.{CompactDirection}
use Rattle.map_model.specs.Model.{Link}
use Rattle.map_model.specs.Shown.{links_shown}
use Rattle.map_layout.specs.declared.records.IndexedKey.{IndexedKey}
use Rattle.map_layout.specs.Layout.{State, model}
use Rattle.map_layout.specs.Edits.{Good, oldest_at}
use Rattle.graphmap.specs.declared.graphmap.walk.LinksDirected.{LinksDirected}
use Rattle.graphmap.specs.States.{state}
use Rattle.graphmap.specs.Cursors.{walk_left}
use Rattle.graphmap.specs.Links.{ToCome, WalkEnds, LeadsTo, links_left, first_of, rest_of}
use Rattle.graphmap.proofs.Opening.{opened}
use Rattle.graphmap.proofs.Walking.{walk_ends, to_come, only_left}

module _ {N E : Type 0} (st : State N E) (i : ℕ) (d : CompactDirection) where
  pub begins : (s : Option ℕ) → s ≡ oldest_at i st → ∥ Good st ∥₁ → ∥ ToCome st i d s 0 (links_shown (model st) i d) ∥₁
  begins s o g = ∥∥₁_map g (λ k. subst (λ v. ToCome st i d v 0 (links_shown (model st) i d)) (sym o) (opened st i d k))

  pub begins_ending : (s : Option ℕ) → s ≡ oldest_at i st → ∥ Good st ∥₁ → WalkEnds st s
  begins_ending s o g = ∥∥₁_elim (begins s o g) le_prop (λ t. walk_ends st i d s (links_shown (model st) i d) t)

  -- what is made of all links to come, where equality is a fact alone
  pub all_left : {X : Type 0} (f : List (Link N) → List X) → Coded X → (s : Option ℕ) (ks : List (Link N)) → ∥ ToCome st i d s 0 ks ∥₁ → f (links_left st i d s) ≡ f ks
  all_left f coded s ks e = ∥∥₁_elim e (Coded-set (coded_list coded) (f (links_left st i d s)) (f ks)) (λ t. sym (ap f (only_left st i d s ks t)))

  -- what is to come once the first of the links from a place on came, and the links ls come after it
  module _ (s : Option ℕ) (ks ls : List (Link N)) (t : ToCome st i d s 0 ks) where
    rest_to_come : (next : Option ℕ) → WalkEnds st next → ls ≡ links_left st i d next → (o : Option (IndexedKey N)) → LeadsTo (links_left st i d s) o ls → ToCome st i d next 0 (rest_of ks)
    rest_to_come next ends e None h = subst (ToCome st i d next 0) (sym e ∙ h.1 ∙ sym (ap rest_of (only_left st i d s ks t ∙ h.0))) (to_come st i d next ends)
    rest_to_come next ends e (Some n) h = subst (ToCome st i d next 0) (sym (ap rest_of (only_left st i d s ks t ∙ h.1) ∙ e)) (to_come st i d next ends)

    pub first_key : (o : Option (IndexedKey N)) → LeadsTo (links_left st i d s) o ls → option_map (λ n. n.key) o ≡ option_map (λ k. k.key) (first_of ks)
    first_key None h = sym (ap (λ l. option_map (λ (k : Link N). k.key) (first_of l)) (only_left st i d s ks t ∙ h.0))
    first_key (Some n) h = sym (ap (λ l. option_map (λ (k : Link N). k.key) (first_of l)) (only_left st i d s ks t ∙ h.1))

-- the keys of links come as the links do
pub keys_come : {N : Type 0} (ks ls : List (Link N)) (o : Option (IndexedKey N)) → LeadsTo ks o ls
    → MatchOption (option_map (λ n. n.key) o) ((map (λ k. k.key) ks ≡ []) × (map (λ k. k.key) ls ≡ [])) (λ x. map (λ k. k.key) ks ≡ x ∷ map (λ k. k.key) ls)
keys_come ks ls None h = (ap (map (λ k. k.key)) h.0, ap (map (λ k. k.key)) h.1)
keys_come ks ls (Some n) h = ap (map (λ k. k.key)) h.1

-- the same, of a walk before and after a step
module _ {N E : Type 0} (s n : LinksDirected N E) (same : (n.map.now ≡ s.map.now) × (n.node ≡ s.node) × (n.direction ≡ s.direction)) where
  pub walked_on : (ks : List (Link N)) → ToCome (state s.map.now.tables) s.node.index.value s.direction s.place 0 ks → (o : Option (IndexedKey N)) → LeadsTo (walk_left s) o (walk_left n)
      → ToCome (state s.map.now.tables) s.node.index.value s.direction n.place 0 (rest_of ks)
  walked_on ks t = rest_to_come (state s.map.now.tables) s.node.index.value s.direction s.place ks (walk_left n) t n.place
      (subst (λ m. WalkEnds (state m.tables) n.place) same.0 n.ends) (λ x. links_left (state (same.0 x).tables) (same.1 x).index.value (same.2 x) n.place)
