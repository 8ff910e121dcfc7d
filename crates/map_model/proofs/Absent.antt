-- Where nothing is found, nothing changes.
use Rattle.std.proofs.Common.{◌≡◌, ℕ, ◌+◌, Bool, true, false, cond, eqb, List, [], ◌∷◌, Some, None, refl, ap, ◌∙◌, arith}
use Rattle.network.specs.declared.direction.CompactDirection.{CompactDirection}
use Rattle.network.specs.declared.direction.CompactDirection.TheVariants.{Outgoing, Incoming}
use Rattle.map_model.specs.Lists.{one, count, found, moved, taken, changed}
use Rattle.map_model.specs.Model.{Node, Model, named, links_to, between, links_of, links_at, relinked, unlinked, both_unlinked, edge_removed_at}
use Rattle.map_model.specs.Sound.{Sound}
use Rattle.map_model.proofs.Searching.{none_counts}

module _ {X : Type 0} where
  pub taken_none : (p : X → Bool) (l : List X) → count p l ≡ 0 → taken p l ≡ l
  taken_none p [] h = refl
  taken_none p (x ∷ l) h =
      elim (p x) as (λ b. one b + count p l ≡ 0 → cond b (moved l) (x ∷ taken p l) ≡ x ∷ l)
      [ true ↦ λ k. absurd (omega arith) | false ↦ λ k. ap (λ t. x ∷ t) (taken_none p l (omega arith)) ] h

  pub changed_none : (p : X → Bool) (f : X → X) (l : List X) → count p l ≡ 0 → changed p f l ≡ l
  changed_none p f [] h = refl
  changed_none p f (x ∷ l) h =
      elim (p x) as (λ b. one b + count p l ≡ 0 → cond b (f x ∷ l) (x ∷ changed p f l) ≡ x ∷ l)
      [ true ↦ λ k. absurd (omega arith) | false ↦ λ k. ap (λ t. x ∷ t) (changed_none p f l (omega arith)) ] h

module _ {N : Type 0} where
  -- an absent node has no link to lose
  pub unlinked_absent : (i j : ℕ) (d : CompactDirection) (nodes : List (Node N)) → count (named i) nodes ≡ 0 → unlinked i j d nodes ≡ nodes
  unlinked_absent i j d nodes h = changed_none (named i) (relinked (taken (links_to j d))) nodes h

  -- nor has a node without such a link
  pub unlinked_none : (i j : ℕ) (d : CompactDirection) (nodes : List (Node N)) → count (links_to j d) (links_at i nodes) ≡ 0 → unlinked i j d nodes ≡ nodes
  unlinked_none i j d [] h = refl
  unlinked_none i j d (x ∷ l) h =
      elim (named i x) as (λ b. count (links_to j d) (links_of (cond b (Some x) (found (named i) l))) ≡ 0 → cond b (relinked (taken (links_to j d)) x ∷ l) (x ∷ changed (named i) (relinked (taken (links_to j d))) l) ≡ x ∷ l) [
        | true ↦ λ k. ap (λ ks. record { key = x.key; index = x.index; links = ks } ∷ l) (taken_none (links_to j d) x.links k)
        | false ↦ λ k. ap (λ t. x ∷ t) (unlinked_none i j d l k)
      ] h

  pub both_unlinked_none : (i j : ℕ) (nodes : List (Node N)) → count (links_to j Outgoing) (links_at i nodes) ≡ 0 → (eqb i j ≡ false → count (links_to i Incoming) (links_at j nodes) ≡ 0) → both_unlinked i j nodes ≡ nodes
  both_unlinked_none i j nodes h k =
      let p = unlinked_none i j Outgoing nodes h in
      elim (eqb i j) as (λ b. eqb i j ≡ b → cond b (unlinked i j Outgoing nodes) (unlinked j i Incoming (unlinked i j Outgoing nodes)) ≡ nodes) [
        | true ↦ λ e. p
        | false ↦ λ e. ap (unlinked j i Incoming) p ∙ unlinked_none j i Incoming nodes (k e)
      ] refl

module _ {N E : Type 0} where
  -- removing an arc that is not there changes nothing
  pub removed_absent : (m : Model N E) (i j : ℕ) → Sound m → found (between i j) m.arcs ≡ None → (edge_removed_at m i j).1 ≡ m
  removed_absent m i j s h =
      let c = none_counts (between i j) m.arcs h in
      let p = s.links i j Outgoing in
      let q = s.links j i Incoming in
      let r : both_unlinked i j m.nodes ≡ m.nodes = both_unlinked_none i j m.nodes (omega arith) (λ e. q ∙ ap (λ b. cond b 0 (count (between i j) m.arcs)) e ∙ c) in
      let t = taken_none (between i j) m.arcs c in
      λ k. record { nodes = r k; arcs = t k; node_places = m.node_places; arc_places = m.arc_places }
