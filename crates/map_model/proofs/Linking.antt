-- The links of a node, counted after a change of the nodes.
use Rattle.std.proofs.Common.{◌≡◌, ℕ, ◌+◌, ◌-◌, ◌≤◌, Bool, true, false, cond, ◌&&◌, ◌||◌, eqb, List, [], ◌∷◌, ◌++◌, Some, None, Option, sym, refl, ap, ◌∙◌, subst, arith}
use Rattle.std.proofs.lemmas.Bool.{false≢true, eqb-true, eq-eqb, and_parts}
use Rattle.network.specs.declared.direction.CompactDirection.{CompactDirection}
use Rattle.network.specs.declared.direction.CompactDirection.TheVariants.{Outgoing, Incoming}
use Rattle.map_model.specs.Lists.{one, count, has, found, taken}
use Rattle.map_model.specs.Model.{same_direction, Link, Node, Arc, named, links_to, between, links_of, links_at, joined, relinked, linked, unlinked}
use Rattle.map_model.proofs.Searching.{Apart, applied, count_taken, count_taken_other, none_found, count_changed, found_changed, found_changed_other, count_push, found_push, found_push_new, has_counts}

-- ---- the tests

-- a link to o' in the direction w' is one to o in the direction w
abbrev pub hits : ℕ → CompactDirection → ℕ → CompactDirection → Bool
hits o w o' w' = eqb o' o && same_direction w' w

same_hit : (o o' : ℕ) (w w' : CompactDirection) → hits o w o' w' ≡ true → (o' ≡ o) × (w' ≡ w)
same_hit o o' Outgoing Outgoing h = (eqb-true o' o (and_parts _ _ h).0, refl)
same_hit o o' Outgoing Incoming h = absurd (false≢true (and_parts (eqb o' o) false h).1)
same_hit o o' Incoming Outgoing h = absurd (false≢true (and_parts (eqb o' o) false h).1)
same_hit o o' Incoming Incoming h = (eqb-true o' o (and_parts _ _ h).0, refl)

abbrev is_some : {X : Type 0} → Option X → Bool
is_some None = false
is_some (Some x) = true

has_found : {X : Type 0} (p : X → Bool) (l : List X) → has p l ≡ true → is_some (found p l) ≡ true
has_found p [] h = h
has_found p (x ∷ l) h =
    elim (p x) as (λ b. (b || has p l) ≡ true → is_some (cond b (Some x) (found p l)) ≡ true)
    [ true ↦ λ _. refl | false ↦ λ e. has_found p l e ] h

module _ {N : Type 0} where
  abbrev pub link : N → ℕ → CompactDirection → Link N
  link k o w = record { key = k; index = o; direction = w }

  abbrev pub new_node : N → ℕ → Node N
  new_node k n = record { key = k; index = n; links = [] }

  apart_links : (o o' : ℕ) (w w' : CompactDirection) → hits o w o' w' ≡ false → Apart {X = Link N} (links_to o w) (links_to o' w')
  apart_links o o' w w' h x e =
      let s = same_hit o' x.index w' x.direction e in
      ap (λ z. eqb z o && same_direction x.direction w) s.0 ∙ ap (λ z. eqb o' o && same_direction z w) s.1 ∙ h

  pub apart_named : (n x : ℕ) → eqb n x ≡ false → Apart {X = Node N} (named x) (named n)
  apart_named n x h y e = ap (λ z. eqb z x) (eqb-true y.index n e) ∙ h

  pub apart_between : {E : Type 0} (a b x y : ℕ) → (eqb x a && eqb y b) ≡ false → Apart {X = Arc N E} (between a b) (between x y)
  apart_between a b x y h z e =
      let p = and_parts _ _ e in
      ap (λ s. eqb s a && eqb z.target_index b) (eqb-true z.source_index x p.0) ∙ ap (λ s. eqb x a && eqb s b) (eqb-true z.target_index y p.1) ∙ h

  -- ---- counts after one is taken
  pub count_unlink : (o o' : ℕ) (w w' : CompactDirection) (l : List (Link N)) → count (links_to o w) (taken (links_to o' w') l) ≡ count (links_to o w) l - one (hits o w o' w')
  count_unlink o o' w w' l =
      elim (hits o w o' w') as (λ b. hits o w o' w' ≡ b → count (links_to o w) (taken (links_to o' w') l) ≡ count (links_to o w) l - one b) [
        | true ↦ λ e. let s = same_hit o o' w w' e in
            ap (λ z. count (links_to o w) (taken (links_to z w') l)) s.0 ∙ ap (λ z. count (links_to o w) (taken (links_to o z) l)) s.1 ∙ count_taken (links_to o w) l
        | false ↦ λ e. let h = count_taken_other (links_to o w) (links_to o' w') l (apart_links o o' w w' e) in omega arith
      ] refl

  pub count_arc : {E : Type 0} (a b x y : ℕ) (l : List (Arc N E)) → count (between a b) (taken (between x y) l) ≡ count (between a b) l - one (eqb x a && eqb y b)
  count_arc a b x y l =
      elim (eqb x a && eqb y b) as (λ v. (eqb x a && eqb y b) ≡ v → count (between a b) (taken (between x y) l) ≡ count (between a b) l - one v) [
        | true ↦ λ e. let s = and_parts _ _ e in
            ap (λ z. count (between a b) (taken (between z y) l)) (eqb-true x a s.0) ∙ ap (λ z. count (between a b) (taken (between a z) l)) (eqb-true y b s.1) ∙ count_taken (between a b) l
        | false ↦ λ e. let h = count_taken_other (between a b) (between x y) l (apart_between a b x y e) in omega arith
      ] refl

  -- ---- links of the nodes after a change
  pub links_joined : (k : N) (n x : ℕ) (nodes : List (Node N)) → links_at x (joined k n nodes) ≡ links_at x nodes
  links_joined k n x nodes =
      elim (has (named n) nodes) as (λ b. has (named n) nodes ≡ b → links_at x (cond b nodes (nodes ++ new_node k n ∷ [])) ≡ links_at x nodes) [
        | true ↦ λ e. refl
        | false ↦ λ e.
            elim (eqb n x) as (λ b. eqb n x ≡ b → links_at x (nodes ++ new_node k n ∷ []) ≡ links_at x nodes) [
              | true ↦ λ q.
                  let z : found (named x) nodes ≡ None = subst (λ v. found (named v) nodes ≡ None) (eqb-true n x q) (none_found (named n) nodes (has_counts (named n) nodes e)) in
                  ap links_of (found_push_new (named x) nodes (new_node k n) q z) ∙ sym (ap links_of z)
              | false ↦ λ q. ap links_of (found_push (named x) nodes (new_node k n) q)
            ] refl
      ] refl

  pub one_joined : (k : N) (n x : ℕ) (nodes : List (Node N)) → count (named x) nodes ≤ 1 → count (named x) (joined k n nodes) ≤ 1
  one_joined k n x nodes h =
      elim (has (named n) nodes) as (λ b. has (named n) nodes ≡ b → count (named x) (cond b nodes (nodes ++ new_node k n ∷ [])) ≤ 1) [
        | true ↦ λ e. h
        | false ↦ λ e.
            let p = count_push (named x) nodes (new_node k n) in
            let z = has_counts (named n) nodes e in
            elim (eqb n x) as (λ b. eqb n x ≡ b → count (named x) (nodes ++ new_node k n ∷ []) ≤ 1) [
              | true ↦ λ q. let c : count (named x) nodes ≡ 0 = subst (λ v. count (named v) nodes ≡ 0) (eqb-true n x q) z in let r = ap one q in omega arith
              | false ↦ λ q. let r = ap one q in omega arith
            ] refl
      ] refl

  joined_there : (k : N) (n : ℕ) (nodes : List (Node N)) → is_some (found (named n) (joined k n nodes)) ≡ true
  joined_there k n nodes =
      elim (has (named n) nodes) as (λ b. has (named n) nodes ≡ b → is_some (found (named n) (cond b nodes (nodes ++ new_node k n ∷ []))) ≡ true) [
        | true ↦ λ e. has_found (named n) nodes e
        | false ↦ λ e. ap is_some (found_push_new (named n) nodes (new_node k n) (eq-eqb n n refl) (none_found (named n) nodes (has_counts (named n) nodes e)))
      ] refl

  links_applied : (f : List (Link N) → List (Link N)) (o : Option (Node N)) → is_some o ≡ true → links_of (applied (relinked f) o) ≡ f (links_of o)
  links_applied f None h = absurd (false≢true h)
  links_applied f (Some x) h = refl

  links_applied_none : (f : List (Link N) → List (Link N)) (o : Option (Node N)) → f [] ≡ [] → links_of (applied (relinked f) o) ≡ f (links_of o)
  links_applied_none f None h = sym h
  links_applied_none f (Some x) h = refl

  pub count_linked : (k k' : N) (n x o o' : ℕ) (w w' : CompactDirection) (nodes : List (Node N)) → count (links_to o w) (links_at x (linked k n k' o' w' nodes)) ≡ count (links_to o w) (links_at x nodes) + one (eqb n x && hits o w o' w')
  count_linked k k' n x o o' w w' nodes =
      let f : List (Link N) → List (Link N) = λ l. l ++ link k' o' w' ∷ [] in
      elim (eqb n x) as (λ b. eqb n x ≡ b → count (links_to o w) (links_at x (linked k n k' o' w' nodes)) ≡ count (links_to o w) (links_at x nodes) + one (b && hits o w o' w')) [
        | true ↦ λ e.
            let q = eqb-true n x e in
            let a : links_at n (linked k n k' o' w' nodes) ≡ f (links_at n (joined k n nodes)) = ap links_of (found_changed (named n) (relinked f) (joined k n nodes) (λ _. refl)) ∙ links_applied f _ (joined_there k n nodes) in
            let b : links_at n (linked k n k' o' w' nodes) ≡ f (links_at n nodes) = a ∙ ap f (links_joined k n n nodes) in
            let c = count_push (links_to o w) (links_at n nodes) (link k' o' w') in
            subst (λ v. count (links_to o w) (links_at v (linked k n k' o' w' nodes)) ≡ count (links_to o w) (links_at v nodes) + one (hits o w o' w')) q (ap (count (links_to o w)) b ∙ c)
        | false ↦ λ e.
            let a : links_at x (linked k n k' o' w' nodes) ≡ links_at x nodes = ap links_of (found_changed_other (named x) (named n) (relinked f) (joined k n nodes) (λ _. refl) (apart_named n x e)) ∙ links_joined k n x nodes in
            let b = ap (count (links_to o w)) a in omega arith
      ] refl

  pub count_unlinked : (n x o o' : ℕ) (w w' : CompactDirection) (nodes : List (Node N)) → count (links_to o w) (links_at x (unlinked n o' w' nodes)) ≡ count (links_to o w) (links_at x nodes) - one (eqb n x && hits o w o' w')
  count_unlinked n x o o' w w' nodes =
      elim (eqb n x) as (λ b. eqb n x ≡ b → count (links_to o w) (links_at x (unlinked n o' w' nodes)) ≡ count (links_to o w) (links_at x nodes) - one (b && hits o w o' w')) [
        | true ↦ λ e.
            let q = eqb-true n x e in
            let a : links_at n (unlinked n o' w' nodes) ≡ taken (links_to o' w') (links_at n nodes) = ap links_of (found_changed (named n) (relinked (taken (links_to o' w'))) nodes (λ _. refl)) ∙ links_applied_none (taken (links_to o' w')) (found (named n) nodes) refl in
            subst (λ v. count (links_to o w) (links_at v (unlinked n o' w' nodes)) ≡ count (links_to o w) (links_at v nodes) - one (hits o w o' w')) q (ap (count (links_to o w)) a ∙ count_unlink o o' w w' (links_at n nodes))
        | false ↦ λ e.
            let a : links_at x (unlinked n o' w' nodes) ≡ links_at x nodes = ap links_of (found_changed_other (named x) (named n) (relinked (taken (links_to o' w'))) nodes (λ _. refl) (apart_named n x e)) in
            let b = ap (count (links_to o w)) a in omega arith
      ] refl

  pub one_linked : (k k' : N) (n x o : ℕ) (w : CompactDirection) (nodes : List (Node N)) → count (named x) nodes ≤ 1 → count (named x) (linked k n k' o w nodes) ≤ 1
  one_linked k k' n x o w nodes h =
      let a = one_joined k n x nodes h in
      let b = count_changed (named x) (named n) (relinked (λ l. l ++ link k' o w ∷ [])) (joined k n nodes) (λ _. refl) in omega arith

  pub one_unlinked : (n x o : ℕ) (w : CompactDirection) (nodes : List (Node N)) → count (named x) (unlinked n o w nodes) ≡ count (named x) nodes
  one_unlinked n x o w nodes = count_changed (named x) (named n) (relinked (taken (links_to o w))) nodes (λ _. refl)
