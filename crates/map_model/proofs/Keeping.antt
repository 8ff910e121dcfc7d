-- Adding a node, adding an arc and removing one keep links and arcs in step.
use Rattle.std.proofs.Common.{◌≡◌, ℕ, ◌+◌, ◌-◌, ◌≤◌, true, false, cond, ◌&&◌, eqb, List, [], ◌∷◌, ◌++◌, sym, refl, ap, ◌∙◌, subst, arith}
use Rattle.std.proofs.lemmas.Bool.Decides.{nat_tests}
use Rattle.std.proofs.lemmas.Bool.{eqb-true, and_parts}
use Rattle.network.specs.declared.direction.CompactDirection.{CompactDirection}
use Rattle.network.specs.declared.direction.CompactDirection.TheVariants.{Outgoing, Incoming}
use Rattle.map_model.specs.Lists.{one, count, taken, changed}
use Rattle.map_model.specs.Model.{Node, Arc, named, links_to, between, links_at, joined, linked, unlinked, both_linked, both_unlinked, weighed}
use Rattle.map_model.specs.Sound.{due, Fit}
use Rattle.map_model.proofs.Searching.{count_changed, count_push}
use Rattle.map_model.proofs.Linking.{hits, count_arc, links_joined, one_joined, count_linked, count_unlinked, one_linked, one_unlinked}

module _ {N : Type 0} where
  abbrev pub arc : {E : Type 0} → N → ℕ → N → ℕ → E → Arc N E
  arc s a t b w = record { source = s; source_index = a; target = t; target_index = b; weight = w }

  count_both_linked : (s t : N) (a b n o : ℕ) (w : CompactDirection) (nodes : List (Node N))
      → count (links_to o w) (links_at n (both_linked s a t b nodes)) ≡ count (links_to o w) (links_at n nodes) + one (eqb a n && hits o w b Outgoing) + cond (eqb a b) 0 (one (eqb b n && hits o w a Incoming))
  count_both_linked s t a b n o w nodes =
      let p = count_linked s t a n o b w Outgoing nodes in
      let q = count_linked t s b n o a w Incoming (linked s a t b Outgoing nodes) in
      elim (eqb a b) as (λ v. count (links_to o w) (links_at n (cond v (linked s a t b Outgoing nodes) (linked t b s a Incoming (linked s a t b Outgoing nodes)))) ≡ count (links_to o w) (links_at n nodes) + one (eqb a n && hits o w b Outgoing) + cond v 0 (one (eqb b n && hits o w a Incoming)))
      [ true ↦ omega arith | false ↦ omega arith ]

  count_both_unlinked : (a b n o : ℕ) (w : CompactDirection) (nodes : List (Node N))
      → count (links_to o w) (links_at n (both_unlinked a b nodes)) ≡ count (links_to o w) (links_at n nodes) - one (eqb a n && hits o w b Outgoing) - cond (eqb a b) 0 (one (eqb b n && hits o w a Incoming))
  count_both_unlinked a b n o w nodes =
      let p = count_unlinked a n o b w Outgoing nodes in
      let q = count_unlinked b n o a w Incoming (unlinked a b Outgoing nodes) in
      elim (eqb a b) as (λ v. count (links_to o w) (links_at n (cond v (unlinked a b Outgoing nodes) (unlinked b a Incoming (unlinked a b Outgoing nodes)))) ≡ count (links_to o w) (links_at n nodes) - one (eqb a n && hits o w b Outgoing) - cond v 0 (one (eqb b n && hits o w a Incoming)))
      [ true ↦ omega arith | false ↦ omega arith ]

module _ {N E : Type 0} where
  -- ---- a node added
  pub fit_joined : (k : N) (n : ℕ) (nodes : List (Node N)) (arcs : List (Arc N E)) → Fit nodes arcs → Fit (joined k n nodes) arcs
  fit_joined k n nodes arcs f =
      record {
        one_node = λ x. one_joined k n x nodes (f.one_node x);
        one_arc = f.one_arc;
        links = λ x o w. ap (count (links_to o w)) (links_joined k n x nodes) ∙ f.links x o w;
      }

  -- ---- a weight replaced
  pub fit_weighed : (a b : ℕ) (w : E) (nodes : List (Node N)) (arcs : List (Arc N E)) → Fit nodes arcs → Fit nodes (changed (between a b) (weighed w) arcs)
  fit_weighed a b w nodes arcs f =
      let c : (x y : ℕ) → count (between x y) (changed (between a b) (weighed w) arcs) ≡ count (between x y) arcs = λ x y. count_changed (between x y) (between a b) (weighed w) arcs (λ _. refl) in
      record {
        one_node = f.one_node;
        one_arc = λ x y. let e = c x y in let g = f.one_arc x y in omega arith;
        links = λ n o v. f.links n o v ∙ sym (elim v as (λ u. due n o u (changed (between a b) (weighed w) arcs) ≡ due n o u arcs) [ Outgoing ↦ c n o | Incoming ↦ ap (cond (eqb o n) 0) (c o n) ]);
      }

  -- ---- a new arc
  new_link : (s t : N) (a b n o c c' : ℕ) (w : E) (v : CompactDirection) (arcs : List (Arc N E))
      → c ≡ due n o v arcs → c' ≡ c + one (eqb a n && hits o v b Outgoing) + cond (eqb a b) 0 (one (eqb b n && hits o v a Incoming))
      → c' ≡ due n o v (arcs ++ arc s a t b w ∷ [])
  new_link s t a b n o c c' w Outgoing arcs h k =
      let p = count_push (between n o) arcs (arc s a t b w) in grind (arith, nat_tests)
  new_link s t a b n o c c' w Incoming arcs h k =
      let p = count_push (between o n) arcs (arc s a t b w) in grind (arith, nat_tests)

  pub fit_new : (s t : N) (a b : ℕ) (w : E) (nodes : List (Node N)) (arcs : List (Arc N E)) → count (between a b) arcs ≡ 0 → Fit nodes arcs → Fit (both_linked s a t b nodes) (arcs ++ arc s a t b w ∷ [])
  fit_new s t a b w nodes arcs z f =
      record {
        one_node = λ x. elim (eqb a b) as (λ v. count (named x) (cond v (linked s a t b Outgoing nodes) (linked t b s a Incoming (linked s a t b Outgoing nodes))) ≤ 1)
            [ true ↦ one_linked s t a x b Outgoing nodes (f.one_node x) | false ↦ one_linked t s b x a Incoming (linked s a t b Outgoing nodes) (one_linked s t a x b Outgoing nodes (f.one_node x)) ];
        one_arc = λ x y. let p = count_push (between x y) arcs (arc s a t b w) in let g = f.one_arc x y in
            elim (eqb a x && eqb b y) as (λ v. (eqb a x && eqb b y) ≡ v → count (between x y) (arcs ++ arc s a t b w ∷ []) ≤ 1) [
              | true ↦ λ e. let r = and_parts _ _ e in
                  let q : count (between x y) arcs ≡ 0 = subst (λ u. count (between u y) arcs ≡ 0) (eqb-true a x r.0) (subst (λ u. count (between a u) arcs ≡ 0) (eqb-true b y r.1) z) in
                  let l = ap one e in omega arith
              | false ↦ λ e. let l = ap one e in omega arith
            ] refl;
        links = λ n o v. new_link s t a b n o _ _ w v arcs (f.links n o v) (count_both_linked s t a b n o v nodes);
      }

  -- ---- an arc removed
  old_link : (a b n o c c' : ℕ) (v : CompactDirection) (arcs : List (Arc N E))
      → c ≡ due n o v arcs → c' ≡ c - one (eqb a n && hits o v b Outgoing) - cond (eqb a b) 0 (one (eqb b n && hits o v a Incoming))
      → c' ≡ due n o v (taken (between a b) arcs)
  old_link a b n o c c' Outgoing arcs h k =
      let p = count_arc n o a b arcs in grind (arith, nat_tests)
  old_link a b n o c c' Incoming arcs h k =
      let p = count_arc o n a b arcs in grind (arith, nat_tests)

  pub fit_removed : (a b : ℕ) (nodes : List (Node N)) (arcs : List (Arc N E)) → Fit nodes arcs → Fit (both_unlinked a b nodes) (taken (between a b) arcs)
  fit_removed a b nodes arcs f =
      record {
        one_node = λ x. let g = f.one_node x in let p = one_unlinked a x b Outgoing nodes in let q = one_unlinked b x a Incoming (unlinked a b Outgoing nodes) in
            elim (eqb a b) as (λ v. count (named x) (cond v (unlinked a b Outgoing nodes) (unlinked b a Incoming (unlinked a b Outgoing nodes))) ≤ 1) [ true ↦ omega arith | false ↦ omega arith ];
        one_arc = λ x y. let p = count_arc x y a b arcs in let g = f.one_arc x y in omega arith;
        links = λ n o v. old_link a b n o _ _ v arcs (f.links n o v) (count_both_unlinked a b n o v nodes);
      }
