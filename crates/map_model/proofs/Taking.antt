-- A node goes with its arcs.
use Rattle.std.proofs.Common.{◌≡◌, ℕ, ◌+◌, ◌-◌, ◌≤◌, Bool, true, false, cond, ◌&&◌, ◌||◌, eqb, List, [], ◌∷◌, None, sym, refl, ap, ◌∙◌, subst, arith}
use Rattle.std.proofs.lemmas.Bool.Decides.{nat_tests}
use Rattle.std.proofs.lemmas.Bool.{eqb-true, eqb-false, eq-eqb, ne_eqb}
use Rattle.network.specs.declared.direction.CompactDirection.{CompactDirection}
use Rattle.network.specs.declared.direction.CompactDirection.TheVariants.{Outgoing, Incoming}
use Rattle.map_model.specs.Lists.{one, count, found, taken}
use Rattle.network.specs.Directions.{opposite}
use Rattle.map_model.specs.Model.{same_direction, Link, Node, Arc, named, links_to, between, links_of, links_at, unlinked, all_unlinked, arc_of, all_taken}
use Rattle.map_model.specs.Sound.{due, Fit}
use Rattle.map_model.proofs.Searching.{count_taken, count_taken_other, none_found, found_taken_other}
use Rattle.map_model.proofs.Linking.{hits, apart_named, apart_between, count_arc, count_unlinked, one_unlinked}

-- the link o w of n is of the arc from a to b
abbrev pub joins : ℕ → ℕ → ℕ → ℕ → CompactDirection → Bool
joins n a b o Outgoing = eqb n a && eqb o b
joins n a b o Incoming = eqb o a && eqb n b

abbrev pub joined_by : {N : Type 0} → ℕ → ℕ → ℕ → Link N → Bool
joined_by n a b k = joins n a b k.index k.direction

count_of : {N E : Type 0} (n a b o : ℕ) (w : CompactDirection) (arcs : List (Arc N E)) → count (between a b) (taken (arc_of n o w) arcs) ≡ count (between a b) arcs - one (joins n a b o w)
count_of n a b o Outgoing arcs = count_arc a b n o arcs
count_of n a b o Incoming arcs = count_arc a b o n arcs

pub count_all_taken : {N E : Type 0} (n a b : ℕ) (ks : List (Link N)) (arcs : List (Arc N E)) → count (between a b) (all_taken n ks arcs) ≡ count (between a b) arcs - count (joined_by n a b) ks
count_all_taken n a b [] arcs = omega arith
count_all_taken n a b (k ∷ ks) arcs =
    let p = count_of n a b k.index k.direction arcs in
    let q = count_all_taken n a b ks (taken (arc_of n k.index k.direction) arcs) in omega arith

one_joins : (n a b o : ℕ) (w : CompactDirection) → one (joins n a b o w) ≡ cond (eqb n a) (one (hits b Outgoing o w)) 0 + cond (eqb n b) (one (hits a Incoming o w)) 0
one_joins n a b o Outgoing = grind (arith, nat_tests)
one_joins n a b o Incoming = grind (arith, nat_tests)

pub count_joins : {N : Type 0} (n a b : ℕ) (ks : List (Link N)) → count (joined_by n a b) ks ≡ cond (eqb n a) (count (links_to b Outgoing) ks) 0 + cond (eqb n b) (count (links_to a Incoming) ks) 0
count_joins n a b [] = grind (arith, nat_tests)
count_joins n a b (k ∷ ks) =
    let p = one_joins n a b k.index k.direction in
    let q = count_joins n a b ks in grind (arith, nat_tests)

directions_meet : (u w : CompactDirection) → same_direction (opposite u) w ≡ same_direction u (opposite w)
directions_meet Outgoing Outgoing = refl
directions_meet Outgoing Incoming = refl
directions_meet Incoming Outgoing = refl
directions_meet Incoming Incoming = refl

one_met : (n x o y : ℕ) (u w : CompactDirection) → one (eqb y x && hits o w n (opposite u)) ≡ cond (eqb n o) (one (hits x (opposite w) y u)) 0
one_met n x o y u w = let e = directions_meet u w in grind (arith, nat_tests)

pub count_all_unlinked : {N : Type 0} (n x o : ℕ) (w : CompactDirection) (ks : List (Link N)) (nodes : List (Node N)) → count (links_to o w) (links_at x (all_unlinked n ks nodes)) ≡ count (links_to o w) (links_at x nodes) - cond (eqb n o) (count (links_to x (opposite w)) ks) 0
count_all_unlinked n x o w [] nodes = grind (arith, nat_tests)
count_all_unlinked n x o w (k ∷ ks) nodes =
    let p = count_unlinked k.index x o n w (opposite k.direction) nodes in
    let q = count_all_unlinked n x o w ks (unlinked k.index n (opposite k.direction) nodes) in
    let r = one_met n x o k.index k.direction w in
    elim (eqb n o) as (λ b.
    one (eqb k.index x && hits o w n (opposite k.direction)) ≡ cond b (one (links_to x (opposite w) k)) 0
    → count (links_to o w) (links_at x (all_unlinked n ks (unlinked k.index n (opposite k.direction) nodes))) ≡ count (links_to o w) (links_at x (unlinked k.index n (opposite k.direction) nodes)) - cond b (count (links_to x (opposite w)) ks) 0
    → count (links_to o w) (links_at x (all_unlinked n ks (unlinked k.index n (opposite k.direction) nodes))) ≡ count (links_to o w) (links_at x nodes) - cond b (one (links_to x (opposite w) k) + count (links_to x (opposite w)) ks) 0)
    [ true ↦ λ s t. omega arith | false ↦ λ s t. omega arith ] r q

pub one_all_unlinked : {N : Type 0} (n x : ℕ) (ks : List (Link N)) (nodes : List (Node N)) → count (named x) (all_unlinked n ks nodes) ≡ count (named x) nodes
one_all_unlinked n x [] nodes = refl
one_all_unlinked n x (k ∷ ks) nodes = one_all_unlinked n x ks (unlinked k.index n (opposite k.direction) nodes) ∙ one_unlinked k.index x n (opposite k.direction) nodes

-- the links without the node n
links_without : {N : Type 0} (n x : ℕ) (nodes : List (Node N)) → count (named n) nodes ≤ 1 → count (named x) nodes ≤ 1 → links_at x (taken (named n) nodes) ≡ cond (eqb n x) [] (links_at x nodes)
links_without n x nodes h k =
    elim (eqb n x) as (λ b. eqb n x ≡ b → links_at x (taken (named n) nodes) ≡ cond b [] (links_at x nodes)) [
      | true ↦ λ e.
          let c = count_taken (named n) nodes in
          let z = none_found (named n) (taken (named n) nodes) (omega arith) in
          ap links_of (subst (λ v. found (named v) (taken (named n) nodes) ≡ None) (eqb-true n x e) z)
      | false ↦ λ e. ap links_of (found_taken_other (named x) (named n) nodes (apart_named n x e) k)
    ] refl

one_without : {N : Type 0} (n x : ℕ) (nodes : List (Node N)) → count (named x) nodes ≤ 1 → count (named x) (taken (named n) nodes) ≤ 1
one_without n x nodes h =
    elim (eqb n x) as (λ b. eqb n x ≡ b → count (named x) (taken (named n) nodes) ≤ 1) [
      | true ↦ λ e. subst (λ v. count (named x) (taken (named v) nodes) ≤ 1) (sym (eqb-true n x e)) (let c = count_taken (named x) nodes in omega arith)
      | false ↦ λ e. let c = count_taken_other (named x) (named n) nodes (apart_named n x e) in omega arith
    ] refl

module _ {N E : Type 0} where
  -- the arcs that n's links stand for are its arcs
  pub all_joined : (n a b : ℕ) (nodes : List (Node N)) (arcs : List (Arc N E)) → Fit nodes arcs → count (joined_by n a b) (links_at n nodes) ≡ cond (eqb n a || eqb n b) (count (between a b) arcs) 0
  all_joined n a b nodes arcs f =
      let p = count_joins n a b (links_at n nodes) in
      let q = f.links n b Outgoing in
      let r = f.links n a Incoming in
      elim (eqb n a) as (λ u. eqb n a ≡ u
      → count (joined_by n a b) (links_at n nodes) ≡ cond u (count (links_to b Outgoing) (links_at n nodes)) 0 + cond (eqb n b) (count (links_to a Incoming) (links_at n nodes)) 0
      → count (joined_by n a b) (links_at n nodes) ≡ cond (u || eqb n b) (count (between a b) arcs) 0) [
        | true ↦ λ e s.
            let x = eqb-true n a e in
            let y : cond (eqb a n) 0 (count (between a n) arcs) ≡ 0 = ap (λ v. cond v 0 (count (between a n) arcs)) (eq-eqb a n (sym x)) in
            let z : count (between n b) arcs ≡ count (between a b) arcs = ap (λ v. count (between v b) arcs) x in
            elim (eqb n b) as (λ v. count (joined_by n a b) (links_at n nodes) ≡ count (links_to b Outgoing) (links_at n nodes) + cond v (count (links_to a Incoming) (links_at n nodes)) 0 → count (joined_by n a b) (links_at n nodes) ≡ count (between a b) arcs)
            [ true ↦ λ t. omega arith | false ↦ λ t. omega arith ] s
        | false ↦ λ e s.
            elim (eqb n b) as (λ v. eqb n b ≡ v → count (joined_by n a b) (links_at n nodes) ≡ 0 + cond v (count (links_to a Incoming) (links_at n nodes)) 0 → count (joined_by n a b) (links_at n nodes) ≡ cond v (count (between a b) arcs) 0) [
              | true ↦ λ g t.
                  let x = eqb-true n b g in
                  let y : cond (eqb a n) 0 (count (between a n) arcs) ≡ count (between a n) arcs = ap (λ v. cond v 0 (count (between a n) arcs)) (ne_eqb a n (λ h. eqb-false n a e (sym h))) in
                  let z : count (between a n) arcs ≡ count (between a b) arcs = ap (λ v. count (between a v) arcs) x in
                  omega arith
              | false ↦ λ g t. omega arith
            ] refl s
      ] refl p

  pub count_gone : (n a b : ℕ) (nodes : List (Node N)) (arcs : List (Arc N E)) → Fit nodes arcs → count (between a b) (all_taken n (links_at n nodes) arcs) ≡ cond (eqb n a || eqb n b) 0 (count (between a b) arcs)
  count_gone n a b nodes arcs f =
      let p = count_all_taken n a b (links_at n nodes) arcs in
      let q = all_joined n a b nodes arcs f in
      elim (eqb n a || eqb n b) as (λ v. count (joined_by n a b) (links_at n nodes) ≡ cond v (count (between a b) arcs) 0 → count (between a b) (all_taken n (links_at n nodes) arcs) ≡ cond v 0 (count (between a b) arcs))
      [ true ↦ λ s. omega arith | false ↦ λ s. omega arith ] q

  gone_link : (n x o c c' c₂ : ℕ) (w : CompactDirection) (nodes : List (Node N)) (arcs arcs' : List (Arc N E)) → Fit nodes arcs
      → ((a b : ℕ) → count (between a b) arcs' ≡ cond (eqb n a || eqb n b) 0 (count (between a b) arcs))
      → c ≡ due x o w arcs → c₂ ≡ due n x (opposite w) arcs → c' ≡ cond (eqb n x) 0 c - cond (eqb n o) c₂ 0
      → c' ≡ due x o w arcs'
  gone_link n x o c c' c₂ Outgoing nodes arcs arcs' f g h i j =
      let p = g x o in
      elim (eqb n x) as (λ u. eqb n x ≡ u → c' ≡ cond u 0 c - cond (eqb n o) c₂ 0 → count (between x o) arcs' ≡ cond (u || eqb n o) 0 (count (between x o) arcs) → c' ≡ count (between x o) arcs') [
        | true ↦ λ e s t. grind (arith, nat_tests)
        | false ↦ λ e s t.
            elim (eqb n o) as (λ v. eqb n o ≡ v → c' ≡ c - cond v c₂ 0 → count (between x o) arcs' ≡ cond v 0 (count (between x o) arcs) → c' ≡ count (between x o) arcs') [
              | true ↦ λ k s' t'.
                  let y : cond (eqb x n) 0 (count (between x n) arcs) ≡ count (between x n) arcs = ap (λ v. cond v 0 (count (between x n) arcs)) (ne_eqb x n (λ q. eqb-false n x e (sym q))) in
                  let z : count (between x n) arcs ≡ count (between x o) arcs = ap (λ v. count (between x v) arcs) (eqb-true n o k) in omega arith
              | false ↦ λ k s' t'. omega arith
            ] refl s t
      ] refl j p
  gone_link n x o c c' c₂ Incoming nodes arcs arcs' f g h i j =
      let p = g o x in
      elim (eqb n x) as (λ u. eqb n x ≡ u → c' ≡ cond u 0 c - cond (eqb n o) c₂ 0 → count (between o x) arcs' ≡ cond (eqb n o || u) 0 (count (between o x) arcs) → c' ≡ cond (eqb o x) 0 (count (between o x) arcs')) [
        | true ↦ λ e s t. grind (arith, nat_tests)
        | false ↦ λ e s t.
            elim (eqb n o) as (λ v. eqb n o ≡ v → c' ≡ c - cond v c₂ 0 → count (between o x) arcs' ≡ cond (v || false) 0 (count (between o x) arcs) → c' ≡ cond (eqb o x) 0 (count (between o x) arcs')) [
              | true ↦ λ k s' t'.
                  let z : count (between n x) arcs ≡ count (between o x) arcs = ap (λ v. count (between v x) arcs) (eqb-true n o k) in
                  grind (arith, nat_tests)
              | false ↦ λ k s' t'. grind (arith, nat_tests)
            ] refl s t
      ] refl j p

  pub fit_gone : (n : ℕ) (nodes : List (Node N)) (arcs : List (Arc N E)) → Fit nodes arcs → Fit (all_unlinked n (links_at n nodes) (taken (named n) nodes)) (all_taken n (links_at n nodes) arcs)
  fit_gone n nodes arcs f =
      record {
        one_node = λ x. let p = one_all_unlinked n x (links_at n nodes) (taken (named n) nodes) in let q = one_without n x nodes (f.one_node x) in omega arith;
        one_arc = λ a b. let p = count_all_taken n a b (links_at n nodes) arcs in let q = f.one_arc a b in omega arith;
        links = λ x o w.
            let p = count_all_unlinked n x o w (links_at n nodes) (taken (named n) nodes) in
            let q = ap (count (links_to o w)) (links_without n x nodes (f.one_node n) (f.one_node x)) in
            let r : cond (eqb n x) 0 (count (links_to o w) (links_at x nodes)) ≡ count (links_to o w) (cond (eqb n x) [] (links_at x nodes)) = elim (eqb n x) as (λ b. cond b 0 (count (links_to o w) (links_at x nodes)) ≡ count (links_to o w) (cond b [] (links_at x nodes))) [ true ↦ refl | false ↦ refl ] in
            gone_link n x o (count (links_to o w) (links_at x nodes)) _ (count (links_to x (opposite w)) (links_at n nodes)) w nodes arcs (all_taken n (links_at n nodes) arcs) f (λ a b. count_gone n a b nodes arcs f) (f.links x o w) (f.links n x (opposite w))
            (p ∙ ap (λ v. v - cond (eqb n o) (count (links_to x (opposite w)) (links_at n nodes)) 0) (q ∙ sym r));
      }

  -- what is found once n is gone
  found_of : (n a b o : ℕ) (w : CompactDirection) (arcs : List (Arc N E)) → count (between a b) arcs ≤ 1 → joins n a b o w ≡ false → found (between a b) (taken (arc_of n o w) arcs) ≡ found (between a b) arcs
  found_of n a b o Outgoing arcs h e = found_taken_other (between a b) (between n o) arcs (apart_between a b n o e) h
  found_of n a b o Incoming arcs h e = found_taken_other (between a b) (between o n) arcs (apart_between a b o n e) h

  pub found_all_taken : (n a b : ℕ) (ks : List (Link N)) (arcs : List (Arc N E)) → count (between a b) arcs ≤ 1 → count (joined_by n a b) ks ≡ 0 → found (between a b) (all_taken n ks arcs) ≡ found (between a b) arcs
  found_all_taken n a b [] arcs h z = refl
  found_all_taken n a b (k ∷ ks) arcs h z =
      elim (joined_by n a b k) as (λ v. joined_by n a b k ≡ v → one v + count (joined_by n a b) ks ≡ 0 → found (between a b) (all_taken n ks (taken (arc_of n k.index k.direction) arcs)) ≡ found (between a b) arcs) [
        | true ↦ λ e s. absurd (omega arith)
        | false ↦ λ e s.
            let c = count_of n a b k.index k.direction arcs in
            found_all_taken n a b ks (taken (arc_of n k.index k.direction) arcs) (omega arith) (omega arith) ∙ found_of n a b k.index k.direction arcs h e
      ] refl z

  pub found_gone : (n a b : ℕ) (nodes : List (Node N)) (arcs : List (Arc N E)) → Fit nodes arcs → found (between a b) (all_taken n (links_at n nodes) arcs) ≡ cond (eqb n a || eqb n b) None (found (between a b) arcs)
  found_gone n a b nodes arcs f =
      let p = all_joined n a b nodes arcs f in
      let g = count_gone n a b nodes arcs f in
      elim (eqb n a || eqb n b) as (λ v. count (joined_by n a b) (links_at n nodes) ≡ cond v (count (between a b) arcs) 0 → count (between a b) (all_taken n (links_at n nodes) arcs) ≡ cond v 0 (count (between a b) arcs) → found (between a b) (all_taken n (links_at n nodes) arcs) ≡ cond v None (found (between a b) arcs)) [
        | true ↦ λ s t. none_found (between a b) (all_taken n (links_at n nodes) arcs) t
        | false ↦ λ s t. found_all_taken n a b (links_at n nodes) arcs (f.one_arc a b) s
      ] p g
