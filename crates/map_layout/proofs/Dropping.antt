-- The first link of a node goes with its arc: the map stays sound, and the node has one removal less before it.
use Rattle.std.proofs.Common.{◌≡◌, ℕ, ◌+◌, ◌-◌, ◌≤◌, Bool, true, false, cond, ◌&&◌, eqb, ◌≢◌, List, [], ◌∷◌, ◌++◌, Some, None, Option, sym, refl, ap, ◌∙◌, subst, ⊎_elim, arith}
use Rattle.std.proofs.lemmas.Bool.{cases_eq, cases_Bool, eq-eqb, ne_eqb, cond-true, cond-false}
use Rattle.network.specs.declared.direction.CompactDirection.{CompactDirection}
use Rattle.network.specs.declared.direction.CompactDirection.TheVariants.{Outgoing, Incoming}
use Rattle.map_model.specs.Lists.{one, count, found, moved, taken, changed}
use Rattle.network.specs.Directions.{opposite}
use Rattle.map_model.specs.Model.{Link, Node, Arc, named, between, links_of, links_to, links_at, relinked, unlinked, all_unlinked, arc_of, all_taken}
use Rattle.map_model.specs.Sound.{due, Fit}
use Rattle.map_model.proofs.Searching.{Apart, Keeps, applied, count_changed, count_taken, found_changed, found_changed_other}
use Rattle.map_model.proofs.Linking.{hits, apart_named, count_unlinked, one_unlinked}
use Rattle.map_model.proofs.Keeping.{fit_removed}
use Rattle.map_layout.proofs.Members.{moved_push, count_append, changed_none}

-- all but the first
abbrev pub tail : {X : Type 0} → List X → List X
tail [] = []
tail (x ∷ l) = l

-- ---- changing and taking
module _ {X : Type 0} where
  record Snoc (l : List X) : Type 0 where
    before : List X
    end : X
    whole : l ≡ before ++ end ∷ []

  snoc : (x : X) (l : List X) → Snoc (x ∷ l)
  snoc x [] = record { before = []; end = x; whole = refl }
  snoc x (y ∷ l) = let s = snoc y l in record { before = x ∷ s.before; end = s.end; whole = ap (λ z. x ∷ z) s.whole }

  changed_left : (q : X → Bool) (f : X → X) (l : List X) (z : X) → q z ≡ false → changed q f (l ++ z ∷ []) ≡ changed q f l ++ z ∷ []
  changed_left q f [] z h = cond-false (q z) (f z ∷ []) (z ∷ []) h
  changed_left q f (x ∷ l) z h =
      elim (q x) as (λ b. cond b (f x ∷ (l ++ z ∷ [])) (x ∷ changed q f (l ++ z ∷ [])) ≡ cond b (f x ∷ l) (x ∷ changed q f l) ++ z ∷ [])
      [ true ↦ refl | false ↦ ap (λ v. x ∷ v) (changed_left q f l z h) ]

  changed_right : (q : X → Bool) (f : X → X) (l : List X) (z : X) → count q l ≡ 0 → q z ≡ true → changed q f (l ++ z ∷ []) ≡ l ++ f z ∷ []
  changed_right q f [] z c h = cond-true (q z) (f z ∷ []) (z ∷ []) h
  changed_right q f (x ∷ l) z c h =
      elim (q x) as (λ b. one b + count q l ≡ 0 → cond b (f x ∷ (l ++ z ∷ [])) (x ∷ changed q f (l ++ z ∷ [])) ≡ x ∷ (l ++ f z ∷ []))
      [ true ↦ λ d. absurd (omega arith) | false ↦ λ d. ap (λ v. x ∷ v) (changed_right q f l z (omega arith) h) ] c

  moved_changed : (q : X → Bool) (f : X → X) (l : List X) → count q l ≤ 1 → moved (changed q f l) ≡ changed q f (moved l)
  moved_changed q f [] c = refl
  moved_changed q f (x ∷ l) c =
      let s = snoc x l in
      let a = s.before in
      let z = s.end in
      let w = s.whole in
      let d : count q a + (one (q z) + 0) ≤ 1 = (let e = ap (count q) w in let g = count_append q a (z ∷ []) in omega arith) in
      ap (λ v. moved (changed q f v)) w
      ∙ ⊎_elim
      (λ (t : q z ≡ true). let u = ap one t in
      ap moved (changed_right q f a z (omega arith) t) ∙ moved_push a (f z) ∙ sym (cond-true (q z) (f z ∷ a) (z ∷ changed q f a) t))
      (λ (t : q z ≡ false). ap moved (changed_left q f a z t) ∙ moved_push (changed q f a) z ∙ sym (cond-false (q z) (f z ∷ a) (z ∷ changed q f a) t))
      (cases_Bool (q z))
      ∙ ap (changed q f) (sym (ap moved w ∙ moved_push a z))

  taken_changed : (p q : X → Bool) (f : X → X) (l : List X) → Keeps p f → Apart p q → count q l ≤ 1 → taken p (changed q f l) ≡ changed q f (taken p l)
  taken_changed p q f [] k d c = refl
  taken_changed p q f (x ∷ l) k d c =
      elim (q x) as (λ b. q x ≡ b → one b + count q l ≤ 1 → taken p (cond b (f x ∷ l) (x ∷ changed q f l)) ≡ changed q f (cond (p x) (moved l) (x ∷ taken p l))) [
        | true ↦ λ e m.
            cond-false (p (f x)) (moved l) (f x ∷ taken p l) (k x ∙ d x e)
            ∙ sym (ap (changed q f) (cond-false (p x) (moved l) (x ∷ taken p l) (d x e)) ∙ cond-true (q x) (f x ∷ taken p l) (x ∷ changed q f (taken p l)) e)
        | false ↦ λ e m.
            elim (p x) as (λ b. cond b (moved (changed q f l)) (x ∷ taken p (changed q f l)) ≡ changed q f (cond b (moved l) (x ∷ taken p l))) [
              | true ↦ moved_changed q f l (omega arith)
              | false ↦ ap (λ v. x ∷ v) (taken_changed p q f l k d (omega arith)) ∙ sym (cond-false (q x) (f x ∷ taken p l) (x ∷ changed q f (taken p l)) e)
            ]
      ] refl c

  -- what is changed goes
  taken_same : (p : X → Bool) (f : X → X) (l : List X) → Keeps p f → taken p (changed p f l) ≡ taken p l
  taken_same p f [] k = refl
  taken_same p f (x ∷ l) k =
      elim (p x) as (λ b. p x ≡ b → taken p (cond b (f x ∷ l) (x ∷ changed p f l)) ≡ cond b (moved l) (x ∷ taken p l)) [
        | true ↦ λ e. cond-true (p (f x)) (moved l) (f x ∷ taken p l) (k x ∙ e)
        | false ↦ λ e. cond-false (p x) (moved (changed p f l)) (x ∷ taken p (changed p f l)) e ∙ ap (λ v. x ∷ v) (taken_same p f l k)
      ] refl

-- ---- counting
fit_like : {N E : Type 0} (nodes nodes' : List (Node N)) (arcs : List (Arc N E)) → ((x : ℕ) → count (named x) nodes' ≡ count (named x) nodes)
    → ((x o : ℕ) (w : CompactDirection) → count (links_to o w) (links_at x nodes') ≡ count (links_to o w) (links_at x nodes)) → Fit nodes arcs → Fit nodes' arcs
fit_like nodes nodes' arcs h k f = record {
  one_node = λ x. let a = h x in let b = f.one_node x in omega arith;
  one_arc = f.one_arc;
  links = λ x o w. k x o w ∙ f.links x o w;
}

pub due_once : {N E : Type 0} (i j : ℕ) (d : CompactDirection) (nodes : List (Node N)) (arcs : List (Arc N E)) → Fit nodes arcs → due i j d arcs ≤ 1
due_once i j Outgoing nodes arcs f = f.one_arc i j
due_once i j Incoming nodes arcs f =
    elim (eqb j i) as (λ b. cond b 0 (count (between j i) arcs) ≤ 1) [ true ↦ omega arith | false ↦ f.one_arc j i ]

module _ {N : Type 0} (i : ℕ) (k : Link N) (ks : List (Link N)) (nodes : List (Node N)) (first : links_at i nodes ≡ k ∷ ks) where
  abbrev pub without_first : List (Node N)
  without_first = changed (named i) (relinked tail) nodes

  links_applied : (o : Option (Node N)) → links_of (applied (relinked tail) o) ≡ tail (links_of o)
  links_applied None = refl
  links_applied (Some x) = refl

  pub first_gone : links_at i without_first ≡ ks
  first_gone = ap links_of (found_changed (named i) (relinked tail) nodes (λ _. refl)) ∙ links_applied (found (named i) nodes) ∙ ap tail first

  pub others_same : (x : ℕ) → i ≢ x → links_at x without_first ≡ links_at x nodes
  others_same x n = ap links_of (found_changed_other (named x) (named i) (relinked tail) nodes (λ _. refl) (apart_named i x (ne_eqb i x n)))

  count_first : (x o : ℕ) (w : CompactDirection) → count (links_to o w) (links_at x without_first) ≡ count (links_to o w) (links_at x nodes) - one (eqb i x && hits o w k.index k.direction)
  count_first x o w = ⊎_elim
      (λ (e : i ≡ x).
      let a = ap (count (links_to o w)) first_gone in
      let b = ap (count (links_to o w)) first in
      let c : one (eqb i i && hits o w k.index k.direction) ≡ one (hits o w k.index k.direction) = ap (λ z. one (z && hits o w k.index k.direction)) (eq-eqb i i refl) in
      subst (λ z. count (links_to o w) (links_at z without_first) ≡ count (links_to o w) (links_at z nodes) - one (eqb i z && hits o w k.index k.direction)) e (omega arith))
      (λ (n : i ≢ x).
      let a = ap (count (links_to o w)) (others_same x n) in
      let c : ◌≡◌ {A = ℕ} (one (eqb i x && hits o w k.index k.direction)) 0 = ap (λ z. one (z && hits o w k.index k.direction)) (ne_eqb i x n) in omega arith)
      (cases_eq i x)

  one_first : (x : ℕ) → count (named x) without_first ≡ count (named x) nodes
  one_first x = count_changed (named x) (named i) (relinked tail) nodes (λ _. refl)

  -- the other end's link goes too
  abbrev pub cut_nodes : CompactDirection → List (Node N)
  cut_nodes d = cond (eqb k.index i) without_first (unlinked k.index i (opposite d) without_first)

  module _ {E : Type 0} (arcs : List (Arc N E)) (fit : Fit nodes arcs) where
    fit_out : k.direction ≡ Outgoing → Fit (cut_nodes Outgoing) (taken (between i k.index) arcs)
    fit_out d = ⊎_elim
        (λ (e : k.index ≡ i).
        subst (λ z. Fit z (taken (between i k.index) arcs)) (sym (cond-true (eqb k.index i) without_first (unlinked k.index i Incoming without_first) (eq-eqb k.index i e)))
        (fit_like (unlinked i k.index Outgoing nodes) without_first (taken (between i k.index) arcs)
        (λ x. one_first x ∙ sym (one_unlinked i x k.index Outgoing nodes))
        (λ x o w. count_first x o w ∙ ap (λ z. count (links_to o w) (links_at x nodes) - one (eqb i x && hits o w k.index z)) d ∙ sym (count_unlinked i x o k.index w Outgoing nodes))
        (subst (λ z. Fit z (taken (between i k.index) arcs)) (cond-true (eqb i k.index) (unlinked i k.index Outgoing nodes) (unlinked k.index i Incoming (unlinked i k.index Outgoing nodes)) (eq-eqb i k.index (sym e))) (fit_removed i k.index nodes arcs fit))))
        (λ (n : k.index ≢ i).
        subst (λ z. Fit z (taken (between i k.index) arcs)) (sym (cond-false (eqb k.index i) without_first (unlinked k.index i Incoming without_first) (ne_eqb k.index i n)))
        (fit_like (unlinked k.index i Incoming (unlinked i k.index Outgoing nodes)) (unlinked k.index i Incoming without_first) (taken (between i k.index) arcs)
        (λ x. one_unlinked k.index x i Incoming without_first ∙ one_first x ∙ sym (one_unlinked k.index x i Incoming (unlinked i k.index Outgoing nodes) ∙ one_unlinked i x k.index Outgoing nodes))
        (λ x o w.
        let a = count_unlinked k.index x o i w Incoming without_first in
        let b = count_first x o w ∙ ap (λ z. count (links_to o w) (links_at x nodes) - one (eqb i x && hits o w k.index z)) d in
        let c = count_unlinked k.index x o i w Incoming (unlinked i k.index Outgoing nodes) in
        let f = count_unlinked i x o k.index w Outgoing nodes in omega arith)
        (subst (λ z. Fit z (taken (between i k.index) arcs)) (cond-false (eqb i k.index) (unlinked i k.index Outgoing nodes) (unlinked k.index i Incoming (unlinked i k.index Outgoing nodes)) (ne_eqb i k.index (λ e. n (sym e)))) (fit_removed i k.index nodes arcs fit))))
        (cases_eq k.index i)

    fit_in : k.direction ≡ Incoming → k.index ≢ i → Fit (cut_nodes Incoming) (taken (between k.index i) arcs)
    fit_in d n =
        subst (λ z. Fit z (taken (between k.index i) arcs)) (sym (cond-false (eqb k.index i) without_first (unlinked k.index i Outgoing without_first) (ne_eqb k.index i n)))
        (fit_like (unlinked i k.index Incoming (unlinked k.index i Outgoing nodes)) (unlinked k.index i Outgoing without_first) (taken (between k.index i) arcs)
        (λ x. one_unlinked k.index x i Outgoing without_first ∙ one_first x ∙ sym (one_unlinked i x k.index Incoming (unlinked k.index i Outgoing nodes) ∙ one_unlinked k.index x i Outgoing nodes))
        (λ x o w.
        let a = count_unlinked k.index x o i w Outgoing without_first in
        let b = count_first x o w ∙ ap (λ z. count (links_to o w) (links_at x nodes) - one (eqb i x && hits o w k.index z)) d in
        let c = count_unlinked i x o k.index w Incoming (unlinked k.index i Outgoing nodes) in
        let f = count_unlinked k.index x o i w Outgoing nodes in omega arith)
        (subst (λ z. Fit z (taken (between k.index i) arcs)) (cond-false (eqb k.index i) (unlinked k.index i Outgoing nodes) (unlinked i k.index Incoming (unlinked k.index i Outgoing nodes)) (ne_eqb k.index i n)) (fit_removed k.index i nodes arcs fit)))

    pub fit_cut : (d : CompactDirection) → k.direction ≡ d → (d ≡ Incoming → k.index ≢ i) → Fit (cut_nodes d) (taken (arc_of i k.index d) arcs)
    fit_cut Outgoing e n = fit_out e
    fit_cut Incoming e n = fit_in e (n refl)

    -- ---- the removals that are left
    pub links_cut : (d : CompactDirection) → links_at i (cut_nodes d) ≡ ks
    links_cut d = ⊎_elim
        (λ (e : k.index ≡ i). ap (links_at i) (cond-true (eqb k.index i) without_first (unlinked k.index i (opposite d) without_first) (eq-eqb k.index i e)) ∙ first_gone)
        (λ (n : k.index ≢ i).
        ap (links_at i) (cond-false (eqb k.index i) without_first (unlinked k.index i (opposite d) without_first) (ne_eqb k.index i n))
        ∙ ap links_of (found_changed_other (named i) (named k.index) (relinked (taken (links_to i (opposite d)))) without_first (λ _. refl) (apart_named k.index i (ne_eqb k.index i n)))
        ∙ first_gone)
        (cases_eq k.index i)

    taken_cut : (d : CompactDirection) → taken (named i) (cut_nodes d) ≡ unlinked k.index i (opposite d) (taken (named i) nodes)
    taken_cut d = ⊎_elim
        (λ (e : k.index ≡ i).
        ap (taken (named i)) (cond-true (eqb k.index i) without_first (unlinked k.index i (opposite d) without_first) (eq-eqb k.index i e))
        ∙ taken_same (named i) (relinked tail) nodes (λ _. refl)
        ∙ sym (changed_none (named k.index) (relinked (taken (links_to i (opposite d)))) (taken (named i) nodes)
        (subst (λ z. count (named z) (taken (named i) nodes) ≡ 0) (sym e) (let c = count_taken (named i) nodes in let o = fit.one_node i in omega arith))))
        (λ (n : k.index ≢ i).
        ap (taken (named i)) (cond-false (eqb k.index i) without_first (unlinked k.index i (opposite d) without_first) (ne_eqb k.index i n))
        ∙ taken_changed (named i) (named k.index) (relinked (taken (links_to i (opposite d)))) without_first (λ _. refl) (apart_named k.index i (ne_eqb k.index i n))
        (let c = one_first k.index in let o = fit.one_node k.index in omega arith)
        ∙ ap (unlinked k.index i (opposite d)) (taken_same (named i) (relinked tail) nodes (λ _. refl)))
        (cases_eq k.index i)

    pub unlinked_cut : (d : CompactDirection) → k.direction ≡ d
        → all_unlinked i (links_at i (cut_nodes d)) (taken (named i) (cut_nodes d)) ≡ all_unlinked i (links_at i nodes) (taken (named i) nodes)
    unlinked_cut d e =
        ap (λ z. all_unlinked i z (taken (named i) (cut_nodes d))) (links_cut d)
        ∙ ap (all_unlinked i ks) (taken_cut d ∙ ap (λ z. unlinked k.index i (opposite z) (taken (named i) nodes)) (sym e))
        ∙ ap (λ z. all_unlinked i z (taken (named i) nodes)) (sym first)

    pub taken_arcs : (d : CompactDirection) → k.direction ≡ d → all_taken i (links_at i (cut_nodes d)) (taken (arc_of i k.index d) arcs) ≡ all_taken i (links_at i nodes) arcs
    taken_arcs d e =
        ap (λ z. all_taken i z (taken (arc_of i k.index d) arcs)) (links_cut d)
        ∙ ap (λ z. all_taken i ks (taken (arc_of i k.index z) arcs)) (sym e)
        ∙ ap (λ z. all_taken i z arcs) (sym first)
