-- A new arc is laid, with its links.
use Rattle.std.proofs.Common.{◌≡◌, ℕ, suc, ◌+◌, ◌%◌, ◌<◌, ◌≤◌, Bool, true, false, cond, ◌||◌, eqb, ◌≢◌, ◌⊎◌, List, [], ◌∷◌, ◌++◌, map, length, get_or, Some, None, sym, refl, ap, ◌∙◌, subst, inl, inr, ⊎_elim, arith}
use Rattle.std.proofs.lemmas.List.{map_push, length_push, get_or-set_same, get_or-set_other}
use Rattle.std.proofs.lemmas.Bool.{cases_eq, cases_Bool, both_ways, eq-eqb, ne_eqb, cond-true, cond-false, false≢true}
use Rattle.linked_list.specs.Chains.{has, entries_of}
use Rattle.linked_list.proofs.Linking.{free_not_in}
use Rattle.keys.specs.declared.node_index.NodeIndex.{NodeIndex}
use Rattle.network.specs.declared.direction.CompactDirection.TheVariants.{Outgoing, Incoming}
use Rattle.map_model.specs.Lists.{one, count, found, changed}
use Rattle.map_model.specs.Lists as tests
use Rattle.map_model.specs.Model.{Node, named, relinked, linked, joined, both_linked, new_keys, with_tables}
use Rattle.map_model.proofs.Searching.{Keeps}
use Rattle.map_layout.specs.Layout.{State, ArcItem, numbered, of_unused, Idle, Names, Lists, Linked, Rep, target_of, arc_in, model}
use Rattle.map_layout.specs.Steps.{with_arcs, linked_at, new_place, place_taken}
use Rattle.map_layout.specs.Edits.{ends_number, ends_of, neighbor, both_linked_at, laid}
use Rattle.map_layout.proofs.Members.{length_changed}
use Rattle.map_layout.proofs.Items.{put_new}
use Rattle.map_layout.proofs.Pairs.{partner_even, even_out, odd_in, pair_source, pair_target}
use Rattle.map_layout.proofs.Holding.{idle_unowned}
use Rattle.map_layout.proofs.Stepping.{Base}
use Rattle.map_layout.proofs.Attaching.{Same}
use Rattle.map_layout.proofs.Reusing.{PlaceTaken, takes}
use Rattle.map_layout.proofs.Entering.{has_node, none_has, Joined, joins}
use Rattle.map_layout.proofs.Adding.{many_nodes}
use Rattle.map_layout.proofs.Pairing.{Added, rep_added, names_kept}

-- ---- searches
has_changed : {X : Type 0} (p q : X → Bool) (f : X → X) (l : List X) → Keeps p f → tests.has p (changed q f l) ≡ tests.has p l
has_changed p q f [] k = refl
has_changed p q f (x ∷ l) k =
    elim (q x) as (λ b. tests.has p (cond b (f x ∷ l) (x ∷ changed q f l)) ≡ (p x || tests.has p l))
    [ true ↦ ap (λ b. b || tests.has p l) (k x) | false ↦ ap (λ b. p x || b) (has_changed p q f l k) ]

has_more : {X : Type 0} (p : X → Bool) (l m : List X) → tests.has p l ≡ true → tests.has p (l ++ m) ≡ true
has_more p [] m h = absurd (false≢true h)
has_more p (x ∷ l) m h = elim (p x) as (λ b. (b || tests.has p l) ≡ true → (b || tests.has p (l ++ m)) ≡ true) [ true ↦ λ e. refl | false ↦ λ e. has_more p l m e ] h

module _ {N : Type 0} (n o : N) (i k : ℕ) where
  has_linked : (j : ℕ) (nodes : List (Node N)) → tests.has (named j) nodes ≡ true → tests.has (named j) (linked n i o k Outgoing nodes) ≡ true
  has_linked j nodes h =
      has_changed (named j) (named i) (relinked (λ l. l ++ record { key = o; index = k; direction = Outgoing } ∷ [])) (joined n i nodes) (λ _. refl)
      ∙ elim (tests.has (named i) nodes) as (λ b. tests.has (named j) (cond b nodes (nodes ++ record { key = n; index = i; links = [] } ∷ [])) ≡ true)
      [ true ↦ h | false ↦ has_more (named j) nodes (record { key = n; index = i; links = [] } ∷ []) h ]

  length_linked : (nodes : List (Node N)) → length (linked n i o k Outgoing nodes) ≡ length nodes + cond (tests.has (named i) nodes) 0 1
  length_linked nodes =
      length_changed (named i) (relinked (λ l. l ++ record { key = o; index = k; direction = Outgoing } ∷ [])) (joined n i nodes)
      ∙ elim (tests.has (named i) nodes) as (λ b. length (cond b nodes (nodes ++ record { key = n; index = i; links = [] } ∷ [])) ≡ length nodes + cond b 0 1)
      [ true ↦ omega arith | false ↦ length_push nodes (record { key = n; index = i; links = [] }) ]

-- ---- both links
pub record Both {N E : Type 0} (a b : N) (i j p : ℕ) (st st' : State N E) : Type 0 where
  pub same : Same st st'
  pub shown : (model st').nodes ≡ both_linked a i b j (model st).nodes
  pub old : (k q : ℕ) → Linked st k q → Linked st' k q
  pub out : Linked st' i p
  pub names_out : Names st'.neighbors p j
  pub into : i ≢ j → Linked st' j (p + 1)
  pub names_in : i ≢ j → Names st'.neighbors (p + 1) i
  pub lone : i ≡ j → Idle st'.positions (p + 1)
  pub all : (k q : ℕ) → Linked st' k q → Linked st k q ⊎ (((k ≡ i) × (q ≡ p)) ⊎ ((k ≡ j) × (q ≡ p + 1) × (i ≢ j)))
  pub kept : (q : ℕ) → q ≢ p → q ≢ p + 1 → get_or st'.neighbors q None ≡ get_or st.neighbors q None
  pub idle : (q : ℕ) → q ≢ p → q ≢ p + 1 → Idle st.positions q → Idle st'.positions q

module _ {N E : Type 0} (a b : N) (i j : NodeIndex) (p : ℕ) (st : State N E) (base : Base st)
    (room : length st.nodes + new_keys i.value j.value (model st).nodes ≤ st.node_places)
    (even : p % 2 ≡ 0) (free : Idle st.positions p) (next : Idle st.positions (p + 1)) (fits : p + 1 < length st.positions) where
  room_first : found (numbered i.value) st.nodes ≡ None → length st.nodes < st.node_places
  room_first e =
      let h = has_node st i ∙ none_has (numbered i.value) st.nodes e in
      let k : ◌≡◌ {A = ℕ} (cond (tests.has (named i.value) (model st).nodes) 0 1) 1 = ap (λ v. cond v 0 1) h in omega arith

  first : Joined st a i base p (neighbor b j) (linked_at a i p (neighbor b j) st)
  first = joins st a i base p (neighbor b j) room_first free (omega arith)

  first_shown : (model (linked_at a i p (neighbor b j) st)).nodes ≡ linked a i.value b j.value Outgoing (model st).nodes
  first_shown = first.shown ∙ ap (λ d. linked a i.value b j.value d (model st).nodes) (even_out p even)

  first_names : Names (linked_at a i p (neighbor b j) st).neighbors p j.value
  first_names = record {
    neighbor = neighbor b j;
    there = ap (λ z. get_or z p None) first.neighbors ∙ get_or-set_same st.neighbors p (Some (neighbor b j)) None (let e = base.level in omega arith);
    named = refl;
  }

  next_idle : Idle (linked_at a i p (neighbor b j) st).positions (p + 1)
  next_idle = first.idle (p + 1) (λ e. omega arith) next

  loop_both : i.value ≡ j.value → Both a b i.value j.value p st (linked_at a i p (neighbor b j) st)
  loop_both e = record {
    same = first.same;
    shown = first_shown ∙ sym (cond-true (eqb i.value j.value) (linked a i.value b j.value Outgoing (model st).nodes) (linked b j.value a i.value Incoming (linked a i.value b j.value Outgoing (model st).nodes)) (eq-eqb i.value j.value e));
    old = first.old;
    out = first.new;
    names_out = first_names;
    into = λ n. absurd (n e);
    names_in = λ n. absurd (n e);
    lone = λ _. next_idle;
    all = λ k q o. ⊎_elim (λ (s : Linked st k q). inl s) (λ (s : (k ≡ i.value) × (q ≡ p)). inr (inl s)) (first.all k q o);
    kept = λ q n m. ap (λ z. get_or z q None) first.neighbors ∙ get_or-set_other st.neighbors p q (Some (neighbor b j)) None n;
    idle = λ q n m. first.idle q n;
  }

  module _ (ne : i.value ≢ j.value) where
    room_second : found (numbered j.value) (linked_at a i p (neighbor b j) st).nodes ≡ None → length (linked_at a i p (neighbor b j) st).nodes < (linked_at a i p (neighbor b j) st).node_places
    room_second e =
        let st2 = linked_at a i p (neighbor b j) st in
        let h : tests.has (named j.value) (linked a i.value b j.value Outgoing (model st).nodes) ≡ false = sym (ap (tests.has (named j.value)) first_shown) ∙ has_node st2 j ∙ none_has (numbered j.value) st2.nodes e in
        let g : tests.has (named j.value) (model st).nodes ≡ false = ⊎_elim
        (λ (t : tests.has (named j.value) (model st).nodes ≡ true). absurd (both_ways (tests.has (named j.value) (linked a i.value b j.value Outgoing (model st).nodes)) h (has_linked a b i.value j.value j.value (model st).nodes t)))
        (λ (t : tests.has (named j.value) (model st).nodes ≡ false). t) (cases_Bool (tests.has (named j.value) (model st).nodes)) in
        let c1 : ◌≡◌ {A = ℕ} (cond (eqb i.value j.value || tests.has (named j.value) (model st).nodes) 0 1) 1 = ap (λ v. cond (v || tests.has (named j.value) (model st).nodes) 0 1) (ne_eqb i.value j.value ne) ∙ ap (λ v. cond v 0 1) g in
        let l1 = length_linked a b i.value j.value (model st).nodes in
        let l2 = ap length first_shown in
        let l3 = many_nodes st in
        let l4 = many_nodes st2 in
        let l5 = first.same.node_places in omega arith

    second : Joined (linked_at a i p (neighbor b j) st) b j first.same.base (p + 1) (neighbor a i) (linked_at b j (p + 1) (neighbor a i) (linked_at a i p (neighbor b j) st))
    second = joins (linked_at a i p (neighbor b j) st) b j first.same.base (p + 1) (neighbor a i) room_second next_idle (let e = first.same.size in omega arith)

    two_both : Both a b i.value j.value p st (linked_at b j (p + 1) (neighbor a i) (linked_at a i p (neighbor b j) st))
    two_both =
        let st2 = linked_at a i p (neighbor b j) st in
        let odd : (p + 1) % 2 ≢ 0 = λ f. omega arith in
        record {
          same = record {
            base = second.same.base;
            arcs = second.same.arcs ∙ first.same.arcs;
            unused = second.same.unused ∙ first.same.unused;
            fresh = second.same.fresh ∙ first.same.fresh;
            node_places = second.same.node_places ∙ first.same.node_places;
            arc_places = second.same.arc_places ∙ first.same.arc_places;
            size = second.same.size ∙ first.same.size;
          };
          shown =
              second.shown ∙ ap (λ d. linked b j.value a i.value d (model st2).nodes) (odd_in (p + 1) odd)
              ∙ ap (linked b j.value a i.value Incoming) first_shown
              ∙ sym (cond-false (eqb i.value j.value) (linked a i.value b j.value Outgoing (model st).nodes) (linked b j.value a i.value Incoming (linked a i.value b j.value Outgoing (model st).nodes)) (ne_eqb i.value j.value ne));
          old = λ k q o. second.old k q (first.old k q o);
          out = second.old i.value p first.new;
          names_out = names_kept st2.neighbors (linked_at b j (p + 1) (neighbor a i) st2).neighbors p j.value
              (ap (λ z. get_or z p None) second.neighbors ∙ get_or-set_other st2.neighbors (p + 1) p (Some (neighbor a i)) None (λ e. omega arith)) first_names;
          into = λ _. second.new;
          names_in = λ _. record {
            neighbor = neighbor a i;
            there = ap (λ z. get_or z (p + 1) None) second.neighbors ∙ get_or-set_same st2.neighbors (p + 1) (Some (neighbor a i)) None (let e = first.same.base.level in let f = first.same.size in omega arith);
            named = refl;
          };
          lone = λ e. absurd (ne e);
          all = λ k q o. ⊎_elim
              (λ (s : Linked st2 k q). ⊎_elim (λ (t : Linked st k q). inl t) (λ (t : (k ≡ i.value) × (q ≡ p)). inr (inl t)) (first.all k q s))
              (λ (s : (k ≡ j.value) × (q ≡ p + 1)). inr (inr (s.0, s.1, ne)))
              (second.all k q o);
          kept = λ q n m. ap (λ z. get_or z q None) second.neighbors ∙ get_or-set_other st2.neighbors (p + 1) q (Some (neighbor a i)) None m
              ∙ ap (λ z. get_or z q None) first.neighbors ∙ get_or-set_other st.neighbors p q (Some (neighbor b j)) None n;
          idle = λ q n m k. second.idle q m (first.idle q n k);
        }

  pub both : Both a b i.value j.value p st (both_linked_at a i b j p st)
  both =
      let st2 = linked_at a i p (neighbor b j) st in
      let q : both_linked_at a i b j p st ≡ cond (eqb i.value j.value) st2 (linked_at b j (p + 1) (neighbor a i) st2) = ap (λ z. cond (eqb i.value j.value) st2 (linked_at b j z (neighbor a i) st2)) (partner_even p even) in
      subst (Both a b i.value j.value p st) (sym q)
      (⊎_elim
      (λ (e : i.value ≡ j.value). subst (Both a b i.value j.value p st) (sym (cond-true (eqb i.value j.value) st2 (linked_at b j (p + 1) (neighbor a i) st2) (eq-eqb i.value j.value e))) (loop_both e))
      (λ (n : i.value ≢ j.value). subst (Both a b i.value j.value p st) (sym (cond-false (eqb i.value j.value) st2 (linked_at b j (p + 1) (neighbor a i) st2) (ne_eqb i.value j.value n))) (two_both n))
      (cases_eq i.value j.value))

-- ---- the arc itself
pub base_arcs : {N E : Type 0} (st : State N E) (arcs : List (ArcItem N E)) → Base st → Base (with_arcs st arcs)
base_arcs st arcs b = record { one_item = b.one_item; held = b.held; oldest = b.oldest; level = b.level }

module _ {N E : Type 0} (a b : N) (i j : NodeIndex) (w : E) (st : State N E) (rep : Rep st)
    (absent : found (numbered (ends_number i j)) st.arcs ≡ None)
    (room : length st.nodes + new_keys i.value j.value (model st).nodes ≤ st.node_places)
    (free : length st.arcs < st.arc_places) where
  abbrev new_arc : ArcItem N E
  new_arc = record { number = ends_number i j; key = ends_of i j; value = record { source = a; target = b; weight = w; place = new_place st } }

  taken : PlaceTaken st (new_place st) (place_taken st)
  taken = takes st rep free

  links : Both a b i.value j.value (new_place st) (place_taken st) (both_linked_at a i b j (new_place st) (place_taken st))
  links =
      let r = taken.refiled in
      both a b i j (new_place st) (place_taken st) r.base
      (let e = ap length r.nodes in let f = r.node_places in let g = ap (new_keys i.value j.value) r.shown in omega arith)
      taken.even taken.free taken.next taken.fits

  linked_state : State N E
  linked_state = both_linked_at a i b j (new_place st) (place_taken st)

  arcs_are : (laid a i b j w st).arcs ≡ st.arcs ++ new_arc ∷ []
  arcs_are =
      let e : (both_linked_at a i b j (new_place st) (place_taken st)).arcs ≡ st.arcs = links.same.arcs ∙ taken.refiled.arcs in
      let f : (both_linked_at a i b j (new_place st) (place_taken st)).arc_places ≡ st.arc_places = links.same.arc_places ∙ taken.refiled.arc_places in
      put_new (both_linked_at a i b j (new_place st) (place_taken st)).arc_places (ends_number i j) (ends_of i j) (record { source = a; target = b; weight = w; place = new_place st })
      (both_linked_at a i b j (new_place st) (place_taken st)).arcs (ap (found (numbered (ends_number i j))) e ∙ absent) (let g = ap length e in omega arith)
      ∙ ap (λ z. z ++ new_arc ∷ []) e

  not_left : (q : ℕ) → has taken.left q ≡ true → q ≢ new_place st
  not_left q h e =
      let r = taken.refiled in
      let st1 = place_taken st in
      both_ways (has taken.left (new_place st))
      (subst (λ z. has z (new_place st) ≡ false) r.unused (free_not_in st1.positions None (entries_of st1.positions st1.unused) (new_place st) (r.base.held.each 0 st1.unused (of_unused refl refl)).linked taken.free))
      (subst (λ z. has taken.left z ≡ true) e h)

  added : Added st (laid a i b j w st) i.value j.value (new_place st) new_arc taken.left
  added =
      let r = taken.refiled in
      let ev = taken.even in
      let fr = links.same.fresh in
      let js = j.small in
      record {
        base = base_arcs (both_linked_at a i b j (new_place st) (place_taken st)) (laid a i b j w st).arcs links.same.base;
        arcs = arcs_are;
        unused = links.same.unused ∙ r.unused;
        even = taken.even;
        place = refl;
        source = pair_source i.value j.value js;
        target = pair_target i.value j.value js;
        old = λ k q o. links.old k q (r.old k q o);
        out = links.out;
        names_out = links.names_out;
        into = links.into;
        names_in = links.names_in;
        lone = links.lone;
        all = λ k q o. ⊎_elim (λ (s : Linked (place_taken st) k q). inl (r.all k q s)) (λ (s : ((k ≡ i.value) × (q ≡ new_place st)) ⊎ ((k ≡ j.value) × (q ≡ new_place st + 1) × (i.value ≢ j.value))). inr s) (links.all k q o);
        kept = λ q n m. links.kept q n m ∙ ap (λ z. get_or z q None) r.neighbors;
        unowned = λ k o. idle_unowned (Lists (place_taken st)) (place_taken st).positions r.base.held (suc k) (new_place st) taken.free (r.old k (new_place st) o);
        next_unowned = λ k o. idle_unowned (Lists (place_taken st)) (place_taken st).positions r.base.held (suc k) (new_place st + 1) taken.next (r.old k (new_place st + 1) o);
        idle = λ q n m k. links.idle q n m (taken.idle q k);
        spare = λ q h.
            let s = taken.spare q h in
            let se = s.even in
            let su = s.used in
            let n = not_left q h in
            record { even = s.even; used = omega arith; next = links.idle (q + 1) (λ e. omega arith) (λ e. n (omega arith)) s.next };
        fresh = λ q h. let u = taken.used in let pl = taken.places in links.idle q (λ e. omega arith) (λ e. omega arith) (taken.fresh q (omega arith));
        places = (let pl = taken.places in let l = ap length arcs_are in let m = length_push st.arcs new_arc in omega arith);
        enough = (let en = taken.enough in let e = links.same.arc_places in let f = r.arc_places in omega arith);
        roomy = (let ro = rep.roomy in let s1 = links.same.size in let s2 = r.size in let e = links.same.arc_places in let f = r.arc_places in omega arith);
      }

  pub laid_rep : Rep (laid a i b j w st)
  laid_rep = rep_added st (laid a i b j w st) i.value j.value (new_place st) new_arc taken.left rep added

  pub laid_shown : model (laid a i b j w st) ≡ with_tables (model st) (both_linked a i.value b j.value (model st).nodes) ((model st).arcs ++ record { source = a; source_index = i.value; target = b; target_index = j.value; weight = w } ∷ [])
  laid_shown =
      let r = taken.refiled in
      let js = j.small in
      let n : (model (laid a i b j w st)).nodes ≡ both_linked a i.value b j.value (model st).nodes = links.shown ∙ ap (both_linked a i.value b j.value) r.shown in
      let c : (model (laid a i b j w st)).arcs ≡ (model st).arcs ++ record { source = a; source_index = i.value; target = b; target_index = j.value; weight = w } ∷ [] =
      ap (map arc_in) arcs_are ∙ map_push arc_in st.arcs new_arc
      ∙ ap (λ z. (model st).arcs ++ record { source = a; source_index = z; target = b; target_index = target_of new_arc; weight = w } ∷ []) (pair_source i.value j.value js)
      ∙ ap (λ z. (model st).arcs ++ record { source = a; source_index = i.value; target = b; target_index = z; weight = w } ∷ []) (pair_target i.value j.value js) in
      λ k. record { nodes = n k; arcs = c k; node_places = (links.same.node_places ∙ r.node_places) k; arc_places = (links.same.arc_places ∙ r.arc_places) k }
