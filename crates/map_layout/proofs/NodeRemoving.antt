-- A node is removed: its arcs go in the sequence of its links, and then the node itself.
use Rattle.std.proofs.Common.{◌≡◌, ℕ, suc, ◌+◌, ◌-◌, ◌%◌, ◌≤◌, Bool, true, false, cond, eqb, ◌≢◌, List, [], ◌∷◌, map, reverse, get_or, Some, None, Option, sym, refl, ap, ◌∙◌, subst, inl, ⊎_elim, arith}
use Rattle.std.specs.Option.{option_map}
use Rattle.std.proofs.lemmas.Bool.{cases_eq, eq-eqb, ne_eqb, eqb-true, and_from, cond-true, cond-false, false≢true}
use Rattle.linked_list.specs.Chains.{has, last, last_from, entries_of}
use Rattle.keys.specs.declared.node_index.NodeIndex.{NodeIndex}
use Rattle.keyed_table.specs.Listing.{without}
use Rattle.network.specs.declared.direction.CompactDirection.{CompactDirection}
use Rattle.network.specs.declared.direction.CompactDirection.TheVariants.{Outgoing, Incoming}
use Rattle.map_model.specs.Lists.{one, count, found, taken, changed}
use Rattle.map_model.specs.Lists as tests
use Rattle.map_model.specs.Model.{same_direction, Link, Model, named, between, links_of, links_to, links_at, relinked, unlinked, all_unlinked, arc_of, all_taken, with_tables, node_removed_at}
use Rattle.map_model.specs.Sound.{Fit}
use Rattle.map_model.proofs.Searching.{count_taken, count_taken_other}
use Rattle.map_layout.specs.declared.records.NodeRecord.{NodeRecord}
use Rattle.map_layout.specs.declared.records.IndexedKey.{IndexedKey}
use Rattle.map_layout.specs.Layout.{State, NodeItem, numbered, of_unused, of_node, Names, Lists, Linked, Rep, partner, direction_at, link_to, links_in, places_of, arc_in, node_of, model}
use Rattle.map_layout.specs.Steps.{with_nodes, node_at, swapped_out_of, dropped_out_of, place_given, arc_gone}
use Rattle.map_layout.specs.Edits.{Good, ends_number, oldest_of, oldest_at, neighbor_at, number_at, cut, Cut, node_gone}
use Rattle.map_layout.proofs.Members.{among_found, found_among, among_taken, taken_among}
use Rattle.map_layout.proofs.Mapping.{map_taken, found_map}
use Rattle.map_layout.proofs.Items.{value_found, value_of, value_some, without_taken}
use Rattle.map_layout.proofs.Pairs.{partner_even, partner_odd, even_out, odd_in}
use Rattle.map_layout.proofs.Places.{ended}
use Rattle.map_layout.proofs.Holding.{held_less}
use Rattle.map_layout.proofs.Stepping.{Base, linked_of}
use Rattle.map_layout.proofs.Detaching.{Lost, links_there}
use Rattle.map_layout.proofs.Reusing.{base_of, PlaceGiven, gives}
use Rattle.map_layout.proofs.Adding.{Regrouped, rep_regrouped}
use Rattle.map_layout.proofs.Laying.{base_arcs}
use Rattle.map_layout.proofs.Pairing.{Gone, rep_gone, names_kept}
use Rattle.map_layout.proofs.Cutting.{filled, swap_step, swap_step_shown, drop_step, drop_step_shown, oldest_link}
use Rattle.map_layout.proofs.Unlaying.{LostBoth, turned, lost_one, lost_two, ArcAt, arc_out, arc_in_of, gone_by}
use Rattle.map_layout.proofs.EdgeRemoving.{arc_count, arcs_without}
use Rattle.map_layout.proofs.Dropping.{tail, due_once, without_first, others_same, cut_nodes, fit_cut, unlinked_cut, taken_arcs}

same_way : (d : CompactDirection) → same_direction d d ≡ true
same_way Outgoing = refl
same_way Incoming = refl

-- the oldest link is a link
pub oldest_linked : {N E : Type 0} (st : State N E) (i p : ℕ) → Rep st → oldest_at i st ≡ Some p → Linked st i p
oldest_linked st i p rep e = go (node_at i st) refl
  where
    go : (r : Option (NodeRecord _)) → node_at i st ≡ r → Linked st i p
    go None f = absurd (let g : oldest_at i st ≡ None = ap oldest_of f in let z : ◌≡◌ {A = ℕ} 0 1 = cc in omega arith)
    go (Some r) f =
        let s = value_some i st.nodes r f in
        let x = s.item in
        let a = among_found (numbered i) st.nodes x s.there in
        let h : x.value.oldest ≡ Some p = ap (λ (v : NodeRecord _). v.oldest) s.value ∙ sym (ap oldest_of f) ∙ e in
        linked_of st i x (base_of rep) s.there p (ended (places_of st.positions x) p (sym (rep.oldest x a) ∙ h)).here

module _ {N E : Type 0} (st : State N E) (good : Good st) (i : NodeIndex) (p : ℕ) (o : IndexedKey N)
    (oldest : oldest_at i.value st ≡ Some p) (there : neighbor_at p st ≡ Some o) where
  linked : Linked st i.value p
  linked = oldest_linked st i.value p good.rep oldest

  names : Names st.neighbors p o.index.value
  names = record { neighbor = o; there = there; named = refl }

  first : (ks : List (Link N)) × (links_at i.value (model st).nodes ≡ link_to p o ∷ ks)
  first = oldest_link st (base_of good.rep) i p o linked oldest there

  first_counts : 1 ≤ count (links_to o.index.value (direction_at p)) (links_at i.value (model st).nodes)
  first_counts =
      let e = ap (count (links_to o.index.value (direction_at p))) first.1 in
      let t : one (links_to o.index.value (direction_at p) (link_to p o)) ≡ 1 = ap one (and_from (eqb o.index.value o.index.value) (same_direction (direction_at p) (direction_at p)) (eq-eqb o.index.value o.index.value refl) (same_way (direction_at p))) in
      omega arith

  -- ---- the steps, once the arc k is gone
  module _ (k : ℕ) where
    abbrev rest : State N E
    rest = arc_gone k st

    rest_base : Base rest
    rest_base = base_arcs st (without k st.arcs) (base_of good.rep)

    own : Lost rest p (dropped_out_of i p rest)
    own = drop_step rest rest_base i p linked oldest

    own_shown : (model (dropped_out_of i p rest)).nodes ≡ changed (named i.value) (relinked tail) (model st).nodes
    own_shown = drop_step_shown rest rest_base i p o tail linked oldest there (λ _ _. refl)

    module _ (ne : o.index.value ≢ i.value) (q : ℕ) (d : CompactDirection) (far : Linked st o.index.value q) (q-other : q ≢ p) (far_names : Names st.neighbors q i.value) (way : direction_at q ≡ d) where
      far_now : Linked (dropped_out_of i p rest) o.index.value q
      far_now = own.old o.index.value q far q-other

      other : Lost (dropped_out_of i p rest) q (swapped_out_of o.index q (dropped_out_of i p rest))
      other = swap_step (dropped_out_of i p rest) own.same.base o.index q far_now

      other_shown : (model (swapped_out_of o.index q (dropped_out_of i p rest))).nodes ≡ unlinked o.index.value i.value d (changed (named i.value) (relinked tail) (model st).nodes)
      other_shown =
          let a = ap (λ z. count (links_to i.value d) (links_at o.index.value z)) own_shown in
          let b = ap (count (links_to i.value d)) (others_same i.value (link_to p o) first.0 (model st).nodes first.1 o.index.value (λ e. ne (sym e))) in
          let c = good.sound.links o.index.value i.value d in
          let f = due_once o.index.value i.value d (model st).nodes (model st).arcs good.sound in
          swap_step_shown (dropped_out_of i p rest) own.same.base o.index q i.value d far_now
          (λ m r l. let g = filled st good.rep m r (own.all m r l) in (g.0, ap (λ z. get_or z r None) own.neighbors ∙ g.1))
          (names_kept st.neighbors (dropped_out_of i p rest).neighbors q i.value (ap (λ z. get_or z q None) own.neighbors) far_names)
          way (omega arith)
          ∙ ap (unlinked o.index.value i.value d) own_shown

  -- what is left to show once the links are gone
  module _ (a b : NodeIndex) (e : ℕ) (d : CompactDirection) (C : State N E) (stands : ArcAt st a.value b.value e) (counts : 1 ≤ count (numbered (ends_number a b)) st.arcs)
      (way : direction_at p ≡ d) (loopless : d ≡ Incoming → o.index.value ≢ i.value)
      (lost : LostBoth (arc_gone (ends_number a b) st) C e (e + 1)) (nodes-are : (model C).nodes ≡ cut_nodes i.value (link_to p o) first.0 (model st).nodes first.1 d)
      (arcs_are : taken (between a.value b.value) (model st).arcs ≡ taken (arc_of i.value o.index.value d) (model st).arcs) where
    gone : Gone st (place_given e C) e
    gone = gone_by st good.rep a b e C stands good.sound counts lost

    given : PlaceGiven C e (place_given e C)
    given =
        let used = gone.within in
        let en = good.rep.enough in
        let ro = good.rep.roomy in
        let sz = lost.same.size in
        gives C e lost.same.base lost.free (omega arith)

    after_nodes : (model (place_given e C)).nodes ≡ cut_nodes i.value (link_to p o) first.0 (model st).nodes first.1 d
    after_nodes = given.refiled.shown ∙ nodes-are

    after_arcs : (model (place_given e C)).arcs ≡ taken (arc_of i.value o.index.value d) (model st).arcs
    after_arcs = ap (map arc_in) (given.refiled.arcs ∙ lost.same.arcs) ∙ arcs_without st a b ∙ arcs_are

    cut_to : Cut i.value st (place_given e C)
    cut_to =
        let ns = cut_nodes i.value (link_to p o) first.0 (model st).nodes first.1 d in
        record {
          good = record {
            rep = rep_gone st (place_given e C) e good.rep gone;
            sound =
                subst (λ z. Fit z (model (place_given e C)).arcs) (sym after_nodes)
                (subst (λ z. Fit ns z) (sym after_arcs) (fit_cut i.value (link_to p o) first.0 (model st).nodes first.1 (model st).arcs good.sound d way loopless));
          };
          nodes = ap (λ z. all_unlinked i.value (links_at i.value z) (taken (named i.value) z)) after_nodes ∙ unlinked_cut i.value (link_to p o) first.0 (model st).nodes first.1 (model st).arcs good.sound d way;
          arcs =
              ap (λ z. all_taken i.value (links_at i.value z) (model (place_given e C)).arcs) after_nodes
              ∙ ap (all_taken i.value (links_at i.value ns)) after_arcs
              ∙ taken_arcs i.value (link_to p o) first.0 (model st).nodes first.1 (model st).arcs good.sound d way;
          node_places = given.refiled.node_places ∙ lost.same.node_places;
          arc_places = given.refiled.arc_places ∙ lost.same.arc_places;
        }

  -- ---- an outgoing link
  module _ (even : p % 2 ≡ 0) where
    out_arc : ArcAt st i.value o.index.value p
    out_arc = arc_out st good.rep i.value p linked o.index.value names even

    out_counts : 1 ≤ count (numbered (ends_number i o.index)) st.arcs
    out_counts =
        let a = first_counts in
        let b = ap (λ z. count (links_to o.index.value z) (links_at i.value (model st).nodes)) (even_out p even) in
        let c = good.sound.links i.value o.index.value Outgoing in
        let d = arc_count st i o.index in omega arith

    abbrev out_state : State N E
    out_state = cond (eqb o.index.value i.value) (dropped_out_of i p (rest (ends_number i o.index))) (swapped_out_of o.index (p + 1) (dropped_out_of i p (rest (ends_number i o.index))))

    out_cut : Cut i.value st (place_given p out_state)
    out_cut =
        let k = ends_number i o.index in
        let ns = without_first i.value (link_to p o) first.0 (model st).nodes first.1 in
        let odd : (p + 1) % 2 ≢ 0 = λ f. omega arith in
        ⊎_elim
        (λ (e : o.index.value ≡ i.value).
        let t = eq-eqb o.index.value i.value e in
        cut_to i o.index p Outgoing out_state out_arc out_counts (even_out p even) (λ f. absurd (let z : ◌≡◌ {A = ℕ} 0 1 = cc in omega arith))
        (subst (λ z. LostBoth (rest k) z p (p + 1)) (sym (cond-true (eqb o.index.value i.value) (dropped_out_of i p (rest k)) (swapped_out_of o.index (p + 1) (dropped_out_of i p (rest k))) t))
        (lost_one (rest k) (dropped_out_of i p (rest k)) p (p + 1) (λ f. omega arith) (out_arc.loop (sym e)) (own k)))
        (ap (λ z. (model z).nodes) (cond-true (eqb o.index.value i.value) (dropped_out_of i p (rest k)) (swapped_out_of o.index (p + 1) (dropped_out_of i p (rest k))) t)
        ∙ own_shown k ∙ sym (cond-true (eqb o.index.value i.value) ns (unlinked o.index.value i.value Incoming ns) t))
        refl)
        (λ (n : o.index.value ≢ i.value).
        let t = ne_eqb o.index.value i.value n in
        let m : i.value ≢ o.index.value = λ f. n (sym f) in
        cut_to i o.index p Outgoing out_state out_arc out_counts (even_out p even) (λ f. absurd (let z : ◌≡◌ {A = ℕ} 0 1 = cc in omega arith))
        (subst (λ z. LostBoth (rest k) z p (p + 1)) (sym (cond-false (eqb o.index.value i.value) (dropped_out_of i p (rest k)) (swapped_out_of o.index (p + 1) (dropped_out_of i p (rest k))) t))
        (lost_two (rest k) (dropped_out_of i p (rest k)) (swapped_out_of o.index (p + 1) (dropped_out_of i p (rest k))) p (p + 1) (λ f. omega arith) (own k)
        (other k n (p + 1) Incoming (out_arc.far m) (λ f. omega arith) (out_arc.far_names m) (odd_in (p + 1) odd))))
        (ap (λ z. (model z).nodes) (cond-false (eqb o.index.value i.value) (dropped_out_of i p (rest k)) (swapped_out_of o.index (p + 1) (dropped_out_of i p (rest k))) t)
        ∙ other_shown k n (p + 1) Incoming (out_arc.far m) (λ f. omega arith) (out_arc.far_names m) (odd_in (p + 1) odd)
        ∙ sym (cond-false (eqb o.index.value i.value) ns (unlinked o.index.value i.value Incoming ns) t))
        refl)
        (cases_eq o.index.value i.value)

    out_is : cut i o.index p st ≡ place_given p out_state
    out_is =
        let k : number_at p i o.index ≡ ends_number i o.index = cond-true (eqb (p % 2) 0) (ends_number i o.index) (ends_number o.index i) (eq-eqb (p % 2) 0 even) in
        ap (λ z. place_given (p - p % 2) (cond (eqb o.index.value i.value) (dropped_out_of i p (arc_gone z st)) (swapped_out_of o.index (partner p) (dropped_out_of i p (arc_gone z st))))) k
        ∙ ap (λ z. place_given (p - p % 2) (cond (eqb o.index.value i.value) (dropped_out_of i p (rest (ends_number i o.index))) (swapped_out_of o.index z (dropped_out_of i p (rest (ends_number i o.index)))))) (partner_even p even)
        ∙ ap (λ z. place_given z out_state) (let u : p - p % 2 ≡ p = omega arith in u)

  -- ---- an incoming link
  module _ (odd : p % 2 ≢ 0) where
    in_ne : o.index.value ≢ i.value
    in_ne = (arc_in_of st good.rep i.value p linked o.index.value names odd).0

    in_arc : ArcAt st o.index.value i.value (p - 1)
    in_arc = (arc_in_of st good.rep i.value p linked o.index.value names odd).1

    in_counts : 1 ≤ count (numbered (ends_number o.index i)) st.arcs
    in_counts =
        let a = first_counts in
        let b = ap (λ z. count (links_to o.index.value z) (links_at i.value (model st).nodes)) (odd_in p odd) in
        let c = good.sound.links i.value o.index.value Incoming in
        let f = cond-false (eqb o.index.value i.value) 0 (count (between o.index.value i.value) (model st).arcs) (ne_eqb o.index.value i.value in_ne) in
        let d = arc_count st o.index i in omega arith

    abbrev in_state : State N E
    in_state = swapped_out_of o.index (p - 1) (dropped_out_of i p (rest (ends_number o.index i)))

    in_cut : Cut i.value st (place_given (p - 1) in_state)
    in_cut =
        let k = ends_number o.index i in
        let ns = without_first i.value (link_to p o) first.0 (model st).nodes first.1 in
        let low : p - 1 ≢ p = λ f. omega arith in
        let up : p - 1 + 1 ≡ p = omega arith in
        let way = even_out (p - 1) in_arc.even in
        cut_to o.index i (p - 1) Incoming in_state in_arc in_counts (odd_in p odd) (λ _. in_ne)
        (subst (λ z. LostBoth (rest k) in_state (p - 1) z) (sym up)
        (turned (rest k) in_state p (p - 1) (lost_two (rest k) (dropped_out_of i p (rest k)) in_state p (p - 1) (λ f. low (sym f)) (own k) (other k in_ne (p - 1) Outgoing in_arc.owned low in_arc.names way))))
        (other_shown k in_ne (p - 1) Outgoing in_arc.owned low in_arc.names way
        ∙ sym (cond-false (eqb o.index.value i.value) ns (unlinked o.index.value i.value Outgoing ns) (ne_eqb o.index.value i.value in_ne)))
        refl

    in_is : cut i o.index p st ≡ place_given (p - 1) in_state
    in_is =
        let k : number_at p i o.index ≡ ends_number o.index i = cond-false (eqb (p % 2) 0) (ends_number i o.index) (ends_number o.index i) (ne_eqb (p % 2) 0 odd) in
        let B : ℕ → State N E = λ z. dropped_out_of i p (arc_gone z st) in
        ap (λ z. place_given (p - p % 2) (cond (eqb o.index.value i.value) (B z) (swapped_out_of o.index (partner p) (B z)))) k
        ∙ ap (place_given (p - p % 2)) (cond-false (eqb o.index.value i.value) (B (ends_number o.index i)) (swapped_out_of o.index (partner p) (B (ends_number o.index i))) (ne_eqb o.index.value i.value in_ne))
        ∙ ap (λ z. place_given (p - p % 2) (swapped_out_of o.index z (B (ends_number o.index i)))) (partner_odd p odd)
        ∙ ap (λ z. place_given z in_state) (let u : p - p % 2 ≡ p - 1 = omega arith in u)

  pub cuts : Cut i.value st (cut i o.index p st)
  cuts = ⊎_elim
      (λ (e : p % 2 ≡ 0). subst (Cut i.value st) (sym (out_is e)) (out_cut e))
      (λ (n : p % 2 ≢ 0). subst (Cut i.value st) (sym (in_is n)) (in_cut n))
      (cases_eq (p % 2) 0)

  -- the arc is there
  pub arc_counts : 1 ≤ count (numbered (number_at p i o.index)) st.arcs
  arc_counts = ⊎_elim
      (λ (e : p % 2 ≡ 0). subst (λ z. 1 ≤ count (numbered z) st.arcs) (sym (cond-true (eqb (p % 2) 0) (ends_number i o.index) (ends_number o.index i) (eq-eqb (p % 2) 0 e))) (out_counts e))
      (λ (n : p % 2 ≢ 0). subst (λ z. 1 ≤ count (numbered z) st.arcs) (sym (cond-false (eqb (p % 2) 0) (ends_number i o.index) (ends_number o.index i) (ne_eqb (p % 2) 0 n))) (in_counts n))
      (cases_eq (p % 2) 0)

-- ---- the node itself
last_none : (q : ℕ) (l : List ℕ) → last_from (Some q) l ≡ None → ⊥
last_none q [] e = let z : ◌≡◌ {A = ℕ} 0 1 = cc in omega arith
last_none q (x ∷ l) e = last_none x l e

none_last : (l : List ℕ) → last l ≡ None → l ≡ []
none_last [] e = refl
none_last (x ∷ l) e = absurd (last_none x l e)

module _ {N E : Type 0} (st : State N E) (good : Good st) (i : NodeIndex) (ended_at : oldest_at i.value st ≡ None) where
  no_places : (x : NodeItem N) → found (numbered i.value) st.nodes ≡ Some x → places_of st.positions x ≡ []
  no_places x e =
      let r : node_at i.value st ≡ Some x.value = value_found i.value st.nodes ∙ ap (option_map value_of) e in
      none_last (places_of st.positions x) (sym (good.rep.oldest x (among_found (numbered i.value) st.nodes x e)) ∙ sym (ap oldest_of r) ∙ ended_at)

  unlinked_node : (q : ℕ) → Linked st i.value q → ⊥
  unlinked_node q o = go o.start o.begins o.has_it
    where
      go : (s : Option ℕ) → Lists st (suc i.value) s → has (entries_of st.positions s) q ≡ true → ⊥
      go s (of_unused e f) h = omega arith
      go s (of_node x a e f) h =
          let w = found_among (numbered i.value) st.nodes x (good.rep.one_item i.value) a (eq-eqb x.number i.value (omega arith)) in
          let g : has (places_of st.positions x) q ≡ true = subst (λ z. has (entries_of st.positions z) q ≡ true) f h in
          false≢true (sym (ap (λ z. has z q) (no_places x w)) ∙ g)

  no_links : links_at i.value (model st).nodes ≡ []
  no_links = go (found (numbered i.value) st.nodes) refl
    where
      go : (f : Option (NodeItem N)) → found (numbered i.value) st.nodes ≡ f → links_at i.value (model st).nodes ≡ []
      go None e = ap links_of (found_map (numbered i.value) (named i.value) (node_of st.neighbors st.positions) (λ _. refl) st.nodes ∙ ap (option_map (node_of st.neighbors st.positions)) e)
      go (Some x) e = links_there st i.value x e ∙ ap (λ z. reverse (links_in st.neighbors z)) (no_places x e)

  abbrev left_over : State N E
  left_over = with_nodes st (taken (numbered i.value) st.nodes)

  is_gone : node_gone i st ≡ left_over
  is_gone = ap (with_nodes st) (without_taken i.value st.nodes)

  back : (j : ℕ) (v : Option ℕ) → Lists left_over j v → Lists st j v
  back j v (of_unused f g) = of_unused f g
  back j v (of_node x a f g) = of_node x (among_taken (numbered i.value) st.nodes x a) f g

  on : (j : ℕ) (v : Option ℕ) → j ≢ suc i.value → Lists st j v → Lists left_over j v
  on j v n (of_unused f g) = of_unused f g
  on j v n (of_node x a f g) = of_node x (taken_among (numbered i.value) st.nodes x a (ne_eqb x.number i.value (λ e. n (f ∙ ap suc e)))) f g

  one_left : (j : ℕ) → count (numbered j) (taken (numbered i.value) st.nodes) ≤ 1
  one_left j = let c = good.rep.one_item j in ⊎_elim
      (λ (e : i.value ≡ j). let d = count_taken (numbered j) st.nodes in subst (λ z. count (numbered j) (taken (numbered z) st.nodes) ≤ 1) (sym e) (omega arith))
      (λ (n : i.value ≢ j). let d = count_taken_other (numbered j) (numbered i.value) st.nodes (λ x h. ne_eqb x.number j (λ e. n (sym (eqb-true x.number i.value h) ∙ e))) in omega arith)
      (cases_eq i.value j)

  regrouped : Regrouped st left_over
  regrouped = record {
    base = record {
      one_item = one_left;
      held = held_less (Lists st) (Lists left_over) st.positions good.rep.held (λ j v c. inl (back j v c));
      oldest = λ x a. good.rep.oldest x (among_taken (numbered i.value) st.nodes x a);
      level = good.rep.level;
    };
    arcs = refl;
    neighbors = refl;
    positions = refl;
    unused = refl;
    fresh = refl;
    arc_places = refl;
    old = λ j q o. ⊎_elim
        (λ (e : j ≡ i.value). absurd (unlinked_node q (subst (λ z. Linked st z q) e o)))
        (λ (n : j ≢ i.value). record { start = o.start; begins = on (suc j) o.start (λ f. n (omega arith)) o.begins; has_it = o.has_it })
        (cases_eq j i.value);
    all = λ j q o. record { start = o.start; begins = back (suc j) o.start o.begins; has_it = o.has_it };
  }

  pub gone_rep : Rep (node_gone i st)
  gone_rep = subst Rep (sym is_gone) (rep_regrouped st left_over good.rep regrouped)

  -- no removal is left
  pub gone_nodes : (model (node_gone i st)).nodes ≡ all_unlinked i.value (links_at i.value (model st).nodes) (taken (named i.value) (model st).nodes)
  gone_nodes =
      ap (λ z. (model z).nodes) is_gone
      ∙ map_taken (numbered i.value) (named i.value) (node_of st.neighbors st.positions) (λ _. refl) st.nodes
      ∙ ap (λ z. all_unlinked i.value z (taken (named i.value) (model st).nodes)) (sym no_links)

  pub gone_arcs : (model (node_gone i st)).arcs ≡ all_taken i.value (links_at i.value (model st).nodes) (model st).arcs
  gone_arcs = ap (λ z. all_taken i.value z (model st).arcs) (sym no_links)

-- ---- one link after another
pub cut_none : {N E : Type 0} (i : ℕ) (st : State N E) → Good st → Cut i st st
cut_none i st good = record { good = good; nodes = refl; arcs = refl; node_places = refl; arc_places = refl }

pub cut_more : {N E : Type 0} (i : ℕ) (st st1 st2 : State N E) → Cut i st st1 → Cut i st1 st2 → Cut i st st2
cut_more i st st1 st2 a b = record {
  good = b.good;
  nodes = b.nodes ∙ a.nodes;
  arcs = b.arcs ∙ a.arcs;
  node_places = b.node_places ∙ a.node_places;
  arc_places = b.arc_places ∙ a.arc_places;
}

module _ {N E : Type 0} (st st1 : State N E) (i : NodeIndex) (there : tests.has (named i.value) (model st).nodes ≡ true) (c : Cut i.value st st1) (ended_at : oldest_at i.value st1 ≡ None) where
  pub all_cut : model (node_gone i st1) ≡ (node_removed_at (model st) i.value).1
  all_cut =
      let n = gone_nodes st1 c.good i ended_at ∙ c.nodes in
      let a = gone_arcs st1 c.good i ended_at ∙ c.arcs in
      (λ k. record { nodes = n k; arcs = a k; node_places = c.node_places k; arc_places = c.arc_places k })
      ∙ sym (ap (λ (p : Bool × Model N E). p.1) (cond-true (tests.has (named i.value) (model st).nodes)
      (true, with_tables (model st) (all_unlinked i.value (links_at i.value (model st).nodes) (taken (named i.value) (model st).nodes)) (all_taken i.value (links_at i.value (model st).nodes) (model st).arcs))
      (false, model st) there))

module _ {N E : Type 0} (m : Model N E) (i : ℕ) where
  pub removed_there : tests.has (named i) m.nodes ≡ true → (node_removed_at m i).0 ≡ true
  removed_there h = ap (λ (p : Bool × Model N E). p.0) (cond-true (tests.has (named i) m.nodes) (true, with_tables m (all_unlinked i (links_at i m.nodes) (taken (named i) m.nodes)) (all_taken i (links_at i m.nodes) m.arcs)) (false, m) h)

  pub removed_absent : tests.has (named i) m.nodes ≡ false → node_removed_at m i ≡ (false, m)
  removed_absent h = cond-false (tests.has (named i) m.nodes) (true, with_tables m (all_unlinked i (links_at i m.nodes) (taken (named i) m.nodes)) (all_taken i (links_at i m.nodes) m.arcs)) (false, m) h
