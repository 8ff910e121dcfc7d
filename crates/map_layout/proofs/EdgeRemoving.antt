-- An arc is removed.
use Rattle.std.proofs.Common.{◌≡◌, ℕ, ◌+◌, ◌/◌, ◌%◌, ◌^◌, ◌≤◌, cond, eqb, ◌≢◌, List, map, get_or, Some, None, Option, sym, ap, ◌∙◌, subst, ⊎_elim, arith}
use Rattle.std.specs.Option.{option_map}
use Rattle.std.proofs.lemmas.Bool.{cases_eq, eq-eqb, ne_eqb, eqb-true, cond-true, cond-false}
use Rattle.keys.specs.declared.node_index.NodeIndex.{NodeIndex}
use Rattle.keyed_table.specs.Listing.{without}
use Rattle.network.specs.declared.direction.CompactDirection.{CompactDirection}
use Rattle.network.specs.declared.direction.CompactDirection.TheVariants.{Outgoing, Incoming}
use Rattle.map_model.specs.Lists.{count, found, taken}
use Rattle.map_model.specs.Model.{Node, named, between, links_of, links_to, links_at, relinked, unlinked, both_unlinked, weight_of, edge_removed_at}
use Rattle.map_model.proofs.Searching.{found_passes, found_counts, none_counts}
use Rattle.map_model.proofs.Linking.{count_unlinked}
use Rattle.map_layout.specs.Layout.{State, ArcItem, numbered, Names, Linked, Rep, source_of, target_of, arc_in, model}
use Rattle.map_layout.specs.Steps.{with_arcs, swapped_out_of, arc_gone}
use Rattle.map_layout.specs.Edits.{Good, ends_number, both_swapped_out, unlaid}
use Rattle.map_layout.proofs.Members.{among_found, taken_none, changed_same}
use Rattle.map_layout.proofs.Mapping.{count_map, found_map, map_taken}
use Rattle.map_layout.proofs.Items.{without_taken}
use Rattle.map_layout.proofs.Pairs.{between_number, partner_even, pair_source, pair_target, even_out, odd_in}
use Rattle.map_layout.proofs.Stepping.{Base}
use Rattle.map_layout.proofs.Detaching.{Lost}
use Rattle.map_layout.proofs.Reusing.{base_of, gives}
use Rattle.map_layout.proofs.Laying.{base_arcs}
use Rattle.map_layout.proofs.Cutting.{filled, swap_step, swap_step_shown}
use Rattle.map_layout.proofs.Unlaying.{LostBoth, lost_one, lost_two, ArcAt, gone_by}
use Rattle.map_layout.proofs.Unlaying as un
use Rattle.map_layout.proofs.Pairing.{Gone, rep_gone, names_kept}

-- ---- what is not there is not removed
pub unlinked_none : {N : Type 0} (i j : ℕ) (d : CompactDirection) (nodes : List (Node N)) → count (links_to j d) (links_at i nodes) ≡ 0 → unlinked i j d nodes ≡ nodes
unlinked_none i j d nodes c =
    changed_same (named i) (relinked (taken (links_to j d))) nodes
    (λ x e. ap (λ z. record { key = x.key; index = x.index; links = z }) (taken_none (links_to j d) x.links (sym (ap (λ o. count (links_to j d) (links_of o)) e) ∙ c)))

both_unlinked_none : {N : Type 0} (i j : ℕ) (nodes : List (Node N)) → count (links_to j Outgoing) (links_at i nodes) ≡ 0 → (i ≢ j → count (links_to i Incoming) (links_at j nodes) ≡ 0) → both_unlinked i j nodes ≡ nodes
both_unlinked_none i j nodes c d = ⊎_elim
    (λ (e : i ≡ j). cond-true (eqb i j) (unlinked i j Outgoing nodes) (unlinked j i Incoming (unlinked i j Outgoing nodes)) (eq-eqb i j e) ∙ unlinked_none i j Outgoing nodes c)
    (λ (n : i ≢ j).
    cond-false (eqb i j) (unlinked i j Outgoing nodes) (unlinked j i Incoming (unlinked i j Outgoing nodes)) (ne_eqb i j n)
    ∙ ap (unlinked j i Incoming) (unlinked_none i j Outgoing nodes c) ∙ unlinked_none j i Incoming nodes (d n))
    (cases_eq i j)

module _ {N E : Type 0} (st : State N E) (i j : NodeIndex) where
  agree : (y : ArcItem N E) → between i.value j.value (arc_in y) ≡ numbered (ends_number i j) y
  agree y = between_number i.value j.value j.small y

  pub arc_count : count (between i.value j.value) (model st).arcs ≡ count (numbered (ends_number i j)) st.arcs
  arc_count = count_map (numbered (ends_number i j)) (between i.value j.value) arc_in agree st.arcs

  pub arc_found : (o : Option (ArcItem N E)) → found (numbered (ends_number i j)) st.arcs ≡ o → found (between i.value j.value) (model st).arcs ≡ option_map arc_in o
  arc_found o e = found_map (numbered (ends_number i j)) (between i.value j.value) arc_in agree st.arcs ∙ ap (option_map arc_in) e

  pub arcs_without : map arc_in (without (ends_number i j) st.arcs) ≡ taken (between i.value j.value) (model st).arcs
  arcs_without = ap (map arc_in) (without_taken (ends_number i j) st.arcs) ∙ map_taken (numbered (ends_number i j)) (between i.value j.value) arc_in agree st.arcs

  module _ (good : Good st) where
    once : count (between i.value j.value) (model st).arcs ≤ 1
    once = good.sound.one_arc i.value j.value

    out_links : count (links_to j.value Outgoing) (links_at i.value (model st).nodes) ≡ count (between i.value j.value) (model st).arcs
    out_links = good.sound.links i.value j.value Outgoing

    in_links : i.value ≢ j.value → count (links_to i.value Incoming) (links_at j.value (model st).nodes) ≡ count (between i.value j.value) (model st).arcs
    in_links n = good.sound.links j.value i.value Incoming ∙ cond-false (eqb i.value j.value) 0 (count (between i.value j.value) (model st).arcs) (ne_eqb i.value j.value n)

    -- ---- an arc that is not there
    module _ (absent : found (numbered (ends_number i j)) st.arcs ≡ None) where
      none : count (between i.value j.value) (model st).arcs ≡ 0
      none = arc_count ∙ none_counts (numbered (ends_number i j)) st.arcs absent

      same_arcs : arc_gone (ends_number i j) st ≡ st
      same_arcs = ap (with_arcs st) (without_taken (ends_number i j) st.arcs ∙ taken_none (numbered (ends_number i j)) st.arcs (none_counts (numbered (ends_number i j)) st.arcs absent))

      pub absent_good : Good (arc_gone (ends_number i j) st)
      absent_good = subst Good (sym same_arcs) good

      pub absent_shown : model (arc_gone (ends_number i j) st) ≡ (edge_removed_at (model st) i.value j.value).1
      absent_shown =
          let n : (model st).nodes ≡ both_unlinked i.value j.value (model st).nodes = sym (both_unlinked_none i.value j.value (model st).nodes (out_links ∙ none) (λ ne. in_links ne ∙ none)) in
          λ k. record { nodes = n k; arcs = arcs_without k; node_places = st.node_places; arc_places = st.arc_places }

      pub absent_answer : (edge_removed_at (model st) i.value j.value).0 ≡ None
      absent_answer = ap weight_of (arc_found None absent)

    -- ---- an arc that is there
    module _ (y : ArcItem N E) (there : found (numbered (ends_number i j)) st.arcs ≡ Some y) where
      number_is : y.number ≡ ends_number i j
      number_is = eqb-true y.number (ends_number i j) (found_passes (numbered (ends_number i j)) st.arcs y there)

      source_is : source_of y ≡ i.value
      source_is = ap (λ z. z / 2 ^ 32) number_is ∙ pair_source i.value j.value j.small

      target_is : target_of y ≡ j.value
      target_is = ap (λ z. z % 2 ^ 32) number_is ∙ pair_target i.value j.value j.small

      stands : ArcAt st i.value j.value y.value.place
      stands =
          let s = good.rep.seated y (among_found (numbered (ends_number i j)) st.arcs y there) in
          un.arc_at st good.rep i.value j.value y.value.place s.even
          (subst (λ z. Linked st z y.value.place) source_is s.owned) (subst (Names st.neighbors y.value.place) target_is s.names)

      abbrev rest : State N E
      rest = arc_gone (ends_number i j) st

      rest_base : Base rest
      rest_base = base_arcs st (without (ends_number i j) st.arcs) (base_of good.rep)

      first : Lost rest y.value.place (swapped_out_of i y.value.place rest)
      first = swap_step rest rest_base i y.value.place stands.owned

      first_shown : (model (swapped_out_of i y.value.place rest)).nodes ≡ unlinked i.value j.value Outgoing (model st).nodes
      first_shown = swap_step_shown rest rest_base i y.value.place j.value Outgoing stands.owned (filled st good.rep) stands.names (even_out y.value.place stands.even)
          (let a = out_links in let b = once in omega arith)

      module _ (ne : i.value ≢ j.value) where
        far : Linked (swapped_out_of i y.value.place rest) j.value (y.value.place + 1)
        far = first.old j.value (y.value.place + 1) (stands.far ne) (λ e. omega arith)

        second : Lost (swapped_out_of i y.value.place rest) (y.value.place + 1) (swapped_out_of j (y.value.place + 1) (swapped_out_of i y.value.place rest))
        second = swap_step (swapped_out_of i y.value.place rest) first.same.base j (y.value.place + 1) far

        second_shown : (model (swapped_out_of j (y.value.place + 1) (swapped_out_of i y.value.place rest))).nodes ≡ unlinked j.value i.value Incoming (unlinked i.value j.value Outgoing (model st).nodes)
        second_shown =
            let ev = stands.even in
            let odd : (y.value.place + 1) % 2 ≢ 0 = λ f. omega arith in
            let a = in_links ne in
            let b = once in
            let c = count_unlinked i.value j.value i.value j.value Incoming Outgoing (model st).nodes in
            let d = ap (λ z. count (links_to i.value Incoming) (links_at j.value z)) first_shown in
            swap_step_shown (swapped_out_of i y.value.place rest) first.same.base j (y.value.place + 1) i.value Incoming far
            (λ k q o. let g = filled st good.rep k q (first.all k q o) in (g.0, ap (λ z. get_or z q None) first.neighbors ∙ g.1))
            (names_kept st.neighbors (swapped_out_of i y.value.place rest).neighbors (y.value.place + 1) i.value (ap (λ z. get_or z (y.value.place + 1) None) first.neighbors) (stands.far_names ne))
            (odd_in (y.value.place + 1) odd)
            (omega arith)
            ∙ ap (unlinked j.value i.value Incoming) first_shown

      abbrev two_out : State N E
      two_out = cond (eqb i.value j.value) (swapped_out_of i y.value.place rest) (swapped_out_of j (y.value.place + 1) (swapped_out_of i y.value.place rest))

      is_two : both_swapped_out i j y.value.place rest ≡ two_out
      is_two = ap (λ z. cond (eqb i.value j.value) (swapped_out_of i y.value.place rest) (swapped_out_of j z (swapped_out_of i y.value.place rest))) (partner_even y.value.place stands.even)

      two_gone : LostBoth rest two_out y.value.place (y.value.place + 1)
      two_gone = ⊎_elim
          (λ (e : i.value ≡ j.value).
          subst (λ z. LostBoth rest z y.value.place (y.value.place + 1)) (sym (cond-true (eqb i.value j.value) (swapped_out_of i y.value.place rest) (swapped_out_of j (y.value.place + 1) (swapped_out_of i y.value.place rest)) (eq-eqb i.value j.value e)))
          (lost_one rest (swapped_out_of i y.value.place rest) y.value.place (y.value.place + 1) (λ f. omega arith) (stands.loop e) first))
          (λ (n : i.value ≢ j.value).
          subst (λ z. LostBoth rest z y.value.place (y.value.place + 1)) (sym (cond-false (eqb i.value j.value) (swapped_out_of i y.value.place rest) (swapped_out_of j (y.value.place + 1) (swapped_out_of i y.value.place rest)) (ne_eqb i.value j.value n)))
          (lost_two rest (swapped_out_of i y.value.place rest) (swapped_out_of j (y.value.place + 1) (swapped_out_of i y.value.place rest)) y.value.place (y.value.place + 1) (λ f. omega arith) first (second n)))
          (cases_eq i.value j.value)

      both_gone : LostBoth rest (both_swapped_out i j y.value.place rest) y.value.place (y.value.place + 1)
      both_gone = subst (λ z. LostBoth rest z y.value.place (y.value.place + 1)) (sym is_two) two_gone

      both_shown : (model (both_swapped_out i j y.value.place rest)).nodes ≡ both_unlinked i.value j.value (model st).nodes
      both_shown = ap (λ z. (model z).nodes) is_two ∙ ⊎_elim
          (λ (e : i.value ≡ j.value).
          let t = eq-eqb i.value j.value e in
          ap (λ z. (model z).nodes) (cond-true (eqb i.value j.value) (swapped_out_of i y.value.place rest) (swapped_out_of j (y.value.place + 1) (swapped_out_of i y.value.place rest)) t)
          ∙ first_shown
          ∙ sym (cond-true (eqb i.value j.value) (unlinked i.value j.value Outgoing (model st).nodes) (unlinked j.value i.value Incoming (unlinked i.value j.value Outgoing (model st).nodes)) t))
          (λ (n : i.value ≢ j.value).
          let t = ne_eqb i.value j.value n in
          ap (λ z. (model z).nodes) (cond-false (eqb i.value j.value) (swapped_out_of i y.value.place rest) (swapped_out_of j (y.value.place + 1) (swapped_out_of i y.value.place rest)) t)
          ∙ second_shown n
          ∙ sym (cond-false (eqb i.value j.value) (unlinked i.value j.value Outgoing (model st).nodes) (unlinked j.value i.value Incoming (unlinked i.value j.value Outgoing (model st).nodes)) t))
          (cases_eq i.value j.value)

      gone : Gone st (unlaid i j y.value.place rest) y.value.place
      gone = gone_by st good.rep i j y.value.place (both_swapped_out i j y.value.place rest) stands good.sound (found_counts (numbered (ends_number i j)) st.arcs y there) both_gone

      pub removed_rep : Rep (unlaid i j y.value.place rest)
      removed_rep = rep_gone st (unlaid i j y.value.place rest) y.value.place good.rep gone

      pub removed_shown : model (unlaid i j y.value.place rest) ≡ (edge_removed_at (model st) i.value j.value).1
      removed_shown =
          let C = both_swapped_out i j y.value.place rest in
          let used = gone.within in
          let en = good.rep.enough in
          let ro = good.rep.roomy in
          let sz = both_gone.same.size in
          let g = (gives C y.value.place both_gone.same.base both_gone.free (omega arith)).refiled in
          let n : (model (unlaid i j y.value.place rest)).nodes ≡ both_unlinked i.value j.value (model st).nodes = g.shown ∙ both_shown in
          let a : (model (unlaid i j y.value.place rest)).arcs ≡ taken (between i.value j.value) (model st).arcs = ap (map arc_in) (g.arcs ∙ both_gone.same.arcs) ∙ arcs_without in
          λ k. record { nodes = n k; arcs = a k; node_places = (g.node_places ∙ both_gone.same.node_places) k; arc_places = (g.arc_places ∙ both_gone.same.arc_places) k }

      pub removed_answer : (edge_removed_at (model st) i.value j.value).0 ≡ Some y.value.weight
      removed_answer = ap weight_of (arc_found (Some y) there)
