-- The weight of an arc is replaced.
use Rattle.std.proofs.Common.{◌≡◌, ◌%◌, ◌≤◌, true, false, Some, Ok, sym, refl, ap, ◌∙◌, subst, ⊎_elim, arith}
use Rattle.keys.specs.declared.node_index.NodeIndex.{NodeIndex}
use Rattle.keyed_table.specs.Listing.{with_value}
use Rattle.map_model.specs.Lists.{count, found, changed}
use Rattle.map_model.specs.Model.{between, weighed, weight_of, weight_at, edge_put_at, edge_added_at}
use Rattle.map_layout.specs.Layout.{State, ArcItem, Among, numbered, Names, Seated, Linked, Rep, source_of, target_of, arc_in, model}
use Rattle.map_layout.specs.Steps.{with_arcs}
use Rattle.map_layout.specs.Edits.{Good, ends_number, ends_of, reweighed, arc_weighed}
use Rattle.map_layout.proofs.Members.{found_among, among_changed, length_changed}
use Rattle.map_layout.proofs.Mapping.{map_changed}
use Rattle.map_layout.proofs.Items.{put_old}
use Rattle.map_layout.proofs.Pairs.{between_number}
use Rattle.map_layout.proofs.EdgeRemoving.{arc_count, arc_found}

module _ {N E : Type 0} (st : State N E) (good : Good st) (i j : NodeIndex) (w : E) (y : ArcItem N E) (there : found (numbered (ends_number i j)) st.arcs ≡ Some y) where
  abbrev after : State N E
  after = with_arcs st (changed (numbered (ends_number i j)) (with_value (reweighed w y.value)) st.arcs)

  is_after : arc_weighed i j w y.value st ≡ after
  is_after = ap (with_arcs st) (put_old st.arc_places (ends_number i j) (ends_of i j) (reweighed w y.value) st.arcs y there)

  once : count (numbered (ends_number i j)) st.arcs ≤ 1
  once = let c = arc_count st i j in let d = good.sound.one_arc i.value j.value in omega arith

  -- the arc that is changed
  it_is : (z : ArcItem N E) → Among z st.arcs → numbered (ends_number i j) z ≡ true → z ≡ y
  it_is z a t = let f = found_among (numbered (ends_number i j)) st.arcs z once a t in cc

  seated_after : (z : ArcItem N E) → Among z after.arcs → Seated (Linked after) after.neighbors z
  seated_after z a = ⊎_elim
      (λ (r : (numbered (ends_number i j) z ≡ false) × Among z st.arcs). let s = good.rep.seated z r.1 in record { even = s.even; owned = s.owned; names = s.names })
      (λ (r : (u : ArcItem N E) × Among u st.arcs × (numbered (ends_number i j) u ≡ true) × (z ≡ with_value (reweighed w y.value) u)).
      let u = r.0 in
      let s = good.rep.seated u r.1 in
      let p : y.value.place ≡ u.value.place = ap (λ (v : ArcItem N E). v.value.place) (sym (it_is u r.1 r.2)) in
      subst (Seated (Linked after) after.neighbors) (sym r.3) (record {
        even = ap (λ v. v % 2) p ∙ s.even;
        owned = subst (Linked st (source_of u)) (sym p) s.owned;
        names = subst (λ v. Names st.neighbors v (target_of u)) (sym p) s.names;
      }))
      (among_changed (numbered (ends_number i j)) (with_value (reweighed w y.value)) st.arcs z once a)

  rep_after : Rep after
  rep_after = record {
    one_item = good.rep.one_item;
    held = good.rep.held;
    oldest = good.rep.oldest;
    paired = good.rep.paired;
    seated = seated_after;
    spare = good.rep.spare;
    idle = good.rep.idle;
    places = (let e = good.rep.places in let l = length_changed (numbered (ends_number i j)) (with_value (reweighed w y.value)) st.arcs in omega arith);
    enough = good.rep.enough;
    roomy = good.rep.roomy;
    level = good.rep.level;
  }

  pub weighed_rep : Rep (arc_weighed i j w y.value st)
  weighed_rep = subst Rep (sym is_after) rep_after

  old_weight : weight_at i.value j.value (model st).arcs ≡ Some y.value.weight
  old_weight = ap weight_of (arc_found st i j (Some y) there)

  arcs_after : (model after).arcs ≡ changed (between i.value j.value) (weighed w) (model st).arcs
  arcs_after = map_changed (numbered (ends_number i j)) (between i.value j.value) arc_in (λ z. between_number i.value j.value j.small z) arc_in (with_value (reweighed w y.value)) (weighed w) st.arcs once
      (λ z a n. refl)
      (λ z a t. let e = it_is z a t in
      ap (λ (v : ArcItem N E). record { source = v.value.source; source_index = source_of z; target = v.value.target; target_index = target_of z; weight = w }) (sym e))

  pub weighed_shown : (a b : N) → model (arc_weighed i j w y.value st) ≡ (edge_added_at (model st) a i.value b j.value w).1
  weighed_shown a b =
      ap model is_after
      ∙ (λ k. record { nodes = (model st).nodes; arcs = arcs_after k; node_places = st.node_places; arc_places = st.arc_places })
      ∙ sym (ap (λ o. (edge_put_at (model st) a i.value b j.value w o).1) old_weight)

  pub weighed_answer : (a b : N) → (edge_added_at (model st) a i.value b j.value w).0 ≡ Ok (Some y.value.weight)
  weighed_answer a b = ap (λ o. (edge_put_at (model st) a i.value b j.value w o).0) old_weight
