-- One link of a node that is linked goes.
use Rattle.std.proofs.Common.{◌≡◌, ℕ, suc, ◌≤◌, true, eqb, List, ◌∷◌, get_or, Some, None, Option, sym, refl, ap, ◌∙◌, subst, arith}
use Rattle.std.specs.Option.{option_map}
use Rattle.std.proofs.lemmas.Bool.{eq-eqb, and_from}
use Rattle.linked_list.specs.Chains.{has, entries_of}
use Rattle.keys.specs.declared.node_index.NodeIndex.{NodeIndex}
use Rattle.network.specs.declared.direction.CompactDirection.{CompactDirection}
use Rattle.network.specs.declared.direction.CompactDirection.TheVariants.{Outgoing, Incoming}
use Rattle.map_model.specs.Lists.{count, found, changed}
use Rattle.map_model.specs.Model.{same_direction, Link, named, links_to, links_at, relinked, unlinked}
use Rattle.map_layout.specs.declared.records.IndexedKey.{IndexedKey}
use Rattle.map_layout.specs.Layout.{State, NodeItem, numbered, of_unused, of_node, Names, Lists, Linked, Rep, direction_at, link_to, places_of, model}
use Rattle.map_layout.specs.Steps.{node_at, swapped_from, swapped_out_of, dropped_from, dropped_out_of}
use Rattle.map_layout.specs.Edits.{oldest_of, oldest_at}
use Rattle.map_layout.proofs.Members.{found_among}
use Rattle.map_layout.proofs.Items.{value_found, value_of}
use Rattle.map_layout.proofs.Stepping.{Base, linked_of}
use Rattle.map_layout.proofs.Detaching.{Lost, swaps_out, swap_shown, drops, drop_shown, first_link}

-- the node of a link
pub record NodeWith {N E : Type 0} (st : State N E) (i p : ℕ) : Type 0 where
  pub item : NodeItem N
  pub there : found (numbered i) st.nodes ≡ Some item
  pub listed : has (places_of st.positions item) p ≡ true

-- every linked place names a neighbour
abbrev pub Filled : {N E : Type 0} → State N E → Type 0
Filled {N} st = (k q : ℕ) → Linked st k q → (g : IndexedKey N) × (get_or st.neighbors q None ≡ Some g)

pub filled : {N E : Type 0} (st : State N E) → Rep st → Filled st
filled st rep k q o = let n = (rep.paired k q o).names in (n.neighbor, n.there)

same_way : (d : CompactDirection) → same_direction d d ≡ true
same_way Outgoing = refl
same_way Incoming = refl

module _ {N E : Type 0} (st : State N E) (base : Base st) where
  pub node_with : (i p : ℕ) → Linked st i p → NodeWith st i p
  node_with i p o = go o.start o.begins o.has_it
    where
      go : (s : Option ℕ) → Lists st (suc i) s → has (entries_of st.positions s) p ≡ true → NodeWith st i p
      go s (of_unused e f) h = absurd (omega arith)
      go s (of_node x a e f) h = record {
        item = x;
        there = found_among (numbered i) st.nodes x (base.one_item i) a (eq-eqb x.number i (omega arith));
        listed = subst (λ z. has (entries_of st.positions z) p ≡ true) f h;
      }

  record_at : (i p : ℕ) (w : NodeWith st i p) → node_at i st ≡ Some w.item.value
  record_at i p w = value_found i st.nodes ∙ ap (option_map value_of) w.there

  -- ---- by swapping
  pub swap_step : (i : NodeIndex) (p : ℕ) → Linked st i.value p → Lost st p (swapped_out_of i p st)
  swap_step i p o =
      let w = node_with i.value p o in
      subst (λ z. Lost st p (swapped_from z i p st)) (sym (record_at i.value p w)) (swaps_out st i p w.item base w.there w.listed)

  pub swap_step_shown : (i : NodeIndex) (p j : ℕ) (d : CompactDirection) → Linked st i.value p → Filled st → Names st.neighbors p j → direction_at p ≡ d
      → count (links_to j d) (links_at i.value (model st).nodes) ≤ 1 → (model (swapped_out_of i p st)).nodes ≡ unlinked i.value j d (model st).nodes
  swap_step_shown i p j d o full n e c =
      let w = node_with i.value p o in
      ap (λ z. (model (swapped_from z i p st)).nodes) (record_at i.value p w)
      ∙ swap_shown st i p w.item base w.there w.listed n.neighbor (links_to j d) (λ y h. full i.value y (linked_of st i.value w.item base w.there y h)) n.there
      (and_from (eqb n.neighbor.index.value j) (same_direction (direction_at p) d) (eq-eqb n.neighbor.index.value j n.named) (ap (λ z. same_direction z d) e ∙ same_way d)) c

  -- ---- the oldest
  final : (i p : ℕ) (w : NodeWith st i p) → oldest_at i st ≡ Some p → w.item.value.oldest ≡ Some p
  final i p w e = sym (ap oldest_of (record_at i p w)) ∙ e

  pub drop_step : (i : NodeIndex) (p : ℕ) → Linked st i.value p → oldest_at i.value st ≡ Some p → Lost st p (dropped_out_of i p st)
  drop_step i p o e =
      let w = node_with i.value p o in
      subst (λ z. Lost st p (dropped_from z i p st)) (sym (record_at i.value p w)) (drops st i p w.item base w.there w.listed (final i.value p w e))

  pub drop_step_shown : (i : NodeIndex) (p : ℕ) (o : IndexedKey N) (g : List (Link N) → List (Link N)) → Linked st i.value p → oldest_at i.value st ≡ Some p
      → get_or st.neighbors p None ≡ Some o → ((k : Link N) (ks : List (Link N)) → g (k ∷ ks) ≡ ks)
      → (model (dropped_out_of i p st)).nodes ≡ changed (named i.value) (relinked g) (model st).nodes
  drop_step_shown i p o g l e n tail =
      let w = node_with i.value p l in
      ap (λ z. (model (dropped_from z i p st)).nodes) (record_at i.value p w)
      ∙ drop_shown st i p w.item base w.there w.listed (final i.value p w e) o g n tail

  pub oldest_link : (i : NodeIndex) (p : ℕ) (o : IndexedKey N) → Linked st i.value p → oldest_at i.value st ≡ Some p → get_or st.neighbors p None ≡ Some o
      → (ks : List (Link N)) × (links_at i.value (model st).nodes ≡ link_to p o ∷ ks)
  oldest_link i p o l e n =
      let w = node_with i.value p l in
      first_link st i p w.item base w.there w.listed (final i.value p w e) o n
