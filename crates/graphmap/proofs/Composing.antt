-- One step on the tables, from what the calls in it do.
use Rattle.std.specs.Option.{option_or}
use Rattle.std.proofs.Common.{◌≡◌, ℕ, ◌+◌, ◌-◌, ◌%◌, ◌<◌, Bool, true, false, cond, eqb, List, map, length, set, Some, None, Option, unwrap_or, sym, refl, ap, ◌∙◌, arith}
use Rattle.std.proofs.lemmas.Bool.{cond-true, cond-false}
use mathlib.Core.List.{map-map}
use Rattle.linked_list.specs.Places.{Position, prev_of, at}
use Rattle.linked_list.specs.Chains.{can_push, after_push, can_swap, after_swap, start_after_swap, can_remove, after_remove, start_after_remove, can_pop, after_pop, start_after_pop}
use Rattle.keys.specs.declared.ends.Ends.{Ends}
use Rattle.keys.specs.declared.node_index.NodeIndex.{NodeIndex}
use Rattle.keyed_table.specs.Listing.{value_at, inserted, without}
use Rattle.map_layout.specs.declared.records.NodeRecord.{NodeRecord}
use Rattle.map_layout.specs.declared.records.ArcRecord.{ArcRecord}
use Rattle.map_layout.specs.declared.records.IndexedKey.{IndexedKey}
use Rattle.map_layout.specs.Layout.{State, NodeItem, ArcItem, numbered, partner}
use Rattle.map_layout.specs.Edits.{ends_number, ends_of, neighbor, both_linked_at, laid, number_at, unlinked_at, cut}
use Rattle.map_layout.proofs.Items.{value_some, without_taken}
use Rattle.map_layout.proofs.Members.{length_taken}
use Rattle.map_model.proofs.Searching.{found_counts}
use Rattle.map_layout.specs.Steps.{linked_at, arc_put, arc_gone, node_at, node_put, linked_to, swapped_from, swapped_out_of, dropped_from, dropped_out_of, last_swapped, unused_place, new_place, taken_from, place_taken, place_given}
use Rattle.graphmap.specs.declared.link_place.LinkPlace.{LinkPlace}
use Rattle.graphmap.specs.Places.{neighbors}

-- by another name of the test
pub by_test : {X : Type 0} (b c : Bool) (x y z : X) → z ≡ cond b x y → b ≡ c → z ≡ cond c x y
by_test b c x y z e f = e ∙ ap (λ t. cond t x y) f

-- the neighbours are kept by what keeps all but the positions
abbrev bare : {N : Type 0} → LinkPlace N → LinkPlace N
bare p = record { neighbor = p.neighbor; position = None }

pub neighbors_kept : {N : Type 0} (l m : List (LinkPlace N)) → map bare m ≡ map bare l → neighbors m ≡ neighbors l
neighbors_kept l m e = sym (map-map (λ p. p.neighbor) bare m) ∙ ap neighbors e ∙ map-map (λ p. p.neighbor) bare l

-- the tables with other nodes and links, where there are n node places
abbrev pub with_places : {N E : Type 0} → State N E → List (NodeItem N) → List (Option (IndexedKey N)) → List Position → ℕ → State N E
with_places st ns cs L n = record { nodes = ns; arcs = st.arcs; neighbors = cs; positions = L; unused = st.unused; fresh = st.fresh; node_places = n; arc_places = st.arc_places }

module _ {N E : Type 0} (st : State N E) (i : NodeIndex) (p : ℕ) where
  pub links_to_node : (R r : NodeRecord N) (o : IndexedKey N) (ns : List (NodeItem N)) (cs : List (Option (IndexedKey N))) (L M : List Position) (b : Bool) (s q : Option ℕ) (m : ℕ)
      → r ≡ R → cs ≡ set st.neighbors p (Some o) → L ≡ st.positions → b ≡ can_push L r.newest p → M ≡ cond b (after_push L r.newest p) L
      → s ≡ cond b (Some p) r.newest → q ≡ option_or r.oldest (Some p)
      → ns ≡ inserted st.node_places i.value i (record { key = r.key; newest = s; oldest = q }) st.nodes → m ≡ st.node_places
      → with_places st ns cs M m ≡ linked_to R i p o st
  links_to_node R r o ns cs L M b s q m e0 e1 e2 e3 e4 e5 e6 e7 e8 =
      let g : b ≡ can_push st.positions R.newest p = cc in
      let l : M ≡ cond (can_push st.positions R.newest p) (after_push st.positions R.newest p) st.positions = cc in
      let u : s ≡ cond (can_push st.positions R.newest p) (Some p) R.newest = cc in
      let v : q ≡ option_or R.oldest (Some p) = cc in
      let k : r.key ≡ R.key = ap (λ (z : NodeRecord N). z.key) e0 in
      let w : record { key = r.key; newest = s; oldest = q } ≡ record { key = R.key; newest = cond (can_push st.positions R.newest p) (Some p) R.newest; oldest = option_or R.oldest (Some p) } = (λ x. record { key = k x; newest = u x; oldest = v x }) in
      let n : ns ≡ node_put i (record { key = R.key; newest = cond (can_push st.positions R.newest p) (Some p) R.newest; oldest = option_or R.oldest (Some p) }) st = e7 ∙ ap (λ z. inserted st.node_places i.value i z st.nodes) w in
      λ x. with_places st (n x) (e1 x) (l x) (e8 x)

  pub swaps_node : (r : NodeRecord N) (ns : List (NodeItem N)) (cs : List (Option (IndexedKey N))) (M : List Position) (b : Bool) (s q : Option ℕ) (m : ℕ)
      → node_at i.value st ≡ Some r → cs ≡ st.neighbors → b ≡ can_swap st.positions r.newest p → M ≡ cond b (after_swap st.positions r.newest p) st.positions
      → s ≡ cond b (start_after_swap st.positions r.newest p) r.newest → q ≡ last_swapped r.newest r.oldest p
      → ns ≡ inserted st.node_places i.value i (record { key = r.key; newest = s; oldest = q }) st.nodes → m ≡ st.node_places
      → with_places st ns cs M m ≡ swapped_out_of i p st
  swaps_node r ns cs M b s q m e0 e1 e3 e4 e5 e6 e7 e8 =
      let l : M ≡ cond (can_swap st.positions r.newest p) (after_swap st.positions r.newest p) st.positions = cc in
      let u : s ≡ cond (can_swap st.positions r.newest p) (start_after_swap st.positions r.newest p) r.newest = cc in
      let w : record { key = r.key; newest = s; oldest = q } ≡ record { key = r.key; newest = cond (can_swap st.positions r.newest p) (start_after_swap st.positions r.newest p) r.newest; oldest = last_swapped r.newest r.oldest p } = (λ x. record { key = r.key; newest = u x; oldest = e6 x }) in
      let n = e7 ∙ ap (λ z. inserted st.node_places i.value i z st.nodes) w in
      (λ x. with_places st (n x) (e1 x) (l x) (e8 x)) ∙ sym (ap (λ z. swapped_from z i p st) e0)

  pub swaps_none : node_at i.value st ≡ None → st ≡ swapped_out_of i p st
  swaps_none e = sym (ap (λ z. swapped_from z i p st) e)

  pub drops_node : (r : NodeRecord N) (ns : List (NodeItem N)) (cs : List (Option (IndexedKey N))) (M : List Position) (b : Bool) (s q : Option ℕ) (m : ℕ)
      → node_at i.value st ≡ Some r → cs ≡ st.neighbors → b ≡ can_remove st.positions r.newest p → M ≡ cond b (after_remove st.positions p) st.positions
      → s ≡ cond b (start_after_remove st.positions r.newest p) r.newest → q ≡ prev_of (at st.positions p)
      → ns ≡ inserted st.node_places i.value i (record { key = r.key; newest = s; oldest = q }) st.nodes → m ≡ st.node_places
      → with_places st ns cs M m ≡ dropped_out_of i p st
  drops_node r ns cs M b s q m e0 e1 e3 e4 e5 e6 e7 e8 =
      let l : M ≡ cond (can_remove st.positions r.newest p) (after_remove st.positions p) st.positions = cc in
      let u : s ≡ cond (can_remove st.positions r.newest p) (start_after_remove st.positions r.newest p) r.newest = cc in
      let w : record { key = r.key; newest = s; oldest = q } ≡ record { key = r.key; newest = cond (can_remove st.positions r.newest p) (start_after_remove st.positions r.newest p) r.newest; oldest = prev_of (at st.positions p) } = (λ x. record { key = r.key; newest = u x; oldest = e6 x }) in
      let n = e7 ∙ ap (λ z. inserted st.node_places i.value i z st.nodes) w in
      (λ x. with_places st (n x) (e1 x) (l x) (e8 x)) ∙ sym (ap (λ z. dropped_from z i p st) e0)

  pub drops_none : node_at i.value st ≡ None → st ≡ dropped_out_of i p st
  drops_none e = sym (ap (λ z. dropped_from z i p st) e)

-- the tables with other unused places
abbrev pub with_spares : {N E : Type 0} → State N E → List (Option (IndexedKey N)) → List Position → Option ℕ → ℕ → State N E
with_spares st cs L u f = record { nodes = st.nodes; arcs = st.arcs; neighbors = cs; positions = L; unused = u; fresh = f; node_places = st.node_places; arc_places = st.arc_places }

module _ {N E : Type 0} (st : State N E) where
  pub gives_place : (p : ℕ) (cs : List (Option (IndexedKey N))) (M : List Position) (b : Bool) (s : Option ℕ)
      → cs ≡ st.neighbors → b ≡ can_push st.positions st.unused p → M ≡ cond b (after_push st.positions st.unused p) st.positions → s ≡ cond b (Some p) st.unused
      → with_spares st cs M s st.fresh ≡ place_given p st
  gives_place p cs M b s e1 e2 e3 e4 =
      let l : M ≡ cond (can_push st.positions st.unused p) (after_push st.positions st.unused p) st.positions = cc in
      let u : s ≡ cond (can_push st.positions st.unused p) (Some p) st.unused = cc in
      λ x. with_spares st (e1 x) (l x) (u x) st.fresh

  -- what is popped
  pub record Popped (r : Option ℕ) (M : List Position) (s : Option ℕ) : Type 0 where
    pub answer : r ≡ unused_place st
    pub placed : M ≡ cond (can_pop st.positions st.unused) (after_pop st.positions st.unused) st.positions
    pub started : s ≡ cond (can_pop st.positions st.unused) (start_after_pop st.positions st.unused) st.unused

  can_some : (o : Option ℕ) (p : ℕ) (b : Bool) → can_pop st.positions o ≡ b → Some p ≡ cond b o None → b ≡ true
  can_some o p true c e = refl
  can_some o p false c e = absurd (let z : ◌≡◌ {A = ℕ} 0 1 = cc in omega arith)

  can_none : (o : Option ℕ) (b : Bool) → can_pop st.positions o ≡ b → None ≡ cond b o None → b ≡ false
  can_none o false c e = refl
  can_none None true c e = sym c
  can_none (Some h) true c e = absurd (let z : ◌≡◌ {A = ℕ} 0 1 = cc in omega arith)

  module _ (cs : List (Option (IndexedKey N))) (M : List Position) (s : Option ℕ) (same : cs ≡ st.neighbors) where
    pub takes_unused : (p : ℕ) → Popped (Some p) M s → (p ≡ new_place st) × (with_spares st cs M s st.fresh ≡ place_taken st)
    takes_unused p a =
        let t = can_some st.unused p (can_pop st.positions st.unused) refl a.answer in
        let l : M ≡ after_pop st.positions st.unused = a.placed ∙ ap (λ b. cond b (after_pop st.positions st.unused) st.positions) t in
        let u : s ≡ start_after_pop st.positions st.unused = a.started ∙ ap (λ b. cond b (start_after_pop st.positions st.unused) st.unused) t in
        (ap (λ o. unwrap_or o st.fresh) a.answer, (λ x. with_spares st (same x) (l x) (u x) st.fresh) ∙ sym (ap (λ b. taken_from b st) t))

    pub takes_fresh : Popped None M s → (st.fresh ≡ new_place st) × (with_spares st cs M s (st.fresh + 2) ≡ place_taken st)
    takes_fresh a =
        let t = can_none st.unused (can_pop st.positions st.unused) refl a.answer in
        let l : M ≡ st.positions = a.placed ∙ ap (λ b. cond b (after_pop st.positions st.unused) st.positions) t in
        let u : s ≡ st.unused = a.started ∙ ap (λ b. cond b (start_after_pop st.positions st.unused) st.unused) t in
        (ap (λ o. unwrap_or o st.fresh) a.answer, (λ x. with_spares st (same x) (l x) (u x) (st.fresh + 2)) ∙ sym (ap (λ b. taken_from b st) t))

-- ---- arcs
-- the tables with other arcs, where there are n arc places
abbrev pub with_arc_places : {N E : Type 0} → State N E → List (ArcItem N E) → ℕ → State N E
with_arc_places st arcs n = record { nodes = st.nodes; arcs = arcs; neighbors = st.neighbors; positions = st.positions; unused = st.unused; fresh = st.fresh; node_places = st.node_places; arc_places = n }

module _ {N E : Type 0} (st : State N E) (i j : NodeIndex) where
  pub puts_arc : (k : Ends NodeIndex) (r : ArcRecord N E) (arcs : List (ArcItem N E)) (n : ℕ) → k ≡ ends_of i j → arcs ≡ inserted st.arc_places (ends_number k.source k.target) k r st.arcs → n ≡ st.arc_places
      → with_arc_places st arcs n ≡ arc_put (ends_number i j) (ends_of i j) r st
  puts_arc k r arcs n d e f = (λ x. with_arc_places st (e x) (f x)) ∙ ap (λ z. arc_put (ends_number z.source z.target) z r st) d

  pub lays_arc : (a b : N) (w : E) (st1 st2 : State N E) (p : ℕ) (k : Ends NodeIndex) (arcs : List (ArcItem N E)) (n : ℕ) → k ≡ ends_of i j → p ≡ new_place st → st1 ≡ place_taken st → st2 ≡ both_linked_at a i b j p st1
      → arcs ≡ inserted st2.arc_places (ends_number k.source k.target) k (record { source = a; target = b; weight = w; place = p }) st2.arcs → n ≡ st2.arc_places
      → with_arc_places st2 arcs n ≡ laid a i b j w st
  lays_arc a b w st1 st2 p k arcs n d e0 e1 e2 e3 e4 =
      (λ x. with_arc_places st2 (e3 x) (e4 x))
      ∙ ap (λ z. arc_put (ends_number z.source z.target) z (record { source = a; target = b; weight = w; place = p }) st2) d
      ∙ ap (arc_put (ends_number i j) (ends_of i j) (record { source = a; target = b; weight = w; place = p })) (e2 ∙ ap (both_linked_at a i b j p) e1)
      ∙ ap (λ q. arc_put (ends_number i j) (ends_of i j) (record { source = a; target = b; weight = w; place = q }) (both_linked_at a i b j q (place_taken st))) e0

  pub both_of_loop : (a b : N) (p : ℕ) (st1 : State N E) → eqb i.value j.value ≡ true → st1 ≡ linked_at a i p (neighbor b j) st → st1 ≡ both_linked_at a i b j p st
  both_of_loop a b p st1 e f = f ∙ sym (cond-true (eqb i.value j.value) (linked_at a i p (neighbor b j) st) (linked_at b j (partner p) (neighbor a i) (linked_at a i p (neighbor b j) st)) e)

  pub both_of_two : (a b : N) (p q : ℕ) (st1 st2 : State N E) → eqb i.value j.value ≡ false → q ≡ partner p → st1 ≡ linked_at a i p (neighbor b j) st → st2 ≡ linked_at b j q (neighbor a i) st1 → st2 ≡ both_linked_at a i b j p st
  both_of_two a b p q st1 st2 n e f h =
      h ∙ ap (λ z. linked_at b j z (neighbor a i) st1) e ∙ ap (linked_at b j (partner p) (neighbor a i)) f
      ∙ sym (cond-false (eqb i.value j.value) (linked_at a i p (neighbor b j) st) (linked_at b j (partner p) (neighbor a i) (linked_at a i p (neighbor b j) st)) n)

-- ---- an arc goes
dropped_arcs : {N E : Type 0} (o : Option (NodeRecord N)) (i : NodeIndex) (p : ℕ) (st : State N E) → (dropped_from o i p st).arcs ≡ st.arcs
dropped_arcs None i p st = refl
dropped_arcs (Some r) i p st = refl

swapped_arcs : {N E : Type 0} (o : Option (NodeRecord N)) (i : NodeIndex) (p : ℕ) (st : State N E) → (swapped_from o i p st).arcs ≡ st.arcs
swapped_arcs None i p st = refl
swapped_arcs (Some r) i p st = refl

unlinked_arcs : {N E : Type 0} (i j : NodeIndex) (p : ℕ) (st : State N E) → (unlinked_at i j p st).arcs ≡ st.arcs
unlinked_arcs i j p st =
    let d = dropped_arcs (node_at i.value st) i p st in
    elim (eqb j.value i.value) as (λ b. (cond b (dropped_out_of i p st) (swapped_out_of j (partner p) (dropped_out_of i p st))).arcs ≡ st.arcs)
    [ true ↦ d | false ↦ swapped_arcs (node_at j.value (dropped_out_of i p st)) j (partner p) (dropped_out_of i p st) ∙ d ]

module _ {N E : Type 0} (st : State N E) (i j : NodeIndex) (p k : ℕ) (number : k ≡ number_at p i j) where
  pub cuts_arc : (st1 st2 st3 : State N E) (arcs : List (ArcItem N E)) (n : ℕ) → arcs ≡ without k st.arcs → n ≡ st.arc_places → st1 ≡ with_arc_places st arcs n
      → st2 ≡ unlinked_at i j p st1 → st3 ≡ place_given (p - p % 2) st2 → st3 ≡ cut i j p st
  cuts_arc st1 st2 st3 arcs n e0 e1 e2 e3 e4 =
      let a : st1 ≡ arc_gone (number_at p i j) st = e2 ∙ (λ x. with_arc_places st (e0 x) (e1 x)) ∙ ap (λ z. arc_gone z st) number in
      e4 ∙ ap (place_given (p - p % 2)) (e3 ∙ ap (unlinked_at i j p) a)

  pub cut_shorter : (v : ArcRecord N E) → Some v ≡ value_at k st.arcs → length (cut i j p st).arcs < length st.arcs
  cut_shorter v e =
      let s = value_some k st.arcs v (sym e) in
      let a = ap length (unlinked_arcs i j p (arc_gone (number_at p i j) st) ∙ ap (λ z. without z st.arcs) (sym number) ∙ without_taken k st.arcs) in
      let b = length_taken (numbered k) st.arcs (found_counts (numbered k) st.arcs s.item s.there) in
      omega arith
