-- A node or an arc is added.
use Rattle.std.proofs.Common.{◌≡◌, ℕ, ◌+◌, ◌<◌, ◌≤◌, Bool, true, false, cond, ◌||◌, ltb, List, map, length, Some, None, Ok, Err, Option, Result, sym, refl, ap, ◌∙◌, subst, ⊎_elim, arith}
use Rattle.std.specs.Option.{option_map}
use Rattle.std.proofs.lemmas.List.{length-map}
use Rattle.std.proofs.lemmas.Bool.{cases_lt, lt-ltb, le-ltb, or_left, or_right, or_from, cond-true, cond-false}
use Rattle.linked_list.specs.Places.{Position}
use Rattle.linked_list.specs.Chains.{has, entries_of}
use Rattle.keys.specs.declared.node_index.NodeIndex.{NodeIndex}
use Rattle.fault.specs.declared.Fault.{Fault}
use Rattle.fault.specs.declared.Fault.TheVariants.{NodesFull}
use Rattle.map_model.specs.Lists.{one, count, found, changed}
use Rattle.map_model.specs.Lists as tests
use Rattle.map_model.specs.Model.{Model, named, joined, with_tables, node_added_at}
use Rattle.map_layout.specs.declared.records.IndexedKey.{IndexedKey}
use Rattle.map_layout.specs.Layout.{State, NodeItem, Among, numbered, Idle, Names, Paired, Linked, Rep, partner, source_of, target_of, arc_in, node_of, model}
use Rattle.map_layout.specs.Steps.{with_nodes, lone, node_at, entered, entered_by}
use Rattle.map_layout.proofs.Items.{value_found, value_of, put_full, value_none}
use Rattle.map_layout.proofs.Stepping.{Base}
use Rattle.map_layout.proofs.Reusing.{base_of}
use Rattle.map_layout.proofs.Entering.{Entered, enters, has_node, found_has, none_has}

-- ---- a node comes in
paired_on : {N : Type 0} (O P : ℕ → ℕ → Type 0) (L M : List Position) (cs ds : List (Option (IndexedKey N))) (i p : ℕ)
    → ((k q : ℕ) → O k q → P k q) → M ≡ L → ds ≡ cs → Paired O L cs i p → Paired P M ds i p
paired_on O P L M cs ds i p f e g r = record {
  other = r.other;
  names = subst (λ z. Names z p r.other) (sym g) r.names;
  loop = λ h. let l = r.loop h in (l.0, subst (λ z. Idle z (p + 1)) (sym e) l.1);
  back = λ h. let b = r.back h in (f r.other (partner p) b.0, subst (λ z. Names z (partner p) i) (sym g) b.1);
}

-- nodes come or go that have no links
pub record Regrouped {N E : Type 0} (st st' : State N E) : Type 0 where
  pub base : Base st'
  pub arcs : st'.arcs ≡ st.arcs
  pub neighbors : st'.neighbors ≡ st.neighbors
  pub positions : st'.positions ≡ st.positions
  pub unused : st'.unused ≡ st.unused
  pub fresh : st'.fresh ≡ st.fresh
  pub arc_places : st'.arc_places ≡ st.arc_places
  pub old : (j q : ℕ) → Linked st j q → Linked st' j q
  pub all : (j q : ℕ) → Linked st' j q → Linked st j q

pub rep_regrouped : {N E : Type 0} (st st' : State N E) → Rep st → Regrouped st st' → Rep st'
rep_regrouped st st' rep e =
    let u : entries_of st'.positions st'.unused ≡ entries_of st.positions st.unused = ap (λ z. entries_of z st'.unused) e.positions ∙ ap (entries_of st.positions) e.unused in
    record {
      one_item = e.base.one_item;
      held = e.base.held;
      oldest = e.base.oldest;
      paired = λ k q o. paired_on (Linked st) (Linked st') st.positions st'.positions st.neighbors st'.neighbors k q e.old e.positions e.neighbors (rep.paired k q (e.all k q o));
      seated = λ y m. let s = rep.seated y (subst (Among y) e.arcs m) in
          record { even = s.even; owned = e.old (source_of y) y.value.place s.owned; names = subst (λ z. Names z y.value.place (target_of y)) (sym e.neighbors) s.names };
      spare = λ p h. let s = rep.spare p (sym (ap (λ z. has z p) u) ∙ h) in
          record { even = s.even; used = (let w = s.used in let f = e.fresh in omega arith); next = subst (λ z. Idle z (p + 1)) (sym e.positions) s.next };
      idle = λ p h. subst (λ z. Idle z p) (sym e.positions) (rep.idle p (let f = e.fresh in omega arith));
      places = (let a = rep.places in let b = ap length e.arcs in let c = ap length u in let f = e.fresh in omega arith);
      enough = (let a = rep.enough in let f = e.fresh in let g = e.arc_places in omega arith);
      roomy = (let a = rep.roomy in let f = ap length e.positions in let g = e.arc_places in omega arith);
      level = e.base.level;
    }

rep_entered : {N E : Type 0} (st : State N E) (n : N) (i : ℕ) (st' : State N E) → Rep st → Entered st n i st' → Rep st'
rep_entered st n i st' rep e = rep_regrouped st st' rep (record {
  base = e.base;
  arcs = e.arcs;
  neighbors = e.neighbors;
  positions = e.positions;
  unused = e.unused;
  fresh = e.fresh;
  arc_places = e.arc_places;
  old = e.old;
  all = e.all;
})

pub many_nodes : {N E : Type 0} (st : State N E) → length (model st).nodes ≡ length st.nodes
many_nodes st = length-map st.nodes (node_of st.neighbors st.positions)

pub many_arcs : {N E : Type 0} (st : State N E) → length (model st).arcs ≡ length st.arcs
many_arcs st = length-map st.arcs arc_in

module _ {N E : Type 0} (st : State N E) (n : N) (i : NodeIndex) where
  no_room : found (numbered i.value) st.nodes ≡ None → st.node_places ≤ length st.nodes → entered n i st ≡ st
  no_room e h =
      ap (λ o. entered_by o n i st) (value_found i.value st.nodes ∙ ap (option_map value_of) e)
      ∙ ap (with_nodes st) (put_full st.node_places i.value i (lone n) st.nodes e h)

  shown_entered : (st' : State N E) → Entered st n i.value st' → (tests.has (named i.value) (model st).nodes || ltb (length (model st).nodes) st.node_places) ≡ true → model st' ≡ (node_added_at (model st) n i.value).1
  shown_entered st' e t =
      (λ k. record { nodes = e.shown k; arcs = map arc_in (e.arcs k); node_places = e.node_places k; arc_places = e.arc_places k })
      ∙ sym (ap (λ (p : Result N Fault × Model N E). p.1) (cond-true (tests.has (named i.value) (model st).nodes || ltb (length (model st).nodes) st.node_places) (Ok n, with_tables (model st) (joined n i.value (model st).nodes) (model st).arcs) (Err NodesFull, model st) t))

  granted_there : (x : NodeItem N) → found (numbered i.value) st.nodes ≡ Some x → (tests.has (named i.value) (model st).nodes || ltb (length (model st).nodes) st.node_places) ≡ true
  granted_there x e = or_left (tests.has (named i.value) (model st).nodes) (ltb (length (model st).nodes) st.node_places) (has_node st i ∙ found_has (numbered i.value) st.nodes x e)

  granted_room : length st.nodes < st.node_places → (tests.has (named i.value) (model st).nodes || ltb (length (model st).nodes) st.node_places) ≡ true
  granted_room h = or_right (tests.has (named i.value) (model st).nodes) (ltb (length (model st).nodes) st.node_places) (lt-ltb (length (model st).nodes) st.node_places (let m = many_nodes st in omega arith))

  granted_none : found (numbered i.value) st.nodes ≡ None → st.node_places ≤ length st.nodes → (tests.has (named i.value) (model st).nodes || ltb (length (model st).nodes) st.node_places) ≡ false
  granted_none e h = or_from (tests.has (named i.value) (model st).nodes) (ltb (length (model st).nodes) st.node_places) (has_node st i ∙ none_has (numbered i.value) st.nodes e) (le-ltb (length (model st).nodes) st.node_places (let m = many_nodes st in omega arith))

  -- what add_node leaves
  pub record NodeAdded : Type 0 where
    pub rep : Rep (entered n i st)
    pub shown : model (entered n i st) ≡ (node_added_at (model st) n i.value).1

  module _ (rep : Rep st) where
    added_to : Entered st n i.value (entered n i st) → (tests.has (named i.value) (model st).nodes || ltb (length (model st).nodes) st.node_places) ≡ true → NodeAdded
    added_to e t = record { rep = rep_entered st n i.value (entered n i st) rep e; shown = shown_entered (entered n i st) e t }

    added_by : (o : Option (NodeItem N)) → found (numbered i.value) st.nodes ≡ o → NodeAdded
    added_by (Some x) e = added_to (enters st n i (base_of rep) (λ f. absurd (let z : ◌≡◌ {A = ℕ} 0 1 = cc in omega arith))) (granted_there x e)
    added_by None e = ⊎_elim
        (λ (h : length st.nodes < st.node_places). added_to (enters st n i (base_of rep) (λ _. h)) (granted_room h))
        (λ (h : st.node_places ≤ length st.nodes). record {
          rep = subst Rep (sym (no_room e h)) rep;
          shown = ap model (no_room e h) ∙ sym (ap (λ (p : Result N Fault × Model N E). p.1) (cond-false (tests.has (named i.value) (model st).nodes || ltb (length (model st).nodes) st.node_places) (Ok n, with_tables (model st) (joined n i.value (model st).nodes) (model st).arcs) (Err NodesFull, model st) (granted_none e h)));
        })
        (cases_lt (length st.nodes) st.node_places)

    pub node_adds : NodeAdded
    node_adds = added_by (found (numbered i.value) st.nodes) refl

  answer_by : (b : Bool) → (tests.has (named i.value) (model st).nodes || ltb (length (model st).nodes) st.node_places) ≡ b → (node_added_at (model st) n i.value).0 ≡ cond b (Ok n) (Err NodesFull)
  answer_by true t = ap (λ (p : Result N Fault × Model N E). p.0) (cond-true (tests.has (named i.value) (model st).nodes || ltb (length (model st).nodes) st.node_places) (Ok n, with_tables (model st) (joined n i.value (model st).nodes) (model st).arcs) (Err NodesFull, model st) t)
  answer_by false t = ap (λ (p : Result N Fault × Model N E). p.0) (cond-false (tests.has (named i.value) (model st).nodes || ltb (length (model st).nodes) st.node_places) (Ok n, with_tables (model st) (joined n i.value (model st).nodes) (model st).arcs) (Err NodesFull, model st) t)

  pub answer_room : length st.nodes < st.node_places → (node_added_at (model st) n i.value).0 ≡ Ok n
  answer_room h = answer_by true (granted_room h)

  pub answer_full : node_at i.value st ≡ None → st.node_places ≤ length st.nodes → (node_added_at (model st) n i.value).0 ≡ Err NodesFull
  answer_full e h = answer_by false (granted_none (value_none i.value st.nodes e) h)
