-- What each edit comes to, from what it did to the tables.
use Rattle.std.proofs.Common.{◌≡◌, ℕ, ◌+◌, ◌<◌, ◌≤◌, Bool, true, false, cond, ◌||◌, ltb, leb, [], ◌∷◌, ◌++◌, length, Some, None, Ok, Err, Option, Result, sym, refl, ap, ◌∙◌, subst, ⊎_elim, arith}
use Rattle.std.specs.Option.{option_map}
use Rattle.std.proofs.lemmas.Bool.{cases_lt, lt-ltb, le-ltb, le-leb, lt-leb, cond-true, cond-false}
use Rattle.keys.specs.declared.node_index.NodeIndex.{NodeIndex}
use Rattle.fault.specs.declared.Fault.{Fault}
use Rattle.fault.specs.declared.Fault.TheVariants.{NodesFull, ArcsFull}
use Rattle.map_model.specs.Lists.{found, taken}
use Rattle.map_model.specs.Lists as tests
use Rattle.map_model.specs.Model.{named, joined, links_at, all_unlinked, all_taken, Model, weight_of, weight_at, with_tables, both_linked, new_keys, node_added_at, new_edge_added_at, edge_put_at, edge_added_at, edge_removed_at, node_removed_at}
use Rattle.map_model.specs.Sound.{Sound}
use Rattle.map_model.proofs.Running.{leaves_node, leaves_edge, leaves_edge_removed, leaves_node_removed}
use Rattle.map_layout.specs.declared.records.ArcRecord.{ArcRecord}
use Rattle.map_layout.specs.Layout.{State, ArcItem, Rep, numbered, model}
use Rattle.map_layout.specs.Steps.{entered, arc_at, arc_gone}
use Rattle.map_layout.specs.Edits.{Good, ends_number, laid, arc_weighed, refusal, laid_answer, laid_or_same, ArcLaid, ArcPut, unlaid, ArcRemoved}
use Rattle.map_layout.proofs.Items.{value_none, value_some}
use Rattle.map_layout.proofs.Adding.{many_nodes, many_arcs, node_adds}
use Rattle.map_layout.proofs.Laying.{laid_rep, laid_shown}
use Rattle.map_layout.proofs.Weighing.{weighed_rep, weighed_shown}
use Rattle.map_layout.proofs.EdgeRemoving.{arc_found, absent_good, absent_shown, removed_rep, removed_shown}

-- the tables are good after an edit, and stand for the map m
pub record Edited {N E : Type 0} (st' : State N E) (m : Model N E) : Type 0 where
  pub good : Good st'
  pub shown : model st' ≡ m

edited : {N E : Type 0} (st' : State N E) (m : Model N E) → Rep st' → model st' ≡ m → Sound m → Edited st' m
edited st' m r e s = record { good = record { rep = r; sound = subst Sound (sym e) s }; shown = e }

-- ---- a node is added
pub node_added_to : {N E : Type 0} (st : State N E) (n : N) (i : NodeIndex) → Good st → Edited (entered n i st) (node_added_at (model st) n i.value).1
node_added_to st n i good =
    let a = node_adds st n i good.rep in
    edited (entered n i st) (node_added_at (model st) n i.value).1 a.rep a.shown (leaves_node (model st) n i.value good.sound).sound

-- ---- an arc is added
module _ {N E : Type 0} (a b : N) (i j : NodeIndex) (w : E) (st st' : State N E) (r : Result (Option E) Fault) where
  -- the weight that the arc has
  weight_is : (o : Option (ArcItem N E)) → found (numbered (ends_number i j)) st.arcs ≡ o → weight_at i.value j.value (model st).arcs ≡ option_map (λ y. y.value.weight) o
  weight_is None e = ap weight_of (arc_found st i j None e)
  weight_is (Some y) e = ap weight_of (arc_found st i j (Some y) e)

  abbrev granting : Result (Option E) Fault × Model N E
  granting = (Ok None, with_tables (model st) (both_linked a i.value b j.value (model st).nodes) ((model st).arcs ++ record { source = a; source_index = i.value; target = b; target_index = j.value; weight = w } ∷ []))

  -- what a new arc comes to
  module _ (absent : found (numbered (ends_number i j)) st.arcs ≡ None) where
    is_new : edge_added_at (model st) a i.value b j.value w ≡ new_edge_added_at (model st) a i.value b j.value w
    is_new = ap (edge_put_at (model st) a i.value b j.value w) (weight_is None absent)

    keys : ℕ
    keys = new_keys i.value j.value (model st).nodes

    no_node : st.node_places < length st.nodes + new_keys i.value j.value (model st).nodes → edge_added_at (model st) a i.value b j.value w ≡ (Err NodesFull, model st)
    no_node h =
        is_new ∙ cond-false (leb (length (model st).nodes + new_keys i.value j.value (model st).nodes) st.node_places) (cond (ltb (length (model st).arcs) st.arc_places) granting (Err ArcsFull, model st)) (Err NodesFull, model st)
        (lt-leb (length (model st).nodes + new_keys i.value j.value (model st).nodes) st.node_places (let m = many_nodes st in omega arith))

    module _ (room : length st.nodes + new_keys i.value j.value (model st).nodes ≤ st.node_places) where
      has_room : edge_added_at (model st) a i.value b j.value w ≡ cond (ltb (length (model st).arcs) st.arc_places) granting (Err ArcsFull, model st)
      has_room =
          is_new ∙ cond-true (leb (length (model st).nodes + new_keys i.value j.value (model st).nodes) st.node_places) (cond (ltb (length (model st).arcs) st.arc_places) granting (Err ArcsFull, model st)) (Err NodesFull, model st)
          (le-leb (length (model st).nodes + new_keys i.value j.value (model st).nodes) st.node_places (let m = many_nodes st in omega arith))

      no_arc : st.arc_places ≤ length st.arcs → edge_added_at (model st) a i.value b j.value w ≡ (Err ArcsFull, model st)
      no_arc h = has_room ∙ cond-false (ltb (length (model st).arcs) st.arc_places) granting (Err ArcsFull, model st) (le-ltb (length (model st).arcs) st.arc_places (let m = many_arcs st in omega arith))

      grants : length st.arcs < st.arc_places → edge_added_at (model st) a i.value b j.value w ≡ granting
      grants h = has_room ∙ cond-true (ltb (length (model st).arcs) st.arc_places) granting (Err ArcsFull, model st) (lt-ltb (length (model st).arcs) st.arc_places (let m = many_arcs st in omega arith))

  abbrev Answers : Type 0
  Answers = r ≡ (edge_added_at (model st) a i.value b j.value w).0

  -- why it is refused, if it is
  no_node_why : st.node_places < length st.nodes + new_keys i.value j.value (model st).nodes → refusal i j st ≡ Some NodesFull
  no_node_why h = cond-true (ltb st.node_places (length st.nodes + new_keys i.value j.value (model st).nodes)) (Some NodesFull) (cond (leb st.arc_places (length st.arcs)) (Some ArcsFull) None) (lt-ltb st.node_places (length st.nodes + new_keys i.value j.value (model st).nodes) h)

  room_why : length st.nodes + new_keys i.value j.value (model st).nodes ≤ st.node_places → refusal i j st ≡ cond (leb st.arc_places (length st.arcs)) (Some ArcsFull) None
  room_why h = cond-false (ltb st.node_places (length st.nodes + new_keys i.value j.value (model st).nodes)) (Some NodesFull) (cond (leb st.arc_places (length st.arcs)) (Some ArcsFull) None) (le-ltb st.node_places (length st.nodes + new_keys i.value j.value (model st).nodes) h)

  no_arc_why : length st.nodes + new_keys i.value j.value (model st).nodes ≤ st.node_places → st.arc_places ≤ length st.arcs → refusal i j st ≡ Some ArcsFull
  no_arc_why h f = room_why h ∙ cond-true (leb st.arc_places (length st.arcs)) (Some ArcsFull) None (le-leb st.arc_places (length st.arcs) f)

  no_why : length st.nodes + new_keys i.value j.value (model st).nodes ≤ st.node_places → length st.arcs < st.arc_places → refusal i j st ≡ None
  no_why h f = room_why h ∙ cond-false (leb st.arc_places (length st.arcs)) (Some ArcsFull) None (lt-leb st.arc_places (length st.arcs) f)

  answer_laid : found (numbered (ends_number i j)) st.arcs ≡ None → ArcLaid a i b j w st r st' → Answers
  answer_laid e l = l.answer ∙ ⊎_elim
      (λ (h : st.node_places < length st.nodes + new_keys i.value j.value (model st).nodes). ap laid_answer (no_node_why h) ∙ sym (ap (λ (p : Result (Option E) Fault × Model N E). p.0) (no_node e h)))
      (λ (h : length st.nodes + new_keys i.value j.value (model st).nodes ≤ st.node_places). ⊎_elim
      (λ (f : length st.arcs < st.arc_places). ap laid_answer (no_why h f) ∙ sym (ap (λ (p : Result (Option E) Fault × Model N E). p.0) (grants e h f)))
      (λ (f : st.arc_places ≤ length st.arcs). ap laid_answer (no_arc_why h f) ∙ sym (ap (λ (p : Result (Option E) Fault × Model N E). p.0) (no_arc e h f)))
      (cases_lt (length st.arcs) st.arc_places))
      (cases_lt st.node_places (length st.nodes + new_keys i.value j.value (model st).nodes))

  pub edge_answers : ArcPut a i b j w st r st' → Answers
  edge_answers put = go (arc_at (ends_number i j) st) refl
    where
      go : (o : Option (ArcRecord N E)) → arc_at (ends_number i j) st ≡ o → Answers
      go None e = answer_laid (value_none (ends_number i j) st.arcs e) (put.absent e)
      go (Some old) e =
          let s = value_some (ends_number i j) st.arcs old e in
          (put.there old e).0 ∙ ap (λ (v : ArcRecord N E). Ok (Some v.weight)) (sym s.value)
          ∙ sym (ap (λ o. (edge_put_at (model st) a i.value b j.value w o).0) (weight_is (Some s.item) s.there))

  module _ (good : Good st) where
    same : (m : Model N E) → st' ≡ st → m ≡ model st → Edited st' m
    same m e f = record { good = subst Good (sym e) good; shown = ap model e ∙ sym f }

    laid_to : found (numbered (ends_number i j)) st.arcs ≡ None → ArcLaid a i b j w st r st' → Edited st' (edge_added_at (model st) a i.value b j.value w).1
    laid_to e l = ⊎_elim
        (λ (h : st.node_places < length st.nodes + new_keys i.value j.value (model st).nodes). same (edge_added_at (model st) a i.value b j.value w).1 (l.left ∙ ap (λ o. laid_or_same o (laid a i b j w st) st) (no_node_why h)) (ap (λ (p : Result (Option E) Fault × Model N E). p.1) (no_node e h)))
        (λ (h : length st.nodes + new_keys i.value j.value (model st).nodes ≤ st.node_places). ⊎_elim
        (λ (f : length st.arcs < st.arc_places).
        let q = l.left ∙ ap (λ o. laid_or_same o (laid a i b j w st) st) (no_why h f) in
        edited st' (edge_added_at (model st) a i.value b j.value w).1 (subst Rep (sym q) (laid_rep a b i j w st good.rep e h f))
        (ap model q ∙ laid_shown a b i j w st good.rep e h f ∙ sym (ap (λ (p : Result (Option E) Fault × Model N E). p.1) (grants e h f)))
        (leaves_edge (model st) a b i.value j.value w good.sound).sound)
        (λ (f : st.arc_places ≤ length st.arcs). same (edge_added_at (model st) a i.value b j.value w).1 (l.left ∙ ap (λ o. laid_or_same o (laid a i b j w st) st) (no_arc_why h f)) (ap (λ (p : Result (Option E) Fault × Model N E). p.1) (no_arc e h f)))
        (cases_lt (length st.arcs) st.arc_places))
        (cases_lt st.node_places (length st.nodes + new_keys i.value j.value (model st).nodes))

    pub edge_added_to : ArcPut a i b j w st r st' → Edited st' (edge_added_at (model st) a i.value b j.value w).1
    edge_added_to put = go (arc_at (ends_number i j) st) refl
      where
        go : (o : Option (ArcRecord N E)) → arc_at (ends_number i j) st ≡ o → Edited st' (edge_added_at (model st) a i.value b j.value w).1
        go None e = laid_to (value_none (ends_number i j) st.arcs e) (put.absent e)
        go (Some old) e =
            let s = value_some (ends_number i j) st.arcs old e in
            let q : st' ≡ arc_weighed i j w s.item.value st = (put.there old e).1 ∙ ap (λ (v : ArcRecord N E). arc_weighed i j w v st) (sym s.value) in
            edited st' (edge_added_at (model st) a i.value b j.value w).1 (subst Rep (sym q) (weighed_rep st good i j w s.item s.there))
            (ap model q ∙ weighed_shown st good i j w s.item s.there a b) (leaves_edge (model st) a b i.value j.value w good.sound).sound

-- ---- an arc is removed
module _ {N E : Type 0} (i j : NodeIndex) (st st' : State N E) (r : Option E) (out : ArcRemoved i j st r st') where
  pub removal_answers : r ≡ (edge_removed_at (model st) i.value j.value).0
  removal_answers = go (arc_at (ends_number i j) st) refl
    where
      go : (o : Option (ArcRecord N E)) → arc_at (ends_number i j) st ≡ o → r ≡ (edge_removed_at (model st) i.value j.value).0
      go None e = (out.absent e).0 ∙ sym (ap weight_of (arc_found st i j None (value_none (ends_number i j) st.arcs e)))
      go (Some old) e =
          let s = value_some (ends_number i j) st.arcs old e in
          (out.there old e).0 ∙ ap (λ (v : ArcRecord N E). Some v.weight) (sym s.value) ∙ sym (ap weight_of (arc_found st i j (Some s.item) s.there))

  pub edge_removed_to : Good st → Edited st' (edge_removed_at (model st) i.value j.value).1
  edge_removed_to good = go (arc_at (ends_number i j) st) refl
    where
      sound : Sound (edge_removed_at (model st) i.value j.value).1
      sound = (leaves_edge_removed (model st) i.value j.value good.sound).sound

      go : (o : Option (ArcRecord N E)) → arc_at (ends_number i j) st ≡ o → Edited st' (edge_removed_at (model st) i.value j.value).1
      go None e =
          let f = value_none (ends_number i j) st.arcs e in
          let q = (out.absent e).1 in
          edited st' (edge_removed_at (model st) i.value j.value).1 (subst Rep (sym q) (absent_good st i j good f).rep) (ap model q ∙ absent_shown st i j good f) sound
      go (Some old) e =
          let s = value_some (ends_number i j) st.arcs old e in
          let q : st' ≡ unlaid i j s.item.value.place (arc_gone (ends_number i j) st) = (out.there old e).1 ∙ ap (λ (v : ArcRecord N E). unlaid i j v.place (arc_gone (ends_number i j) st)) (sym s.value) in
          edited st' (edge_removed_at (model st) i.value j.value).1 (subst Rep (sym q) (removed_rep st i j good s.item s.there)) (ap model q ∙ removed_shown st i j good s.item s.there) sound

-- ---- a node is removed
pub node_removed_to : {N E : Type 0} (i : ℕ) (st st' : State N E) → Good st → Rep st' → model st' ≡ (node_removed_at (model st) i).1 → Edited st' (node_removed_at (model st) i).1
node_removed_to i st st' good r e = edited st' (node_removed_at (model st) i).1 r e (leaves_node_removed (model st) i good.sound).sound

-- ---- the places stay
either_places : {A N E : Type 0} (t : Bool) (x y : A × Model N E) (k : ℕ) → x.1.arc_places ≡ k → y.1.arc_places ≡ k → (cond t x y).1.arc_places ≡ k
either_places true x y k e f = e
either_places false x y k e f = f

module _ {N E : Type 0} (m : Model N E) where
  pub places_node_added : (n : N) (i : ℕ) → (node_added_at m n i).1.arc_places ≡ m.arc_places
  places_node_added n i = either_places (tests.has (named i) m.nodes || ltb (length m.nodes) m.node_places) (Ok n, with_tables m (joined n i m.nodes) m.arcs) (Err NodesFull, m) m.arc_places refl refl

  pub places_edge_added : (a b : N) (i j : ℕ) (w : E) → (edge_added_at m a i b j w).1.arc_places ≡ m.arc_places
  places_edge_added a b i j w = go (weight_at i j m.arcs)
    where
      go : (o : Option E) → (edge_put_at m a i b j w o).1.arc_places ≡ m.arc_places
      go (Some v) = refl
      go None =
          let new : Result (Option E) Fault × Model N E = (Ok None, with_tables m (both_linked a i b j m.nodes) (m.arcs ++ record { source = a; source_index = i; target = b; target_index = j; weight = w } ∷ [])) in
          either_places (leb (length m.nodes + new_keys i j m.nodes) m.node_places) (cond (ltb (length m.arcs) m.arc_places) new (Err ArcsFull, m)) (Err NodesFull, m) m.arc_places
          (either_places (ltb (length m.arcs) m.arc_places) new (Err ArcsFull, m) m.arc_places refl refl) refl

  pub places_node_removed : (i : ℕ) → (node_removed_at m i).1.arc_places ≡ m.arc_places
  places_node_removed i = either_places (tests.has (named i) m.nodes) (true, with_tables m (all_unlinked i (links_at i m.nodes) (taken (named i) m.nodes)) (all_taken i (links_at i m.nodes) m.arcs)) (false, m) m.arc_places refl refl
