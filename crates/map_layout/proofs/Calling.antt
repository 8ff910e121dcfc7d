-- What the calls of a keyed table say of the state.
use Rattle.std.proofs.Common.{◌≡◌, ℕ, ◌+◌, Bool, true, false, cond, not, ◌||◌, eqb, ltb, List, length, is_some, Some, None, Ok, Err, Option, Result, sym, refl, ap, ◌∙◌, arith}
use Rattle.std.proofs.lemmas.Bool.{true≢false}
use Rattle.std.specs.Int.{from_bool}
use Rattle.std.specs.Option.{option_map}
use Rattle.std.specs.Result.{is_ok}
use Rattle.fault.specs.declared.Fault.{Fault}
use Rattle.fault.specs.declared.Fault.TheVariants.{NodesFull}
use Rattle.keys.specs.declared.node_index.NodeIndex.{NodeIndex}
use Rattle.keyed_table.specs.declared.slots.Item.{Item}
use Rattle.keyed_table.specs.declared.slots.Full.{Full}
use Rattle.keyed_table.specs.Listing.{has, value_at, answered, insert_answer}
use Rattle.map_model.specs.Lists as tests
use Rattle.map_model.specs.Lists.{found}
use Rattle.map_model.specs.Model.{Model, named, between, new_keys, joined, with_tables, node_added_at}
use Rattle.map_layout.specs.declared.records.NodeRecord.{NodeRecord}
use Rattle.map_layout.specs.Layout.{State, NodeItem, numbered, arc_in, model}
use Rattle.map_layout.specs.Edits.{ends_number}
use Rattle.map_layout.specs.Steps.{with_nodes, lone, node_at, node_put, entered, entered_by}
use Rattle.map_layout.proofs.Items.{has_item, value_of, value_found}
use Rattle.map_layout.proofs.Mapping.{has_map}
use Rattle.map_layout.proofs.Pairs.{between_number}
use Rattle.map_layout.proofs.Adding.{many_nodes}
use Rattle.map_layout.proofs.Entering.{has_node, found_has, none_has}

-- whether an insertion of what is not there finds room
module _ {K V : Type 0} (r k : ℕ) (l : List (Item K V)) (absent : value_at k l ≡ None) where
  pub has_room : (q : Result (Option V) Full) → q ≡ insert_answer r k l → is_ok q ≡ ltb (length l) r
  has_room q e = ap is_ok (e ∙ ap (λ o. answered o (ltb (length l) r)) absent) ∙ go (ltb (length l) r)
    where
      go : (b : Bool) → is_ok {T = Option V} (answered None b) ≡ b
      go true = refl
      go false = refl

-- whether a node is there
module _ {N E : Type 0} (st : State N E) (i : NodeIndex) where
  node_by : (o : Option (NodeItem N)) → found (numbered i.value) st.nodes ≡ o → has i.value st.nodes ≡ is_some (node_at i.value st)
  node_by None e = has_item i.value st.nodes ∙ none_has (numbered i.value) st.nodes e ∙ sym (ap is_some (value_found i.value st.nodes ∙ ap (option_map value_of) e))
  node_by (Some x) e = has_item i.value st.nodes ∙ found_has (numbered i.value) st.nodes x e ∙ sym (ap is_some (value_found i.value st.nodes ∙ ap (option_map value_of) e))

  node_there : has i.value st.nodes ≡ is_some (node_at i.value st)
  node_there = node_by (found (numbered i.value) st.nodes) refl

  nothing : (o : Option (NodeRecord N)) → is_some o ≡ false → o ≡ None
  nothing None e = refl
  nothing (Some r) e = absurd (true≢false e)

  pub absent_at : has i.value st.nodes ≡ false → node_at i.value st ≡ None
  absent_at e = nothing (node_at i.value st) (sym node_there ∙ e)

module _ {N E : Type 0} (st : State N E) (n : N) (i : NodeIndex) where
  entered_by_test : (o : Option (NodeRecord N)) → cond (is_some o) st (with_nodes st (node_put i (lone n) st)) ≡ entered_by o n i st
  entered_by_test None = refl
  entered_by_test (Some r) = refl

  entered_is : cond (has i.value st.nodes) st (with_nodes st (node_put i (lone n) st)) ≡ entered n i st
  entered_is = ap (λ b. cond b st (with_nodes st (node_put i (lone n) st))) (node_there st i) ∙ entered_by_test (node_at i.value st)

  pub entered_there : has i.value st.nodes ≡ true → st ≡ entered n i st
  entered_there e = ap (λ b. cond b st (with_nodes st (node_put i (lone n) st))) (sym e) ∙ entered_is

  pub entered_new : has i.value st.nodes ≡ false → with_nodes st (node_put i (lone n) st) ≡ entered n i st
  entered_new e = ap (λ b. cond b st (with_nodes st (node_put i (lone n) st))) (sym e) ∙ entered_is

  granted : (has i.value st.nodes || ltb (length st.nodes) st.node_places) ≡ (tests.has (named i.value) (model st).nodes || ltb (length (model st).nodes) st.node_places)
  granted = (λ x. has_item i.value st.nodes x || ltb (length st.nodes) st.node_places) ∙ (λ x. sym (has_node st i) x || ltb (sym (many_nodes st) x) st.node_places)

  answer_by : (b : Bool) → cond b (Ok n) (Err NodesFull) ≡ (cond {A = Result N Fault × Model N E} b (Ok n, with_tables (model st) (joined n i.value (model st).nodes) (model st).arcs) (Err NodesFull, model st)).0
  answer_by true = refl
  answer_by false = refl

  answer_is : cond (has i.value st.nodes || ltb (length st.nodes) st.node_places) (Ok n) (Err NodesFull) ≡ (node_added_at (model st) n i.value).0
  answer_is = ap (λ b. cond b (Ok n) (Err NodesFull)) granted ∙ answer_by (tests.has (named i.value) (model st).nodes || ltb (length (model st).nodes) st.node_places)

  pub answer_there : has i.value st.nodes ≡ true → Ok n ≡ (node_added_at (model st) n i.value).0
  answer_there e = ap (λ b. cond (b || ltb (length st.nodes) st.node_places) (Ok n) (Err NodesFull)) (sym e) ∙ answer_is

  pub answer_new : (b : Bool) → has i.value st.nodes ≡ false → b ≡ ltb (length st.nodes) st.node_places → cond b (Ok n) (Err NodesFull) ≡ (node_added_at (model st) n i.value).0
  answer_new b e f = ap (λ z. cond z (Ok n) (Err NodesFull)) f ∙ ap (λ z. cond (z || ltb (length st.nodes) st.node_places) (Ok n) (Err NodesFull)) (sym e) ∙ answer_is

-- whether an arc is there
pub has_arc : {N E : Type 0} (st : State N E) (i j : NodeIndex) → has (ends_number i j) st.arcs ≡ tests.has (between i.value j.value) (model st).arcs
has_arc st i j = has_item (ends_number i j) st.arcs ∙ sym (has_map (numbered (ends_number i j)) (between i.value j.value) arc_in (λ y. between_number i.value j.value j.small y) st.arcs)

-- how many keys are new
module _ {N E : Type 0} (st : State N E) where
  pub has_key : (i : NodeIndex) → has i.value st.nodes ≡ tests.has (named i.value) (model st).nodes
  has_key i = has_item i.value st.nodes ∙ sym (has_node st i)

  new : (i : NodeIndex) (b : Bool) → b ≡ has i.value st.nodes → from_bool (not b) ≡ cond (tests.has (named i.value) (model st).nodes) 0 1
  new i true e = ap (λ z. cond z 0 1) (e ∙ has_key i)
  new i false e = ap (λ z. cond z 0 1) (e ∙ has_key i)

  -- b and c: whether the ends are there. A loop has one end
  pub loop_keys : (i j : NodeIndex) (b : Bool) (x : ℕ) → eqb i.value j.value ≡ true → b ≡ has i.value st.nodes → x ≡ from_bool (not b) → x ≡ new_keys i.value j.value (model st).nodes
  loop_keys i j b x e f g =
      let z : ◌≡◌ {A = ℕ} (cond (eqb i.value j.value || tests.has (named j.value) (model st).nodes) 0 1) 0 = ap (λ t. cond (t || tests.has (named j.value) (model st).nodes) 0 1) e in
      let n = new i b f in
      omega arith

  pub two_keys : (i j : NodeIndex) (b c : Bool) (x y : ℕ) → eqb i.value j.value ≡ false → b ≡ has i.value st.nodes → c ≡ has j.value st.nodes → x ≡ from_bool (not b) → y ≡ from_bool (not c)
      → x + y ≡ new_keys i.value j.value (model st).nodes
  two_keys i j b c x y e f g h k =
      let z : ◌≡◌ {A = ℕ} (cond (eqb i.value j.value || tests.has (named j.value) (model st).nodes) 0 1) (cond (tests.has (named j.value) (model st).nodes) 0 1) = ap (λ t. cond (t || tests.has (named j.value) (model st).nodes) 0 1) e in
      let m = new i b f in
      let n = new j c g in
      omega arith
