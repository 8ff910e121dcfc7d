-- A node comes in where it is new, and gets a link.
use Rattle.std.proofs.Common.{◌≡◌, ℕ, suc, ◌<◌, Bool, true, false, cond, ◌||◌, ◌≢◌, ◌⊎◌, List, [], ◌∷◌, ◌++◌, reverse, length, set, Some, None, Option, unwrap_or, sym, refl, ap, ◌∙◌, subst, inl, inr, ⊎_elim, arith}
use Rattle.std.specs.Option.{option_map}
use Rattle.std.proofs.lemmas.List.{map_push}
use Rattle.std.proofs.lemmas.Bool.{cases_eq, both_ways, eq-eqb, ne_eqb, cond-true, cond-false}
use Rattle.linked_list.specs.Chains.{has, last, entries_of, can_push, after_push}
use Rattle.linked_list.proofs.Linking.{holds_read, holds_none}
use Rattle.keys.specs.declared.node_index.NodeIndex.{NodeIndex}
use Rattle.keyed_table.specs.Listing.{with_value}
use Rattle.map_model.specs.Lists.{one, count, found, changed}
use Rattle.map_model.specs.Lists as tests
use Rattle.map_model.specs.Model.{named, relinked, joined, linked}
use Rattle.map_model.proofs.Searching.{count_push, none_counts, found_push_new}
use Rattle.map_layout.specs.declared.records.NodeRecord.{NodeRecord}
use Rattle.map_layout.specs.declared.records.IndexedKey.{IndexedKey}
use Rattle.map_layout.specs.Layout.{State, NodeItem, Among, numbered, of_unused, of_node, Idle, Lists, Linked, places_of, direction_at, link_to, links_in, node_of, model}
use Rattle.map_layout.specs.Steps.{with_links, with_nodes, lone, node_at, entered, entered_by, linked_to, linked_at}
use Rattle.map_layout.proofs.Members.{among_left, among_push}
use Rattle.map_layout.proofs.Mapping.{has_map}
use Rattle.map_layout.proofs.Items.{value_found, value_of, put_old, put_new}
use Rattle.map_layout.proofs.Holding.{held_less}
use Rattle.map_layout.proofs.Stepping.{Base}
use Rattle.map_layout.proofs.Attaching.{Same, Attached, attaches}

-- ---- searching
pub found_has : {X : Type 0} (p : X → Bool) (l : List X) (x : X) → found p l ≡ Some x → tests.has p l ≡ true
found_has p [] x e = absurd (let z : ◌≡◌ {A = ℕ} 0 1 = cc in omega arith)
found_has p (y ∷ l) x e =
    elim (p y) as (λ b. cond b (Some y) (found p l) ≡ Some x → (b || tests.has p l) ≡ true)
    [ true ↦ λ h. refl | false ↦ λ h. found_has p l x h ] e

pub none_has : {X : Type 0} (p : X → Bool) (l : List X) → found p l ≡ None → tests.has p l ≡ false
none_has p [] e = refl
none_has p (y ∷ l) e =
    elim (p y) as (λ b. cond b (Some y) (found p l) ≡ None → (b || tests.has p l) ≡ false)
    [ true ↦ λ h. absurd (let z : ◌≡◌ {A = ℕ} 0 1 = cc in omega arith) | false ↦ λ h. none_has p l h ] e

changed_push : {X : Type 0} (p : X → Bool) (f : X → X) (l : List X) (y : X) → found p l ≡ None → p y ≡ true → changed p f (l ++ y ∷ []) ≡ l ++ f y ∷ []
changed_push p f [] y e h = cond-true (p y) (f y ∷ []) (y ∷ []) h
changed_push p f (z ∷ l) y e h =
    elim (p z) as (λ b. cond b (Some z) (found p l) ≡ None → cond b (f z ∷ (l ++ y ∷ [])) (z ∷ changed p f (l ++ y ∷ [])) ≡ z ∷ (l ++ f y ∷ []))
    [ true ↦ λ k. absurd (let w : ◌≡◌ {A = ℕ} 0 1 = cc in omega arith) | false ↦ λ k. ap (λ v. z ∷ v) (changed_push p f l y k h) ] e

abbrev pub new_item : {N : Type 0} → N → NodeIndex → NodeItem N
new_item n i = record { number = i.value; key = i; value = lone n }

-- ---- a node comes in
pub record Entered {N E : Type 0} (st : State N E) (n : N) (i : ℕ) (st' : State N E) : Type 0 where
  pub base : Base st'
  pub arcs : st'.arcs ≡ st.arcs
  pub neighbors : st'.neighbors ≡ st.neighbors
  pub positions : st'.positions ≡ st.positions
  pub unused : st'.unused ≡ st.unused
  pub fresh : st'.fresh ≡ st.fresh
  pub node_places : st'.node_places ≡ st.node_places
  pub arc_places : st'.arc_places ≡ st.arc_places
  pub item : NodeItem N
  pub there : found (numbered i) st'.nodes ≡ Some item
  pub shown : (model st').nodes ≡ joined n i (model st).nodes
  pub old : (j q : ℕ) → Linked st j q → Linked st' j q
  pub all : (j q : ℕ) → Linked st' j q → Linked st j q

module _ {N E : Type 0} (st : State N E) (i : NodeIndex) where
  pub has_node : tests.has (named i.value) (model st).nodes ≡ tests.has (numbered i.value) st.nodes
  has_node = has_map (numbered i.value) (named i.value) (node_of st.neighbors st.positions) (λ _. refl) st.nodes

module _ {N E : Type 0} (st : State N E) (n : N) (i : NodeIndex) (base : Base st) where
  node_found : (o : Option (NodeItem N)) → found (numbered i.value) st.nodes ≡ o → node_at i.value st ≡ option_map value_of o
  node_found o e = value_found i.value st.nodes ∙ ap (option_map value_of) e

  stays : (x : NodeItem N) → found (numbered i.value) st.nodes ≡ Some x → Entered st n i.value st
  stays x e = record {
    base = base;
    arcs = refl;
    neighbors = refl;
    positions = refl;
    unused = refl;
    fresh = refl;
    node_places = refl;
    arc_places = refl;
    item = x;
    there = e;
    shown = sym (cond-true (tests.has (named i.value) (model st).nodes) (model st).nodes ((model st).nodes ++ record { key = n; index = i.value; links = [] } ∷ []) (has_node st i ∙ found_has (numbered i.value) st.nodes x e));
    old = λ j q k. k;
    all = λ j q k. k;
  }

  module _ (e : found (numbered i.value) st.nodes ≡ None) where
    abbrev after : State N E
    after = with_nodes st (st.nodes ++ new_item n i ∷ [])

    back : (j : ℕ) (v : Option ℕ) → Lists after j v → Lists st j v ⊎ (v ≡ None)
    back j v (of_unused f g) = inl (of_unused f g)
    back j v (of_node x a f g) = ⊎_elim
        (λ (s : Among x st.nodes). inl (of_node x s f g))
        (λ (s : x ≡ new_item n i). inr (g ∙ ap (λ (z : NodeItem N). z.value.newest) s))
        (among_push st.nodes (new_item n i) x a)

    on : (j : ℕ) (v : Option ℕ) → Lists st j v → Lists after j v
    on j v (of_unused f g) = of_unused f g
    on j v (of_node x a f g) = of_node x (among_left st.nodes (new_item n i ∷ []) x a) f g

    none_read : entries_of st.positions None ≡ []
    none_read = holds_read st.positions None [] (holds_none st.positions)

    comes_in : Entered st n i.value after
    comes_in = record {
      base = record {
        one_item = λ j.
            let c = count_push (numbered j) st.nodes (new_item n i) in
            let d = base.one_item j in
            ⊎_elim
            (λ (q : i.value ≡ j).
            let z : count (numbered j) st.nodes ≡ 0 = subst (λ v. count (numbered v) st.nodes ≡ 0) q (none_counts (numbered i.value) st.nodes e) in
            let w = ap one (eq-eqb i.value j q) in omega arith)
            (λ (q : i.value ≢ j). let w = ap one (ne_eqb i.value j q) in omega arith)
            (cases_eq i.value j);
        held = held_less (Lists st) (Lists after) st.positions base.held back;
        oldest = λ x a. ⊎_elim
            (λ (s : Among x st.nodes). base.oldest x s)
            (λ (s : x ≡ new_item n i). ap (λ (z : NodeItem N). z.value.oldest) s ∙ ap last (sym none_read) ∙ ap (λ (z : NodeItem N). last (places_of st.positions z)) (sym s))
            (among_push st.nodes (new_item n i) x a);
        level = base.level;
      };
      arcs = refl;
      neighbors = refl;
      positions = refl;
      unused = refl;
      fresh = refl;
      node_places = refl;
      arc_places = refl;
      item = new_item n i;
      there = found_push_new (numbered i.value) st.nodes (new_item n i) (eq-eqb i.value i.value refl) e;
      shown =
          map_push (node_of st.neighbors st.positions) st.nodes (new_item n i)
          ∙ ap (λ z. (model st).nodes ++ record { key = n; index = i.value; links = reverse (links_in st.neighbors z) } ∷ []) none_read
          ∙ sym (cond-false (tests.has (named i.value) (model st).nodes) (model st).nodes ((model st).nodes ++ record { key = n; index = i.value; links = [] } ∷ []) (has_node st i ∙ none_has (numbered i.value) st.nodes e));
      old = λ j q k. record { start = k.start; begins = on (suc j) k.start k.begins; has_it = k.has_it };
      all = λ j q k. ⊎_elim
          (λ (s : Lists st (suc j) k.start). record { start = k.start; begins = s; has_it = k.has_it })
          (λ (s : k.start ≡ None). absurd (let h = k.has_it in let r = none_read in let u : has (entries_of st.positions k.start) q ≡ false = ap (λ z. has (entries_of st.positions z) q) s ∙ ap (λ z. has z q) r in both_ways (has (entries_of st.positions k.start) q) u h))
          (back (suc j) k.start k.begins);
    }

    is_after : length st.nodes < st.node_places → entered n i st ≡ after
    is_after room = ap (λ o. entered_by o n i st) (node_found None e) ∙ ap (with_nodes st) (put_new st.node_places i.value i (lone n) st.nodes e room)

    -- a link in one go
    link_new : (p : ℕ) (o : IndexedKey N) → length st.nodes < st.node_places → linked_at n i p o st ≡ linked_to (lone n) i p o after
    link_new p o room =
        let v : NodeRecord N = record { key = n; newest = cond (can_push st.positions None p) (Some p) None; oldest = Some p } in
        ap (λ z. linked_to (unwrap_or z (lone n)) i p o st) (node_found None e)
        ∙ ap (λ ns. with_links st ns (set st.neighbors p (Some o)) (cond (can_push st.positions None p) (after_push st.positions None p) st.positions))
        (put_new st.node_places i.value i v st.nodes e room
        ∙ sym (put_old st.node_places i.value i v (st.nodes ++ new_item n i ∷ []) (new_item n i) (found_push_new (numbered i.value) st.nodes (new_item n i) (eq-eqb i.value i.value refl) e)
        ∙ changed_push (numbered i.value) (with_value v) st.nodes (new_item n i) e (eq-eqb i.value i.value refl)))

  abbrev Room : Type 0
  Room = found (numbered i.value) st.nodes ≡ None → length st.nodes < st.node_places

  enter_by : (o : Option (NodeItem N)) → found (numbered i.value) st.nodes ≡ o → Room → Entered st n i.value (entered n i st)
  enter_by None e room = subst (Entered st n i.value) (sym (is_after e (room e))) (comes_in e)
  enter_by (Some x) e room = subst (Entered st n i.value) (sym (ap (λ o. entered_by o n i st) (node_found (Some x) e))) (stays x e)

  pub enters : Room → Entered st n i.value (entered n i st)
  enters room = enter_by (found (numbered i.value) st.nodes) refl room

  -- ---- and gets a link
  pub record Joined (p : ℕ) (o : IndexedKey N) (st' : State N E) : Type 0 where
    pub same : Same st st'
    pub neighbors : st'.neighbors ≡ set st.neighbors p (Some o)
    pub shown : (model st').nodes ≡ linked n i.value o.key o.index.value (direction_at p) (model st).nodes
    pub old : (j q : ℕ) → Linked st j q → Linked st' j q
    pub new : Linked st' i.value p
    pub all : (j q : ℕ) → Linked st' j q → Linked st j q ⊎ ((j ≡ i.value) × (q ≡ p))
    pub idle : (q : ℕ) → q ≢ p → Idle st.positions q → Idle st'.positions q

  joined_up : (p : ℕ) (o : IndexedKey N) (st1 st2 : State N E) → Entered st n i.value st1 → Attached st1 i.value p o st2 → Joined p o st2
  joined_up p o st1 st2 a b = record {
    same = record {
      base = b.same.base;
      arcs = b.same.arcs ∙ a.arcs;
      unused = b.same.unused ∙ ap (λ z. entries_of z st1.unused) a.positions ∙ ap (entries_of st.positions) a.unused;
      fresh = b.same.fresh ∙ a.fresh;
      node_places = b.same.node_places ∙ a.node_places;
      arc_places = b.same.arc_places ∙ a.arc_places;
      size = b.same.size ∙ ap length a.positions;
    };
    neighbors = b.neighbors ∙ ap (λ z. set z p (Some o)) a.neighbors;
    shown = b.shown ∙ ap (changed (named i.value) (relinked (λ l. l ++ link_to p o ∷ []))) a.shown;
    old = λ j q k. b.old j q (a.old j q k);
    new = b.new;
    all = λ j q k. ⊎_elim (λ (s : Linked st1 j q). inl (a.all j q s)) (λ (s : (j ≡ i.value) × (q ≡ p)). inr s) (b.all j q k);
    idle = λ q ne k. b.idle q ne (subst (λ z. Idle z q) (sym a.positions) k);
  }

  join_by : (p : ℕ) (o : IndexedKey N) (f : Option (NodeItem N)) → found (numbered i.value) st.nodes ≡ f → Room → Idle st.positions p → p < length st.positions → Joined p o (linked_at n i p o st)
  join_by p o None e room free fits =
      subst (Joined p o) (sym (link_new e p o (room e)))
      (joined_up p o (after e) (linked_to (lone n) i p o (after e)) (comes_in e)
      (attaches (after e) i p o (new_item n i) (comes_in e).base (found_push_new (numbered i.value) st.nodes (new_item n i) (eq-eqb i.value i.value refl) e) free fits))
  join_by p o (Some x) e room free fits =
      subst (Joined p o) (sym (ap (λ z. linked_to (unwrap_or z (lone n)) i p o st) (node_found (Some x) e)))
      (joined_up p o st (linked_to x.value i p o st) (stays x e) (attaches st i p o x base e free fits))

  pub joins : (p : ℕ) (o : IndexedKey N) → Room → Idle st.positions p → p < length st.positions → Joined p o (linked_at n i p o st)
  joins p o = join_by p o (found (numbered i.value) st.nodes) refl
