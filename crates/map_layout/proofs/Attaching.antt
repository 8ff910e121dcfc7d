-- One more link at a node.
use Rattle.std.specs.Option.{option_or}
use Rattle.std.proofs.Common.{◌≡◌, ℕ, suc, ◌<◌, true, false, cond, not, ltb, ◌≢◌, ◌⊎◌, List, [], ◌∷◌, ◌++◌, length, set, Some, None, sym, refl, ap, ◌∙◌, subst, inl, inr, ⊎_elim, arith}
use Rattle.std.proofs.lemmas.List.{length-set, get_or-set_other}
use Rattle.std.proofs.lemmas.Bool.{cases_eq, lt-ltb, and_from, not_from_false}
use Rattle.linked_list.specs.Places.{Position}
use Rattle.linked_list.specs.Places.{is_in, at}
use Rattle.linked_list.specs.Chains.{has, last, Holds, entries_of, can_push, after_push}
use Rattle.linked_list.proofs.Members.{has_head, has_tail}
use Rattle.linked_list.proofs.Linking.{free_is, free_not_in}
use Rattle.linked_list.proofs.Pushing.{Pushed, push_granted, pushes}
use Rattle.keys.specs.declared.node_index.NodeIndex.{NodeIndex}
use Rattle.map_model.specs.Lists.{found, changed}
use Rattle.map_model.specs.Model.{named, relinked}
use Rattle.map_layout.specs.declared.records.NodeRecord.{NodeRecord}
use Rattle.map_layout.specs.declared.records.IndexedKey.{IndexedKey}
use Rattle.map_layout.specs.Layout.{State, NodeItem, numbered, Idle, Lists, Linked, places_of, link_to, model}
use Rattle.map_layout.specs.Steps.{with_links, node_put, linked_to}
use Rattle.map_layout.proofs.Items.{put_old}
use Rattle.map_layout.proofs.Links.{links_push}
use Rattle.map_layout.proofs.Places.{has_cons, last_cons}
use Rattle.map_layout.proofs.Holding.{idle_unowned}
use Rattle.map_layout.proofs.Stepping.{Base, Change, restated, x_among, begun, linked_of, of_linked, base_after, unused_after, linked_here, linked_other, here_linked, other_linked, shown_after}

-- what a step on the links of one node leaves as it was
pub record Same {N E : Type 0} (st st' : State N E) : Type 0 where
  pub base : Base st'
  pub arcs : st'.arcs ≡ st.arcs
  pub unused : entries_of st'.positions st'.unused ≡ entries_of st.positions st.unused
  pub fresh : st'.fresh ≡ st.fresh
  pub node_places : st'.node_places ≡ st.node_places
  pub arc_places : st'.arc_places ≡ st.arc_places
  pub size : length st'.positions ≡ length st.positions

pub record Attached {N E : Type 0} (st : State N E) (i p : ℕ) (o : IndexedKey N) (st' : State N E) : Type 0 where
  pub same : Same st st'
  pub neighbors : st'.neighbors ≡ set st.neighbors p (Some o)
  pub shown : (model st').nodes ≡ changed (named i) (relinked (λ l. l ++ link_to p o ∷ [])) (model st).nodes
  pub old : (j q : ℕ) → Linked st j q → Linked st' j q
  pub new : Linked st' i p
  pub all : (j q : ℕ) → Linked st' j q → Linked st j q ⊎ ((j ≡ i) × (q ≡ p))
  pub idle : (q : ℕ) → q ≢ p → Idle st.positions q → Idle st'.positions q

-- whether other places are in a list stays
pub idle_stays : (L M : List Position) (p : ℕ) → ((j : ℕ) → (j ≡ p → ⊥) → is_in (at M j) ≡ is_in (at L j)) → (q : ℕ) → q ≢ p → Idle L q → Idle M q
idle_stays L M p h q n e = free_is (at M q) (h q n ∙ ap is_in e)

module _ {N E : Type 0} (st : State N E) (i : NodeIndex) (p : ℕ) (o : IndexedKey N) (x : NodeItem N)
    (base : Base st) (there : found (numbered i.value) st.nodes ≡ Some x) (free : Idle st.positions p) (fits : p < length st.positions) where
  held_here : Holds st.positions x.value.newest (places_of st.positions x)
  held_here = base.held.each (suc i.value) x.value.newest (begun st i.value x base there)

  granted : can_push st.positions x.value.newest p ≡ true
  granted =
      push_granted st.positions x.value.newest (places_of st.positions x) p held_here
      ∙ and_from (ltb p (length st.positions)) (not (is_in (at st.positions p))) (lt-ltb p (length st.positions) fits) (not_from_false (is_in (at st.positions p)) (ap is_in free))

  put : Pushed st.positions x.value.newest p (after_push st.positions x.value.newest p)
  put = pushes st.positions (after_push st.positions x.value.newest p) x.value.newest p granted refl

  not_there : has (places_of st.positions x) p ≡ false
  not_there = free_not_in st.positions None (places_of st.positions x) p held_here.linked free

  abbrev grown : NodeRecord N
  grown = record { key = x.value.key; newest = Some p; oldest = option_or x.value.oldest (Some p) }

  abbrev result : State N E
  result = restated st i.value grown (set st.neighbors p (Some o)) (after_push st.positions x.value.newest p)

  is_result : linked_to x.value i p o st ≡ result
  is_result =
      ap (λ g. with_links st (node_put i (record { key = x.value.key; newest = cond g (Some p) x.value.newest; oldest = option_or x.value.oldest (Some p) }) st) (set st.neighbors p (Some o)) (cond g (after_push st.positions x.value.newest p) st.positions)) granted
      ∙ ap (λ ns. with_links st ns (set st.neighbors p (Some o)) (after_push st.positions x.value.newest p)) (put_old st.node_places i.value i grown st.nodes x there)

  now_holds : Holds (after_push st.positions x.value.newest p) (Some p) (p ∷ places_of st.positions x)
  now_holds = put.listed (places_of st.positions x) held_here

  begins_at : (y : ℕ) → Some p ≡ Some y → Idle st.positions y ⊎ (has (places_of st.positions x) y ≡ true)
  begins_at y e = let q : p ≡ y = cc in inl (subst (Idle st.positions) q free)

  ends_at : option_or x.value.oldest (Some p) ≡ last (p ∷ places_of st.positions x)
  ends_at = ap (λ z. option_or z (Some p)) (base.oldest x (x_among st i.value x base there)) ∙ sym (last_cons p (places_of st.positions x))

  level_after : length (set st.neighbors p (Some o)) ≡ length (after_push st.positions x.value.newest p)
  level_after = length-set st.neighbors p (Some o) ∙ base.level ∙ sym put.size

  change : Change st x grown (set st.neighbors p (Some o)) (after_push st.positions x.value.newest p) (p ∷ places_of st.positions x)
  change = record { holds = now_holds; others = put.others; head = begins_at; ends = ends_at; level = level_after }

  attached : Attached st i.value p o result
  attached = record {
    same = record {
      base = base_after i.value base there change;
      arcs = refl;
      unused = unused_after i.value base there change;
      fresh = refl;
      node_places = refl;
      arc_places = refl;
      size = put.size;
    };
    neighbors = refl;
    shown = shown_after i.value base there change
        (λ l. l ++ link_to p o ∷ [])
        (λ j q n k. get_or-set_other st.neighbors p q (Some o) None (λ e. idle_unowned (Lists st) st.positions base.held (suc j) p free (subst (Linked st j) e k)))
        refl
        (links_push st.neighbors p o (places_of st.positions x) (let e = base.level in omega arith) not_there);
    old = λ j q k. ⊎_elim
        (λ (e : j ≡ i.value). subst (λ z. Linked result z q) (sym e)
        (here_linked i.value base there change q
        (has_tail p (places_of st.positions x) q (of_linked st i.value x base there q (subst (λ z. Linked st z q) e k)))))
        (λ (n : j ≢ i.value). other_linked i.value base there change j q n k)
        (cases_eq j i.value);
    new = here_linked i.value base there change p (has_head p (places_of st.positions x));
    all = λ j q k. ⊎_elim
        (λ (e : j ≡ i.value).
        ⊎_elim
        (λ (f : q ≡ p). inr (e, f))
        (λ (f : has (places_of st.positions x) q ≡ true). inl (subst (λ z. Linked st z q) (sym e) (linked_of st i.value x base there q f)))
        (has_cons p (places_of st.positions x) q (linked_here i.value base there change q (subst (λ z. Linked result z q) e k))))
        (λ (n : j ≢ i.value). inl (linked_other i.value base there change j q n k))
        (cases_eq j i.value);
    idle = idle_stays st.positions (after_push st.positions x.value.newest p) p put.status;
  }

  pub attaches : Attached st i.value p o (linked_to x.value i p o st)
  attaches = subst (Attached st i.value p o) (sym is_result) attached
