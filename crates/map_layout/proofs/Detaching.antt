-- One link less at a node.
use Rattle.std.proofs.Common.{◌≡◌, ℕ, suc, ◌≤◌, Bool, true, cond, ◌≢◌, ◌⊎◌, List, [], ◌∷◌, reverse, length, get_or, Some, None, Option, sym, refl, ap, ◌∙◌, subst, inr, ⊎_elim, arith}
use Rattle.std.specs.Option.{option_map}
use Rattle.std.proofs.lemmas.Bool.{cases_eq, both_ways}
use Rattle.linked_list.specs.Places.{Position}
use Rattle.linked_list.specs.Places.{prev_of, at}
use Rattle.linked_list.specs.Chains.{has, last, swap_removed, without, Holds, entries_of, can_swap, after_swap, start_after_swap, can_remove, after_remove, start_after_remove}
use Rattle.linked_list.specs.Laws.{StatusStays}
use Rattle.linked_list.proofs.Members.{has_first}
use Rattle.linked_list.proofs.Linking.{prev_is, Differ}
use Rattle.linked_list.proofs.Removing.{Removed, removes, listed_can}
use Rattle.linked_list.proofs.Swapping.{Swapped, swaps, listed_can_swap}
use Rattle.keys.specs.declared.node_index.NodeIndex.{NodeIndex}
use Rattle.map_model.specs.Lists.{count, found, taken, changed}
use Rattle.map_model.specs.Model.{Link, named, links_of, links_at, relinked}
use Rattle.map_layout.specs.declared.records.NodeRecord.{NodeRecord}
use Rattle.map_layout.specs.declared.records.IndexedKey.{IndexedKey}
use Rattle.map_layout.specs.Layout.{State, NodeItem, numbered, Idle, Lists, Linked, places_of, link_to, links_in, node_of, model}
use Rattle.map_layout.specs.Steps.{with_links, node_put, swapped_from, dropped_from, last_swapped}
use Rattle.map_layout.proofs.Items.{put_old}
use Rattle.map_layout.proofs.Mapping.{found_map}
use Rattle.map_layout.proofs.Links.{links_swap, links_oldest}
use Rattle.map_layout.proofs.Places.{Gone, gone_swap, gone_without, last_swap, Ended, ended, without_last}
use Rattle.map_layout.proofs.Holding.{other_lists, differ_list}
use Rattle.map_layout.proofs.Stepping.{Base, Change, restated, x_among, begun, linked_of, of_linked, base_after, unused_after, linked_here, linked_other, here_linked, other_linked, shown_after}
use Rattle.map_layout.proofs.Attaching.{Same, idle_stays}

pub record Lost {N E : Type 0} (st : State N E) (p : ℕ) (st' : State N E) : Type 0 where
  pub same : Same st st'
  pub neighbors : st'.neighbors ≡ st.neighbors
  pub old : (j q : ℕ) → Linked st j q → q ≢ p → Linked st' j q
  pub all : (j q : ℕ) → Linked st' j q → Linked st j q
  pub other : (j q : ℕ) → Linked st' j q → q ≢ p
  pub idle : (q : ℕ) → q ≢ p → Idle st.positions q → Idle st'.positions q
  pub free : Idle st'.positions p

-- the links of a node
pub links_there : {N E : Type 0} (st : State N E) (i : ℕ) (x : NodeItem N) → found (numbered i) st.nodes ≡ Some x
    → links_at i (model st).nodes ≡ reverse (links_in st.neighbors (places_of st.positions x))
links_there st i x e =
    ap links_of (found_map (numbered i) (named i) (node_of st.neighbors st.positions) (λ _. refl) st.nodes ∙ ap (option_map (node_of st.neighbors st.positions)) e)

module _ {N E : Type 0} {st : State N E} (i p : ℕ) {x : NodeItem N} {v : NodeRecord N} {M : List Position} {l : List ℕ}
    (base : Base st) (there : found (numbered i) st.nodes ≡ Some x) (ch : Change st x v st.neighbors M l)
    (gone : Gone (places_of st.positions x) l p) (listed : has (places_of st.positions x) p ≡ true)
    (status : StatusStays p st.positions M) (freed : Idle M p) (size : length M ≡ length st.positions) where
  lost : Lost st p (restated st i v st.neighbors M)
  lost = record {
    same = record {
      base = base_after i base there ch;
      arcs = refl;
      unused = unused_after i base there ch;
      fresh = refl;
      node_places = refl;
      arc_places = refl;
      size = size;
    };
    neighbors = refl;
    old = λ j q k n. ⊎_elim
        (λ (e : j ≡ i). subst (λ z. Linked (restated st i v st.neighbors M) z q) (sym e) (here_linked i base there ch q (gone.kept q (of_linked st i x base there q (subst (λ z. Linked st z q) e k)) n)))
        (λ (ne : j ≢ i). other_linked i base there ch j q ne k)
        (cases_eq j i);
    all = λ j q k. ⊎_elim
        (λ (e : j ≡ i). subst (λ z. Linked st z q) (sym e) (linked_of st i x base there q (gone.old q (linked_here i base there ch q (subst (λ z. Linked (restated st i v st.neighbors M) z q) e k)))))
        (λ (ne : j ≢ i). linked_other i base there ch j q ne k)
        (cases_eq j i);
    other = λ j q k. ⊎_elim
        (λ (e : j ≡ i). gone.other q (linked_here i base there ch q (subst (λ z. Linked (restated st i v st.neighbors M) z q) e k)))
        (λ (ne : j ≢ i). λ f.
        let o = linked_other i base there ch j q ne k in
        both_ways (has (entries_of st.positions o.start) p)
        (other_lists (Lists st) st.positions base.held (suc i) (suc j) p x.value.newest o.start (begun st i x base there) o.begins (λ g. ne (omega arith)) listed)
        (subst (λ z. has (entries_of st.positions o.start) z ≡ true) f o.has_it))
        (cases_eq j i);
    idle = idle_stays st.positions M p status;
    free = freed;
  }

-- the list begins with one of its places
begins_within : (L M : List Position) (s : Option ℕ) (l m : List ℕ) (p : ℕ) → Holds M s m → Gone l m p → (y : ℕ) → s ≡ Some y → Idle L y ⊎ (has l y ≡ true)
begins_within L M s l m p h g y e = inr (g.old y (has_first m y (sym h.starts ∙ e)))

module _ {N E : Type 0} (st : State N E) (i : NodeIndex) (p : ℕ) (x : NodeItem N)
    (base : Base st) (there : found (numbered i.value) st.nodes ≡ Some x) (listed : has (places_of st.positions x) p ≡ true) where
  held_here : Holds st.positions x.value.newest (places_of st.positions x)
  held_here = base.held.each (suc i.value) x.value.newest (begun st i.value x base there)

  differ : Differ (places_of st.positions x)
  differ = differ_list (Lists st) st.positions base.held (suc i.value) x.value.newest (begun st i.value x base there)

  ends_there : x.value.oldest ≡ last (places_of st.positions x)
  ends_there = base.oldest x (x_among st i.value x base there)

  -- ---- the newest link comes in the place of the one that goes
  swap_granted : can_swap st.positions x.value.newest p ≡ true
  swap_granted = listed_can_swap st.positions x.value.newest (places_of st.positions x) p held_here listed

  swap : Swapped st.positions x.value.newest p (after_swap st.positions x.value.newest p) (start_after_swap st.positions x.value.newest p)
  swap = swaps st.positions (after_swap st.positions x.value.newest p) x.value.newest (start_after_swap st.positions x.value.newest p) p swap_granted refl refl

  abbrev swap_record : NodeRecord N
  swap_record = record { key = x.value.key; newest = start_after_swap st.positions x.value.newest p; oldest = last_swapped x.value.newest x.value.oldest p }

  abbrev swap_result : State N E
  swap_result = restated st i.value swap_record st.neighbors (after_swap st.positions x.value.newest p)

  is_swapped : swapped_from (Some x.value) i p st ≡ swap_result
  is_swapped =
      ap (λ g. with_links st (node_put i (record { key = x.value.key; newest = cond g (start_after_swap st.positions x.value.newest p) x.value.newest; oldest = last_swapped x.value.newest x.value.oldest p }) st) st.neighbors (cond g (after_swap st.positions x.value.newest p) st.positions)) swap_granted
      ∙ ap (λ ns. with_links st ns st.neighbors (after_swap st.positions x.value.newest p)) (put_old st.node_places i.value i swap_record st.nodes x there)

  swap_gone : Gone (places_of st.positions x) (swap_removed p (places_of st.positions x)) p
  swap_gone = gone_swap (places_of st.positions x) p differ listed

  swap_change : Change st x swap_record st.neighbors (after_swap st.positions x.value.newest p) (swap_removed p (places_of st.positions x))
  swap_change =
      let h = swap.listed (places_of st.positions x) held_here in
      record {
        holds = h;
        others = swap.others (places_of st.positions x) held_here listed;
        head = begins_within st.positions (after_swap st.positions x.value.newest p) (start_after_swap st.positions x.value.newest p) (places_of st.positions x) (swap_removed p (places_of st.positions x)) p h swap_gone;
        ends = ap (λ z. last_swapped x.value.newest z p) ends_there ∙ ap (λ z. last_swapped z (last (places_of st.positions x)) p) held_here.starts ∙ sym (last_swap (places_of st.positions x) p differ listed);
        level = base.level ∙ sym swap.size;
      }

  pub swaps_out : Lost st p (swapped_from (Some x.value) i p st)
  swaps_out = subst (Lost st p) (sym is_swapped) (lost i.value p base there swap_change swap_gone listed swap.status swap.freed swap.size)

  pub swap_shown : (o : IndexedKey N) (q : Link N → Bool) → ((y : ℕ) → has (places_of st.positions x) y ≡ true → (g : IndexedKey N) × (get_or st.neighbors y None ≡ Some g))
      → get_or st.neighbors p None ≡ Some o → q (link_to p o) ≡ true → count q (links_at i.value (model st).nodes) ≤ 1
      → (model (swapped_from (Some x.value) i p st)).nodes ≡ changed (named i.value) (relinked (taken q)) (model st).nodes
  swap_shown o q full e t c =
      ap (λ z. (model z).nodes) is_swapped
      ∙ shown_after i.value base there swap_change (taken q) (λ j r n k. refl) refl
      (links_swap st.neighbors q p o (places_of st.positions x) listed full e t (subst (λ z. count q z ≤ 1) (links_there st i.value x there) c))

  -- ---- the oldest link goes
  module _ (final : x.value.oldest ≡ Some p) where
    at_end : Ended (places_of st.positions x) p
    at_end = ended (places_of st.positions x) p (sym ends_there ∙ final)

    drop_granted : can_remove st.positions x.value.newest p ≡ true
    drop_granted = listed_can st.positions x.value.newest (places_of st.positions x) p held_here listed

    drop : Removed st.positions x.value.newest p (after_remove st.positions p) (start_after_remove st.positions x.value.newest p)
    drop = removes st.positions (after_remove st.positions p) x.value.newest (start_after_remove st.positions x.value.newest p) p drop_granted refl refl

    abbrev drop_record : NodeRecord N
    drop_record = record { key = x.value.key; newest = start_after_remove st.positions x.value.newest p; oldest = prev_of (at st.positions p) }

    abbrev drop_result : State N E
    drop_result = restated st i.value drop_record st.neighbors (after_remove st.positions p)

    is_dropped : dropped_from (Some x.value) i p st ≡ drop_result
    is_dropped =
        ap (λ g. with_links st (node_put i (record { key = x.value.key; newest = cond g (start_after_remove st.positions x.value.newest p) x.value.newest; oldest = prev_of (at st.positions p) }) st) st.neighbors (cond g (after_remove st.positions p) st.positions)) drop_granted
        ∙ ap (λ ns. with_links st ns st.neighbors (after_remove st.positions p)) (put_old st.node_places i.value i drop_record st.nodes x there)

    drop_gone : Gone (places_of st.positions x) (without p (places_of st.positions x)) p
    drop_gone = gone_without (places_of st.positions x) p differ listed

    before_is : without p (places_of st.positions x) ≡ at_end.before
    before_is = ap (without p) at_end.whole ∙ without_last at_end.before p (subst Differ at_end.whole differ)

    drop_change : Change st x drop_record st.neighbors (after_remove st.positions p) (without p (places_of st.positions x))
    drop_change =
        let h = drop.listed (places_of st.positions x) held_here in
        record {
          holds = h;
          others = drop.others (places_of st.positions x) held_here listed;
          head = begins_within st.positions (after_remove st.positions p) (start_after_remove st.positions x.value.newest p) (places_of st.positions x) (without p (places_of st.positions x)) p h drop_gone;
          ends = prev_is st.positions x.value.newest at_end.before p [] (subst (Holds st.positions x.value.newest) at_end.whole held_here) ∙ ap last (sym before_is);
          level = base.level ∙ sym drop.size;
        }

    pub drops : Lost st p (dropped_from (Some x.value) i p st)
    drops = subst (Lost st p) (sym is_dropped) (lost i.value p base there drop_change drop_gone listed drop.status drop.freed drop.size)

    -- the first link goes, as g says
    pub drop_shown : (o : IndexedKey N) (g : List (Link N) → List (Link N)) → get_or st.neighbors p None ≡ Some o → ((k : Link N) (ks : List (Link N)) → g (k ∷ ks) ≡ ks)
        → (model (dropped_from (Some x.value) i p st)).nodes ≡ changed (named i.value) (relinked g) (model st).nodes
    drop_shown o g e tail =
        ap (λ z. (model z).nodes) is_dropped
        ∙ shown_after i.value base there drop_change g (λ j r n k. refl) refl
        (ap (λ z. reverse (links_in st.neighbors z)) before_is
        ∙ sym (tail (link_to p o) (reverse (links_in st.neighbors at_end.before)))
        ∙ ap g (sym (links_oldest st.neighbors p o at_end.before e) ∙ ap (λ z. reverse (links_in st.neighbors z)) (sym at_end.whole)))

    pub first_link : (o : IndexedKey N) → get_or st.neighbors p None ≡ Some o → (ks : List (Link N)) × (links_at i.value (model st).nodes ≡ link_to p o ∷ ks)
    first_link o e = (
      reverse (links_in st.neighbors at_end.before),
      links_there st i.value x there ∙ ap (λ z. reverse (links_in st.neighbors z)) at_end.whole ∙ links_oldest st.neighbors p o at_end.before e,
    )
