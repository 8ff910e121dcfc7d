-- The list of one node is changed.
use Rattle.std.proofs.Common.{◌≡◌, ℕ, suc, ◌≤◌, true, false, ◌≢◌, ◌⊎◌, List, reverse, length, get_or, Some, None, Option, sym, refl, ap, ◌∙◌, subst, ⊎_elim, arith}
use Rattle.std.proofs.lemmas.Bool.{both_ways, eqb-true, eq-eqb, ne_eqb}
use Rattle.linked_list.specs.Places.{Position}
use Rattle.linked_list.specs.Chains.{has, last, Holds, entries_of}
use Rattle.linked_list.specs.Laws.{OthersStay}
use Rattle.linked_list.proofs.Linking.{holds_read}
use Rattle.keyed_table.specs.Listing.{with_value}
use Rattle.map_model.specs.Lists.{count, found, changed}
use Rattle.map_model.specs.Model.{Link, named, relinked}
use Rattle.map_model.proofs.Searching.{count_changed, found_passes}
use Rattle.map_layout.specs.declared.records.NodeRecord.{NodeRecord}
use Rattle.map_layout.specs.declared.records.IndexedKey.{IndexedKey}
use Rattle.map_layout.specs.Layout.{State, NodeItem, Among, numbered, of_unused, of_node, Held, Idle, Lists, Linked, places_of, links_in, node_of, model}
use Rattle.map_layout.specs.Steps.{with_links}
use Rattle.map_layout.proofs.Members.{among_found, found_among, among_changed, among_unchanged, among_change}
use Rattle.map_layout.proofs.Mapping.{map_changed}
use Rattle.map_layout.proofs.Links.{links_agree}
use Rattle.map_layout.proofs.Holding.{other_entries, held_after, owns_other, owns_here, owned_other, owned_here}

-- what every single step keeps
pub record Base {N E : Type 0} (st : State N E) : Type 0 where
  pub one_item : (i : ℕ) → count (numbered i) st.nodes ≤ 1
  pub held : Held (Lists st) st.positions
  pub oldest : (x : NodeItem N) → Among x st.nodes → x.value.oldest ≡ last (places_of st.positions x)
  pub level : length st.neighbors ≡ length st.positions

-- the node i has the record v, the neighbours are cs and the positions M
abbrev pub restated : {N E : Type 0} → State N E → ℕ → NodeRecord N → List (Option (IndexedKey N)) → List Position → State N E
restated st i v cs M = with_links st (changed (numbered i) (with_value v) st.nodes) cs M

module _ {N E : Type 0} (st : State N E) (i : ℕ) (x : NodeItem N) (base : Base st) (there : found (numbered i) st.nodes ≡ Some x) where
  pub number_is : x.number ≡ i
  number_is = eqb-true x.number i (found_passes (numbered i) st.nodes x there)

  pub x_among : Among x st.nodes
  x_among = among_found (numbered i) st.nodes x there

  pub begun : Lists st (suc i) x.value.newest
  begun = of_node x x_among (ap suc (sym number_is)) refl

  pub linked_of : (p : ℕ) → has (places_of st.positions x) p ≡ true → Linked st i p
  linked_of p h = record { start = x.value.newest; begins = begun; has_it = h }

  start_of : (u : Option ℕ) → Lists st (suc i) u → u ≡ x.value.newest
  start_of u (of_unused e f) = absurd (omega arith)
  start_of u (of_node y a e f) =
      let g : y.number ≡ i = omega arith in
      let h = found_among (numbered i) st.nodes y (base.one_item i) a (eq-eqb y.number i g) in
      let q : y ≡ x = cc in f ∙ ap (λ (z : NodeItem N). z.value.newest) q

  pub of_linked : (p : ℕ) → Linked st i p → has (places_of st.positions x) p ≡ true
  of_linked p o = subst (λ u. has (entries_of st.positions u) p ≡ true) (start_of o.start o.begins) o.has_it

-- in M the list of x is l, which begins and ends as v says, and every other list is as it was
pub record Change {N E : Type 0} (st : State N E) (x : NodeItem N) (v : NodeRecord N) (cs : List (Option (IndexedKey N))) (M : List Position) (l : List ℕ) : Type 0 where
  pub holds : Holds M v.newest l
  pub others : OthersStay st.positions x.value.newest M
  pub head : (y : ℕ) → v.newest ≡ Some y → Idle st.positions y ⊎ (has (places_of st.positions x) y ≡ true)
  pub ends : v.oldest ≡ last l
  pub level : length cs ≡ length M

module _ {N E : Type 0} {st : State N E} (i : ℕ) {x : NodeItem N} {v : NodeRecord N} {cs : List (Option (IndexedKey N))} {M : List Position} {l : List ℕ}
    (base : Base st) (there : found (numbered i) st.nodes ≡ Some x) (ch : Change st x v cs M l) where
  new_start : (u : Option ℕ) → Lists (restated st i v cs M) (suc i) u → u ≡ v.newest
  new_start u (of_unused e f) = absurd (omega arith)
  new_start u (of_node y a e f) =
      ⊎_elim
      (λ (r : (numbered i y ≡ false) × Among y st.nodes). absurd (both_ways (numbered i y) r.0 (eq-eqb y.number i (omega arith))))
      (λ (r : (z : NodeItem N) × Among z st.nodes × (numbered i z ≡ true) × (y ≡ with_value v z)). f ∙ ap (λ (z : NodeItem N). z.value.newest) r.3)
      (among_changed (numbered i) (with_value v) st.nodes y (base.one_item i) a)

  old_start : (j : ℕ) (u : Option ℕ) → j ≢ suc i → Lists (restated st i v cs M) j u → Lists st j u
  old_start j u n (of_unused e f) = of_unused e f
  old_start j u n (of_node y a e f) =
      ⊎_elim
      (λ (r : (numbered i y ≡ false) × Among y st.nodes). of_node y r.1 e f)
      (λ (r : (z : NodeItem N) × Among z st.nodes × (numbered i z ≡ true) × (y ≡ with_value v z)).
      absurd (n (e ∙ ap suc (ap (λ (z : NodeItem N). z.number) r.3 ∙ eqb-true r.0.number i r.2))))
      (among_changed (numbered i) (with_value v) st.nodes y (base.one_item i) a)

  keeps_start : (j : ℕ) (u : Option ℕ) → j ≢ suc i → Lists st j u → Lists (restated st i v cs M) j u
  keeps_start j u n (of_unused e f) = of_unused e f
  keeps_start j u n (of_node y a e f) =
      of_node y (among_unchanged (numbered i) (with_value v) st.nodes y a (ne_eqb y.number i (λ q. n (e ∙ ap suc q)))) e f

  at_new : Lists (restated st i v cs M) (suc i) v.newest
  at_new = of_node (with_value v x) (among_change (numbered i) (with_value v) st.nodes x there) (ap suc (sym (number_is st i x base there))) refl

  same_entries : (j : ℕ) (u : Option ℕ) → j ≢ suc i → Lists (restated st i v cs M) j u → entries_of M u ≡ entries_of st.positions u
  same_entries = other_entries (Lists st) (Lists (restated st i v cs M)) st.positions M (suc i) x.value.newest v.newest l base.held (begun st i x base there) ch.holds ch.others ch.head new_start old_start

  pub base_after : Base (restated st i v cs M)
  base_after = record {
    one_item = λ j. let e = count_changed (numbered j) (numbered i) (with_value v) st.nodes (λ _. refl) in let f = base.one_item j in omega arith;
    held = held_after (Lists st) (Lists (restated st i v cs M)) st.positions M (suc i) x.value.newest v.newest l base.held (begun st i x base there) ch.holds ch.others ch.head new_start old_start;
    oldest = λ y a.
        ⊎_elim
        (λ (r : (numbered i y ≡ false) × Among y st.nodes).
        base.oldest y r.1 ∙ ap last (sym (same_entries (suc y.number) y.value.newest (λ q. both_ways (numbered i y) r.0 (eq-eqb y.number i (omega arith))) (of_node y a refl refl))))
        (λ (r : (z : NodeItem N) × Among z st.nodes × (numbered i z ≡ true) × (y ≡ with_value v z)).
        ap (λ (z : NodeItem N). z.value.oldest) r.3 ∙ ch.ends ∙ ap last (sym (holds_read M v.newest l ch.holds)) ∙ ap (λ (z : NodeItem N). last (places_of M z)) (sym r.3))
        (among_changed (numbered i) (with_value v) st.nodes y (base.one_item i) a);
    level = ch.level;
  }

  pub unused_after : entries_of M st.unused ≡ entries_of st.positions st.unused
  unused_after = same_entries 0 st.unused (λ q. omega arith) (of_unused refl refl)

  pub linked_here : (p : ℕ) → Linked (restated st i v cs M) i p → has l p ≡ true
  linked_here = owns_here (Lists st) (Lists (restated st i v cs M)) st.positions M (suc i) x.value.newest v.newest l base.held (begun st i x base there) ch.holds ch.others ch.head new_start old_start

  pub linked_other : (j p : ℕ) → j ≢ i → Linked (restated st i v cs M) j p → Linked st j p
  linked_other j p n = owns_other (Lists st) (Lists (restated st i v cs M)) st.positions M (suc i) x.value.newest v.newest l base.held (begun st i x base there) ch.holds ch.others ch.head new_start old_start (suc j) p (λ q. n (omega arith))

  pub here_linked : (p : ℕ) → has l p ≡ true → Linked (restated st i v cs M) i p
  here_linked = owned_here (Lists st) (Lists (restated st i v cs M)) st.positions M (suc i) x.value.newest v.newest l base.held (begun st i x base there) ch.holds ch.others ch.head new_start old_start keeps_start at_new

  pub other_linked : (j p : ℕ) → j ≢ i → Linked st j p → Linked (restated st i v cs M) j p
  other_linked j p n = owned_other (Lists st) (Lists (restated st i v cs M)) st.positions M (suc i) x.value.newest v.newest l base.held (begun st i x base there) ch.holds ch.others ch.head new_start old_start keeps_start at_new (suc j) p (λ q. n (omega arith))

  -- what the nodes are then
  pub shown_after : (g : List (Link N) → List (Link N)) → ((j p : ℕ) → j ≢ i → Linked st j p → get_or cs p None ≡ get_or st.neighbors p None)
      → v.key ≡ x.value.key → reverse (links_in cs l) ≡ g (reverse (links_in st.neighbors (places_of st.positions x)))
      → (model (restated st i v cs M)).nodes ≡ changed (named i) (relinked g) (model st).nodes
  shown_after g agree key links =
      map_changed (numbered i) (named i) (node_of st.neighbors st.positions) (λ _. refl) (node_of cs M) (with_value v) (relinked g) st.nodes (base.one_item i)
      (λ y a n.
      let ne : y.number ≢ i = λ q. both_ways (numbered i y) n (eq-eqb y.number i q) in
      let b = among_unchanged (numbered i) (with_value v) st.nodes y a n in
      let e = same_entries (suc y.number) y.value.newest (λ q. ne (omega arith)) (of_node y b refl refl) in
      ap (λ z. record { key = y.value.key; index = y.number; links = reverse (links_in cs z) }) e
      ∙ ap (λ z. record { key = y.value.key; index = y.number; links = reverse z }) (links_agree cs st.neighbors (places_of st.positions y) (λ p h. agree y.number p ne (record { start = y.value.newest; begins = of_node y a refl refl; has_it = h }))))
      (λ y a t.
      let h = found_among (numbered i) st.nodes y (base.one_item i) a t in
      let q : x ≡ y = cc in
      let f : (k : N) → reverse (links_in cs (entries_of M v.newest)) ≡ g (reverse (links_in st.neighbors (places_of st.positions x))) = λ k. ap (λ z. reverse (links_in cs z)) (holds_read M v.newest l ch.holds) ∙ links in
      ap (λ z. record { key = z; index = y.number; links = reverse (links_in cs (entries_of M v.newest)) }) (key ∙ ap (λ (z : NodeItem N). z.value.key) q)
      ∙ ap (λ z. record { key = y.value.key; index = y.number; links = z }) (f v.key ∙ ap (λ (z : NodeItem N). g (reverse (links_in st.neighbors (places_of st.positions z)))) q))
