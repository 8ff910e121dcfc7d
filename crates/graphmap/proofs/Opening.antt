-- A cursor over the links of a node begins at the oldest.
use Rattle.std.proofs.Common.{◌≡◌, ℕ, suc, List, [], ◌∷◌, ◌++◌, reverse, get_or, Some, None, Option, sym, refl, ap, ◌∙◌, subst, append_assoc, append-nil, arith}
use mathlib.Core.List.{reverse-cons}
use Rattle.std.specs.Option.{option_map}
use Rattle.std.proofs.lemmas.List.{length-reverse}
use Rattle.linked_list.specs.Places.{Position}
use Rattle.linked_list.specs.Places.{prev_of}
use Rattle.linked_list.specs.Chains.{last, last_from, Chain, Holds}
use Rattle.linked_list.proofs.Linking.{holds_length}
use Rattle.network.specs.declared.direction.CompactDirection.{CompactDirection}
use Rattle.map_model.specs.Lists.{kept, found}
use Rattle.map_model.specs.Model.{Link, named, links_of}
use Rattle.map_model.specs.Shown.{shows, links_shown}
use Rattle.map_layout.specs.declared.records.IndexedKey.{IndexedKey}
use Rattle.map_layout.specs.Layout.{State, NodeItem, numbered, of_node, links_in, link_at, link_to, places_of, node_of, model}
use Rattle.map_layout.specs.Edits.{Good, oldest_of, oldest_at}
use Rattle.map_layout.specs.Steps.{node_at}
use Rattle.map_layout.proofs.Items.{value_of, value_found}
use Rattle.map_layout.proofs.Links.{links_append}
use Rattle.map_layout.proofs.Mapping.{found_map}
use Rattle.map_layout.proofs.Members.{among_found}
use Rattle.map_layout.proofs.Detaching.{links_there}
use Rattle.graphmap.specs.Links.{Ahead, ToCome}

-- a list read from its end
chain_ahead : (L : List Position) (q : Option ℕ) (l m : List ℕ) → Chain L q l → Ahead L q m → Ahead L (last_from q l) (reverse l ++ m)
chain_ahead L q [] m c a = a
chain_ahead L q (x ∷ l) m c a =
    let step : Ahead L (Some x) (x ∷ m) = (refl, subst (λ v. Ahead L v m) (sym (ap prev_of c.0)) a) in
    let e : reverse (x ∷ l) ++ m ≡ reverse l ++ x ∷ m = ap (λ z. z ++ m) (reverse-cons x l) ∙ append_assoc (reverse l) (x ∷ []) m in
    subst (Ahead L (last_from q (x ∷ l))) (sym e) (chain_ahead L (Some x) l (x ∷ m) c.2 step)

holds_ahead : (L : List Position) (s : Option ℕ) (l : List ℕ) → Holds L s l → Ahead L (last l) (reverse l)
holds_ahead L s l h = subst (Ahead L (last l)) (append-nil (reverse l)) (chain_ahead L None l [] h.linked refl)

module _ {N : Type 0} (cs : List (Option (IndexedKey N))) where
  reverse_link : (p : ℕ) (o : Option (IndexedKey N)) (m : List (Link N)) → reverse (link_at p o ++ m) ≡ reverse m ++ link_at p o
  reverse_link p None m = sym (append-nil (reverse m))
  reverse_link p (Some o) m = reverse-cons (link_to p o) m

  links_reverse : (l : List ℕ) → links_in cs (reverse l) ≡ reverse (links_in cs l)
  links_reverse [] = refl
  links_reverse (p ∷ l) =
      ap (links_in cs) (reverse-cons p l) ∙ links_append cs (reverse l) (p ∷ []) ∙ ap (λ z. links_in cs (reverse l) ++ z) (append-nil (link_at p (get_or cs p None)))
      ∙ ap (λ z. z ++ link_at p (get_or cs p None)) (links_reverse l) ∙ sym (reverse_link p (get_or cs p None) (links_in cs l))

module _ {N E : Type 0} (st : State N E) (i : ℕ) (d : CompactDirection) (good : Good st) where
  none_open : found (numbered i) st.nodes ≡ None → ToCome st i d (oldest_at i st) 0 (links_shown (model st) i d)
  none_open e =
      let o : node_at i st ≡ None = value_found i st.nodes ∙ ap (option_map value_of) e in
      let f : found (named i) (model st).nodes ≡ None = found_map (numbered i) (named i) (node_of st.neighbors st.positions) (λ _. refl) st.nodes ∙ ap (option_map (node_of st.neighbors st.positions)) e in
      record { places = []; ahead = ap oldest_of o; few = omega arith; shown = ap (λ z. kept (shows i d) (links_of z)) f }

  some_open : (x : NodeItem N) → found (numbered i) st.nodes ≡ Some x → ToCome st i d (oldest_at i st) 0 (links_shown (model st) i d)
  some_open x e =
      let L = st.positions in
      let l = places_of L x in
      let o : node_at i st ≡ Some x.value = value_found i st.nodes ∙ ap (option_map value_of) e in
      let w = among_found (numbered i) st.nodes x e in
      let h = good.rep.held.each (suc x.number) x.value.newest (of_node x w refl refl) in
      let old : oldest_at i st ≡ last l = ap oldest_of o ∙ good.rep.oldest x w in
      let b = holds_length L x.value.newest l h in
      let r = length-reverse l in
      record {
        places = reverse l;
        ahead = subst (λ s. Ahead L s (reverse l)) (sym old) (holds_ahead L x.value.newest l h);
        few = omega arith;
        shown = ap (kept (shows i d)) (links_there st i x e ∙ sym (links_reverse st.neighbors l));
      }

  by_found : (o : Option (NodeItem N)) → found (numbered i) st.nodes ≡ o → ToCome st i d (oldest_at i st) 0 (links_shown (model st) i d)
  by_found None e = none_open e
  by_found (Some x) e = some_open x e

  pub opened : ToCome st i d (oldest_at i st) 0 (links_shown (model st) i d)
  opened = by_found _ refl
