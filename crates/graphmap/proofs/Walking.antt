-- A walk goes from one place of a node's links to the next.
use Rattle.std.proofs.Common.{◌≡◌, ℕ, zero, suc, ◌<◌, true, false, cond, List, [], ◌∷◌, ◌++◌, length, get_or, Some, None, Option, sym, refl, ap, ◌∙◌, arith, Bor}
use native.Mathlib.Bridge.{le_prop}
use Rattle.linked_list.specs.Places.{Position, at, prev_of}
use Rattle.network.specs.declared.direction.CompactDirection.{CompactDirection}
use Rattle.map_model.specs.Lists.{kept}
use Rattle.map_model.specs.Model.{Link}
use Rattle.map_model.specs.Shown.{shows}
use Rattle.map_layout.specs.declared.records.IndexedKey.{IndexedKey}
use Rattle.map_layout.specs.Layout.{State, links_in, link_at, link_to}
use Rattle.graphmap.specs.declared.graphmap.GraphMap.{GraphMap}
use Rattle.graphmap.specs.declared.graphmap.walk.LinksDirected.{LinksDirected}
use Rattle.graphmap.specs.States.{state}
use Rattle.graphmap.specs.Links.{Ahead, ToCome, places_from, places_left, WalkEnds, links_left}

-- ---- the places of a walk
module _ (L : List Position) where
  ahead_from : (n : ℕ) (s : Option ℕ) → length (places_from L n s) < n → Ahead L s (places_from L n s)
  ahead_from zero s h = absurd (omega arith)
  ahead_from (suc n) None h = refl
  ahead_from (suc n) (Some p) h = (refl, ahead_from n (prev_of (at L p)) (omega arith))

  from_ahead : (n : ℕ) (s : Option ℕ) (l : List ℕ) → Ahead L s l → length l < n → places_from L n s ≡ l
  from_ahead zero s l a h = absurd (omega arith)
  from_ahead (suc n) s [] a h = ap (places_from L (suc n)) a
  from_ahead (suc n) s (p ∷ l) a h = ap (places_from L (suc n)) a.0 ∙ ap (λ z. p ∷ z) (from_ahead n (prev_of (at L p)) l a.1 (omega arith))

module _ {N E : Type 0} (st : State N E) where
  module _ (i : ℕ) (d : CompactDirection) where
    left_places : (s : Option ℕ) (ks : List (Link N)) → (t : ToCome st i d s 0 ks) → places_left st s ≡ t.places
    left_places s ks t = let f = t.few in from_ahead st.positions (suc (length st.positions)) s t.places t.ahead (omega arith)

    pub walk_ends : (s : Option ℕ) (ks : List (Link N)) → ToCome st i d s 0 ks → WalkEnds st s
    walk_ends s ks t = let f = t.few in let e = ap length (left_places s ks t) in omega arith

    pub to_come : (s : Option ℕ) → WalkEnds st s → ToCome st i d s 0 (links_left st i d s)
    to_come s h = record { places = places_left st s; ahead = ahead_from st.positions (suc (length st.positions)) s (omega arith); few = omega arith; shown = refl }

    pub only_left : (s : Option ℕ) (ks : List (Link N)) → ToCome st i d s 0 ks → ks ≡ links_left st i d s
    only_left s ks t = t.shown ∙ ap (λ l. kept (shows i d) (links_in st.neighbors l)) (sym (left_places s ks t))

  -- ---- one place
  module _ (p : ℕ) (s next : Option ℕ) (at_p : s ≡ Some p) (goes : next ≡ prev_of (at st.positions p)) (ends : WalkEnds st s) where
    shorter : length (places_from st.positions (length st.positions) next) < length st.positions
    shorter = let e = ap (λ z. length (places_left st z)) at_p in let f = ap (λ z. length (places_from st.positions (length st.positions) z)) goes in omega arith

    tail : places_left st s ≡ p ∷ places_left st next
    tail =
        ap (places_left st) at_p ∙ ap (λ z. p ∷ places_from st.positions (length st.positions) z) (sym goes)
        ∙ ap (λ z. p ∷ z) (sym (from_ahead st.positions (suc (length st.positions)) next (places_from st.positions (length st.positions) next) (ahead_from st.positions (length st.positions) next shorter) (let h = shorter in omega arith)))

    pub fewer : length (places_left st next) < length (places_left st s)
    fewer = let e = ap length tail in omega arith

    pub still_ends : WalkEnds st next
    still_ends = let e = fewer in omega arith

    module _ (i : ℕ) (d : CompactDirection) where
      one_place : links_left st i d s ≡ kept (shows i d) (link_at p (get_or st.neighbors p None) ++ links_in st.neighbors (places_left st next))
      one_place = ap (λ l. kept (shows i d) (links_in st.neighbors l)) tail

      pub none_there : None ≡ get_or st.neighbors p None → links_left st i d s ≡ links_left st i d next
      none_there e = one_place ∙ ap (λ v. kept (shows i d) (link_at p v ++ links_in st.neighbors (places_left st next))) (sym e)

      by_test : (o : IndexedKey N) → Some o ≡ get_or st.neighbors p None → links_left st i d s ≡ cond (shows i d (link_to p o)) (link_to p o ∷ links_left st i d next) (links_left st i d next)
      by_test o e = one_place ∙ ap (λ v. kept (shows i d) (link_at p v ++ links_in st.neighbors (places_left st next))) (sym e)

      pub not_shown : (o : IndexedKey N) → Some o ≡ get_or st.neighbors p None → false ≡ shows i d (link_to p o) → links_left st i d s ≡ links_left st i d next
      not_shown o e b = by_test o e ∙ ap (λ v. cond v (link_to p o ∷ links_left st i d next) (links_left st i d next)) (sym b)

      pub is_shown : (o : IndexedKey N) → Some o ≡ get_or st.neighbors p None → true ≡ shows i d (link_to p o) → links_left st i d s ≡ link_to p o ∷ links_left st i d next
      is_shown o e b = by_test o e ∙ ap (λ v. cond v (link_to p o ∷ links_left st i d next) (links_left st i d next)) (sym b)

-- that a walk ends is one fact, however it is known
pub same_walk : {N E : Type 0} (map : Bor (GraphMap N E)) (node : IndexedKey N) (direction : CompactDirection) (place : Option ℕ) (e f : WalkEnds (state map.now.tables) place)
    → ◌≡◌ {A = LinksDirected N E} (record { map = map; node = node; direction = direction; place = place; ends = e }) (record { map = map; node = node; direction = direction; place = place; ends = f })
same_walk map node direction place e f = λ x. record { map = map; node = node; direction = direction; place = place; ends = le_prop e f x }
