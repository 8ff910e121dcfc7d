-- The links at a list of places, after one change of the list.
use Rattle.std.proofs.Common.{◌≡◌, ℕ, ◌+◌, ◌<◌, ◌≤◌, Bool, true, false, eqb, ◌≢◌, List, [], ◌∷◌, ◌++◌, reverse, length, get_or, set, Some, None, Option, sym, refl, ap, ◌∙◌, subst, ⊎_elim, append_assoc, append-nil, arith}
use mathlib.Core.List.{reverse-cons, reverse-append}
use Rattle.std.proofs.lemmas.List.{get_or-set_same, get_or-set_other}
use Rattle.std.proofs.lemmas.Bool.{cases_eq, eqb-true, eq-eqb, ne_eqb, or_cases, false≢true, cond-true, cond-false}
use Rattle.linked_list.specs.Chains.{has, spliced, replaced, swap_removed}
use Rattle.linked_list.proofs.Members.{none_first, none_rest, none_cons, has_head, has_tail, spliced_here, spliced_later}
use Rattle.map_model.specs.Lists.{one, count, moved, taken}
use Rattle.map_model.specs.Model.{Link}
use Rattle.map_layout.specs.declared.records.IndexedKey.{IndexedKey}
use Rattle.map_layout.specs.Layout.{link_to, link_at, links_in}
use Rattle.map_layout.proofs.Members.{taken_append, moved_push, count_append, count_reverse}

-- ---- a list is split at one of its entries
pub record Split (l : List ℕ) (p : ℕ) : Type 0 where
  pub left : List ℕ
  pub right : List ℕ
  pub whole : l ≡ left ++ p ∷ right
  pub clear : has left p ≡ false

pub split : (l : List ℕ) (p : ℕ) → has l p ≡ true → Split l p
split [] p h = absurd (false≢true h)
split (x ∷ l) p h =
    ⊎_elim
    (λ (e : x ≡ p). record { left = []; right = l; whole = ap (λ z. z ∷ l) e; clear = refl })
    (λ (n : x ≢ p).
    let r = split l p (⊎_elim (λ (e : eqb x p ≡ true). absurd (n (eqb-true x p e))) (λ (e : has l p ≡ true). e) (or_cases (eqb x p) (has l p) h)) in
    record { left = x ∷ r.left; right = r.right; whole = ap (λ z. x ∷ z) r.whole; clear = none_cons x r.left p (λ e. n (sym e)) r.clear })
    (cases_eq x p)

pub spliced_split : (p : ℕ) (mid a b : List ℕ) → has a p ≡ false → spliced p mid (a ++ p ∷ b) ≡ a ++ (mid ++ b)
spliced_split p mid [] b h = spliced_here p mid b p refl
spliced_split p mid (x ∷ a) b h = spliced_later p mid (a ++ p ∷ b) x (λ e. none_first x a p h (sym e)) ∙ ap (λ z. x ∷ z) (spliced_split p mid a b (none_rest x a p h))

module _ {N : Type 0} where
  pub links_append : (cs : List (Option (IndexedKey N))) (a b : List ℕ) → links_in cs (a ++ b) ≡ links_in cs a ++ links_in cs b
  links_append cs [] b = refl
  links_append cs (p ∷ a) b = ap (λ z. link_at p (get_or cs p None) ++ z) (links_append cs a b) ∙ sym (append_assoc (link_at p (get_or cs p None)) (links_in cs a) (links_in cs b))

  -- a write at a place that is not listed
  pub links_set : (cs : List (Option (IndexedKey N))) (p : ℕ) (v : Option (IndexedKey N)) (l : List ℕ) → has l p ≡ false → links_in (set cs p v) l ≡ links_in cs l
  links_set cs p v [] h = refl
  links_set cs p v (x ∷ l) h =
      ap (λ z. link_at x z ++ links_in (set cs p v) l) (get_or-set_other cs p x v None (λ e. none_first x l p h (sym e)))
      ∙ ap (λ z. link_at x (get_or cs x None) ++ z) (links_set cs p v l (none_rest x l p h))

  -- a new link comes last
  pub links_push : (cs : List (Option (IndexedKey N))) (p : ℕ) (o : IndexedKey N) (l : List ℕ) → p < length cs → has l p ≡ false
      → reverse (links_in (set cs p (Some o)) (p ∷ l)) ≡ reverse (links_in cs l) ++ link_to p o ∷ []
  links_push cs p o l r h =
      ap (λ z. reverse (link_at p z ++ links_in (set cs p (Some o)) l)) (get_or-set_same cs p (Some o) None r)
      ∙ reverse-cons (link_to p o) (links_in (set cs p (Some o)) l)
      ∙ ap (λ z. reverse z ++ link_to p o ∷ []) (links_set cs p (Some o) l h)

  -- the oldest link comes first
  pub links_oldest : (cs : List (Option (IndexedKey N))) (p : ℕ) (o : IndexedKey N) (a : List ℕ) → get_or cs p None ≡ Some o
      → reverse (links_in cs (a ++ p ∷ [])) ≡ link_to p o ∷ reverse (links_in cs a)
  links_oldest cs p o a e =
      ap reverse (links_append cs a (p ∷ []) ∙ ap (λ z. links_in cs a ++ (link_at p z ++ [])) e)
      ∙ reverse-append (links_in cs a) (link_to p o ∷ [])

  module _ (cs : List (Option (IndexedKey N))) (q : Link N → Bool) where
    -- the last link goes
    take_last : (p : ℕ) (o : IndexedKey N) (l : List ℕ) → get_or cs p None ≡ Some o → q (link_to p o) ≡ true → count q (links_in cs (p ∷ l)) ≤ 1
        → taken q (reverse (links_in cs (p ∷ l))) ≡ reverse (links_in cs l)
    take_last p o l e t c =
        let k = link_to p o in
        let w : links_in cs (p ∷ l) ≡ k ∷ links_in cs l = ap (λ z. link_at p z ++ links_in cs l) e in
        let d : one (q k) + count q (links_in cs l) ≤ 1 = subst (λ z. count q z ≤ 1) w c in
        let u : one (q k) ≡ 1 = ap one t in
        let n : count q (reverse (links_in cs l)) ≡ 0 = count_reverse q (links_in cs l) ∙ (let f : count q (links_in cs l) ≡ 0 = omega arith in f) in
        ap (λ z. taken q (reverse z)) w
        ∙ ap (taken q) (reverse-cons k (links_in cs l))
        ∙ taken_append q (reverse (links_in cs l)) (k ∷ []) n
        ∙ ap (λ z. reverse (links_in cs l) ++ z) (cond-true (q k) [] (k ∷ []) t)
        ∙ append-nil (reverse (links_in cs l))

    -- another link goes, and the last comes in its place
    take_inner : (p f : ℕ) (o g : IndexedKey N) (a b : List ℕ) → get_or cs p None ≡ Some o → get_or cs f None ≡ Some g → q (link_to p o) ≡ true
        → count q (links_in cs (f ∷ (a ++ p ∷ b))) ≤ 1 → taken q (reverse (links_in cs (f ∷ (a ++ p ∷ b)))) ≡ reverse (links_in cs (a ++ f ∷ b))
    take_inner p f o g a b e h t c =
        let A = links_in cs a in
        let B = links_in cs b in
        let kp = link_to p o in
        let kf = link_to f g in
        let w1 : links_in cs (a ++ p ∷ b) ≡ A ++ kp ∷ B = links_append cs a (p ∷ b) ∙ ap (λ z. A ++ (link_at p z ++ B)) e in
        let w2 : links_in cs (f ∷ (a ++ p ∷ b)) ≡ kf ∷ (A ++ kp ∷ B) = ap (λ z. link_at f z ++ links_in cs (a ++ p ∷ b)) h ∙ ap (λ z. kf ∷ z) w1 in
        let w3 : links_in cs (a ++ f ∷ b) ≡ A ++ kf ∷ B = links_append cs a (f ∷ b) ∙ ap (λ z. A ++ (link_at f z ++ B)) h in
        let d : one (q kf) + count q (A ++ kp ∷ B) ≤ 1 = subst (λ z. count q z ≤ 1) w2 c in
        let d2 = count_append q A (kp ∷ B) in
        let u : one (q kp) ≡ 1 = ap one t in
        let n : count q (reverse B) ≡ 0 = count_reverse q B ∙ (let v : count q B ≡ 0 = omega arith in v) in
        let r1 : reverse (kf ∷ (A ++ kp ∷ B)) ≡ reverse B ++ (kp ∷ (reverse A ++ kf ∷ [])) =
        reverse-cons kf (A ++ kp ∷ B)
        ∙ ap (λ z. z ++ kf ∷ []) (reverse-append A (kp ∷ B) ∙ ap (λ z. z ++ reverse A) (reverse-cons kp B) ∙ append_assoc (reverse B) (kp ∷ []) (reverse A))
        ∙ append_assoc (reverse B) (kp ∷ reverse A) (kf ∷ []) in
        let r2 : reverse (A ++ kf ∷ B) ≡ reverse B ++ kf ∷ reverse A =
        reverse-append A (kf ∷ B) ∙ ap (λ z. z ++ reverse A) (reverse-cons kf B) ∙ append_assoc (reverse B) (kf ∷ []) (reverse A) in
        ap (λ z. taken q (reverse z)) w2
        ∙ ap (taken q) r1
        ∙ taken_append q (reverse B) (kp ∷ (reverse A ++ kf ∷ [])) n
        ∙ ap (λ z. reverse B ++ z) (cond-true (q kp) (moved (reverse A ++ kf ∷ [])) (kp ∷ taken q (reverse A ++ kf ∷ [])) t ∙ moved_push (reverse A) kf)
        ∙ sym r2
        ∙ ap reverse (sym w3)

    -- the newest place comes where p was: the last link comes in the place of the one that goes
    pub links_swap : (p : ℕ) (o : IndexedKey N) (l : List ℕ) → has l p ≡ true → ((x : ℕ) → has l x ≡ true → (g : IndexedKey N) × (get_or cs x None ≡ Some g))
        → get_or cs p None ≡ Some o → q (link_to p o) ≡ true → count q (reverse (links_in cs l)) ≤ 1
        → reverse (links_in cs (swap_removed p l)) ≡ taken q (reverse (links_in cs l))
    links_swap p o [] h full e t c = absurd (false≢true h)
    links_swap p o (f ∷ l) h full e t c =
        let c1 : count q (links_in cs (f ∷ l)) ≤ 1 = (let k = count_reverse q (links_in cs (f ∷ l)) in omega arith) in
        ⊎_elim
        (λ (x : f ≡ p).
        ap (λ z. reverse (links_in cs z)) (cond-true (eqb f p) l (replaced p f l) (eq-eqb f p x))
        ∙ sym (subst (λ z. taken q (reverse (links_in cs (z ∷ l))) ≡ reverse (links_in cs l)) (sym x)
        (take_last p o l e t (subst (λ z. count q (links_in cs (z ∷ l)) ≤ 1) x c1))))
        (λ (x : f ≢ p).
        let s = split l p (⊎_elim (λ (y : eqb f p ≡ true). absurd (x (eqb-true f p y))) (λ (y : has l p ≡ true). y) (or_cases (eqb f p) (has l p) h)) in
        let g = full f (has_head f l) in
        let w = s.whole in
        ap (λ z. reverse (links_in cs z)) (cond-false (eqb f p) l (replaced p f l) (ne_eqb f p x) ∙ ap (replaced p f) w ∙ spliced_split p (f ∷ []) s.left s.right s.clear)
        ∙ sym (take_inner p f o g.0 s.left s.right e g.1 t (subst (λ z. count q (links_in cs (f ∷ z)) ≤ 1) w c1))
        ∙ ap (λ z. taken q (reverse (links_in cs (f ∷ z)))) (sym w))
        (cases_eq f p)

-- the neighbours agree on what is listed
pub links_agree : {N : Type 0} (cs ds : List (Option (IndexedKey N))) (l : List ℕ) → ((x : ℕ) → has l x ≡ true → get_or cs x None ≡ get_or ds x None) → links_in cs l ≡ links_in ds l
links_agree cs ds [] h = refl
links_agree cs ds (p ∷ l) h = ap (λ z. link_at p z ++ links_in cs l) (h p (has_head p l)) ∙ ap (λ z. link_at p (get_or ds p None) ++ z) (links_agree cs ds l (λ x e. h x (has_tail p l x e)))
