-- What a pop comes to for every list.
use Rattle.std.proofs.Common.{◌≡◌, ℕ, Bool, true, false, cond, List, [], ◌∷◌, Some, None, Option, sym, refl, ap, ◌∙◌, subst}
use Rattle.linked_list.specs.Places.{Position, enlisted, prev_of, next_of, at}
use Rattle.linked_list.specs.Chains.{rest, Holds, Other, can_remove, after_remove, start_after_remove, can_pop}
use Rattle.linked_list.specs.Laws.{OthersStay}
use Rattle.linked_list.proofs.Members.{spliced_here, spliced_none, has_first}
use Rattle.linked_list.proofs.Reading.{moved_there}
use Rattle.linked_list.proofs.Linking.{not_shared}
use Rattle.linked_list.proofs.Splicing.{Between}
use Rattle.linked_list.proofs.Removing.{between, removed_list, removed_other, listed_can}

-- the first entry that can be taken out has none before it
pub front_alone : (L : List Position) (f : ℕ) → can_remove L (Some f) f ≡ true → at L f ≡ enlisted None (next_of (at L f))
front_alone L f h = let b = between L (Some f) f h in alone (prev_of (at L f)) refl b
  where
    alone : (p : Option ℕ) → prev_of (at L f) ≡ p → Between L (Some f) f (prev_of (at L f)) (next_of (at L f)) → at L f ≡ enlisted None (next_of (at L f))
    alone None e b = b.here ∙ ap (λ p. enlisted p (next_of (at L f))) e
    alone (Some p) e b = absurd (b.far p e refl)

pub front_start : (L : List Position) (f : ℕ) → start_after_remove L (Some f) f ≡ next_of (at L f)
front_start L f = moved_there (Some f) f (next_of (at L f)) refl

pub front_list : (L : List Position) (f : ℕ) → can_remove L (Some f) f ≡ true → (l : List ℕ) → Holds L (Some f) l → Holds (after_remove L f) (next_of (at L f)) (rest l)
front_list L f h [] k = cc
front_list L f h (x ∷ l) k =
    let q : x ≡ f = cc in
    subst (λ s. Holds (after_remove L f) s l) (front_start L f)
    (subst (Holds (after_remove L f) (start_after_remove L (Some f) f)) (spliced_here f [] l x q) (removed_list L (Some f) f h (Some f) (x ∷ l) k))

-- the first entry of a list is in no other
pub front_other : (L : List Position) (f : ℕ) → can_remove L (Some f) f ≡ true → OthersStay L (Some f) (after_remove L f)
front_other L f h s m k o =
    subst (Holds (after_remove L f) s) (spliced_none f [] m (not_shared L f (next_of (at L f)) s m (front_alone L f h) k (λ e. o f e refl)))
    (removed_other L (Some f) f h s m k o)

pub pop_empty : (L : List Position) (s : Option ℕ) (l : List ℕ) → Holds L s l → can_pop L s ≡ false → l ≡ []
pop_empty L s [] h e = refl
pop_empty L s (x ∷ l) h e =
    let t : can_pop L s ≡ true = ap (can_pop L) h.starts ∙ listed_can L (Some x) (x ∷ l) x (record { starts = refl; linked = h.linked }) (has_first (x ∷ l) x refl) in
    cc

-- whether or not the pop is granted
pub pop_others : (L M : List Position) (start : Option ℕ) (f : ℕ) (granted : Bool) → start ≡ Some f → granted ≡ can_remove L start f → M ≡ cond granted (after_remove L f) L → OthersStay L start M
pop_others L M start f true e g p s m k o =
    subst (λ z. Holds z s m) (sym p) (front_other L f (subst (λ z. can_remove L z f ≡ true) e (sym g)) s m k (subst (Other s) e o))
pop_others L M start f false e g p s m k o = subst (λ z. Holds z s m) (sym p) k
