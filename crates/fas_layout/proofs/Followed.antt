-- One neighbour after the other loses an arc.
use Rattle.std.proofs.Common.{◌≡◌, ℕ, suc, ◌-◌, ◌<◌, ◌≤◌, true, false, eqb, ltb, ◌≢◌, List, [], ◌∷◌, length, get_or, Some, None, Option, sym, refl, ap, ◌∙◌, subst, ⊎_elim, arith}
use Rattle.std.proofs.lemmas.List.{get_or_past}
use Rattle.std.proofs.lemmas.Bool.{cases_eq, cases_lt, ne_eqb, cases_Bool, cond-true, cond-false, cond_both, lt-ltb, ltb-true}
use Rattle.network.specs.Counting.{has, without, one}
use Rattle.network.proofs.Sums.{has_head, has_without}
use Rattle.greedy_order.specs.Part3Order.{to_front, all_to_front}
use Rattle.network.specs.declared.direction.CompactDirection.{CompactDirection}
use Rattle.network.specs.declared.direction.CompactDirection.TheVariants.{Outgoing, Incoming}
use Rattle.fas_layout.specs.Columns.{Columns, Neighbours, SameLinks}
use Rattle.fas_layout.specs.Classes.{Sorted}
use Rattle.network.specs.Directions.{opposite}
use Rattle.fas_layout.specs.Following.{later_of, Follows, occurrences, places_left, Lowering, degrees, LostOne, LostAll, Updated}
use Rattle.fas_layout.proofs.Lowered.{same_links, links_same}

pub has_front : (y : ℕ) (us : List ℕ) (z : ℕ) → has (to_front y us) z ≡ has us z
has_front y us z = ⊎_elim
    (λ (m : has us y ≡ true). ap (λ l. has l z) (cond-true (has us y) (y ∷ without y us) us m) ∙ (⊎_elim
    (λ (e : y ≡ z). subst (λ v. has (y ∷ without y us) v ≡ has us v) e (has_head y (without y us) ∙ sym m))
    (λ (e : y ≢ z). let t = ne_eqb y z e in let w = ne_eqb z y (λ q. e (sym q)) in let q = has_without y us z in grind arith)
    (cases_eq y z)))
    (λ (m : has us y ≡ false). ap (λ l. has l z) (cond-false (has us y) (y ∷ without y us) us m))
    (cases_Bool (has us y))

-- a place that follows lies later
later_same : (P : Neighbours) (p : ℕ) (at : Option ℕ) (l : List ℕ) → Follows P (suc p) at l → later_of p at ≡ at
later_same P p at [] f = rw f refl
later_same P p at (y ∷ l) f = let q = f.1.0 in let b : p < f.0 = f.1.1 in rw q (cond-true (ltb p f.0) (Some f.0) None (lt-ltb p f.0 b))

module _ (P : Neighbours) (ns us : List ℕ) (at : Option ℕ) (S S' : List ℕ → Type 0) (I J K : List ℕ) (p : ℕ) (e : at ≡ Some p) where
  step : (low : ℕ) (left untaken : List ℕ) → Follows P low at left → S untaken → ((z : ℕ) → has untaken z ≡ has us z) → all_to_front left untaken ≡ all_to_front ns us
      → ((z : ℕ) → has us z ≡ true → get_or J z 0 - occurrences left z ≡ get_or I z 0 - occurrences ns z)
      → ((vs : List ℕ) → S vs → S' (to_front (get_or P.nodes p 0) vs))
      → ((vs : List ℕ) → S vs → (z : ℕ) → has vs z ≡ true → get_or K z 0 ≡ get_or J z 0 - one (eqb (get_or P.nodes p 0) z))
      → Lowering P ns us (later_of p (get_or P.nexts p None)) S' I K
  step low [] vs f s same comes falls sorts lowers = absurd (let z : ◌≡◌ {A = ℕ} 0 1 = cc in omega arith)
  step low (y ∷ left) vs f s same comes falls sorts lowers =
      let q = f.1.0 in
      let w : f.0 ≡ p = cc in
      let n : get_or P.nodes p 0 ≡ y = ap (λ v. get_or P.nodes v 0) (sym w) ∙ f.1.3 in
      let g : Follows P (suc p) (get_or P.nexts p None) left = subst (λ v. Follows P (suc v) (get_or P.nexts v None) left) w f.1.4 in
      record {
        low = suc p;
        left = left;
        untaken = to_front y vs;
        follows = rw (later_same P p (get_or P.nexts p None) left g) g;
        state = rw (← n) (sorts vs s);
        same = λ z. has_front y vs z ∙ same z;
        comes = comes;
        falls = λ z h. let a = falls z h in let b = lowers vs s z (same z ∙ h) in let d : one (eqb (get_or P.nodes p 0) z) ≡ one (eqb y z) = ap (λ v. one (eqb v z)) n in omega arith;
      }

pub lowering_none : (P : Neighbours) (ns us : List ℕ) (at : Option ℕ) (S : List ℕ → Type 0) (I : List ℕ) → Follows P 0 at ns → S us → Lowering P ns us at S I I
lowering_none P ns us at S I f s = record { low = 0; left = ns; untaken = us; follows = f; state = s; same = λ z. refl; comes = refl; falls = λ z h. refl }

-- the neighbour y at the place p has lost its arc, and the walk goes on at at'
pub lowering_more : (P : Neighbours) (ns us : List ℕ) (at at' : Option ℕ) (S S' : List ℕ → Type 0) (I J K : List ℕ) (p y : ℕ) → at ≡ Some p → y ≡ get_or P.nodes p 0 → at' ≡ later_of p (get_or P.nexts p None)
    → ((vs : List ℕ) → S vs → S' (to_front y vs))
    → ((vs : List ℕ) → S vs → (z : ℕ) → has vs z ≡ true → get_or K z 0 ≡ get_or J z 0 - one (eqb y z))
    → Lowering P ns us at S I J → Lowering P ns us at' S' I K
lowering_more P ns us at at' S S' I J K p y e n a sorts lowers g =
    rw a (step P ns us at S S' I J K p e g.low g.left g.untaken g.follows g.state g.same g.comes g.falls (λ vs s. rw n at (sorts vs s)) (λ vs s z h. rw n at (lowers vs s z h)))

-- what the walk leaves
pub record AllLowered (ns us : List ℕ) (S : List ℕ → Type 0) (I J : List ℕ) : Type 0 where
  pub state : S (all_to_front ns us)
  pub falls : (z : ℕ) → has us z ≡ true → get_or J z 0 ≡ get_or I z 0 - occurrences ns z

pub lowering_all : (P : Neighbours) (ns us : List ℕ) (at : Option ℕ) (S : List ℕ → Type 0) (I J : List ℕ) → at ≡ None → Lowering P ns us at S I J → AllLowered ns us S I J
lowering_all P ns us at S I J e g = go g.low g.left g.untaken g.follows g.state g.comes g.falls
  where
    go : (low : ℕ) (left untaken : List ℕ) → Follows P low at left → S untaken → all_to_front left untaken ≡ all_to_front ns us
        → ((z : ℕ) → has us z ≡ true → get_or J z 0 - occurrences left z ≡ get_or I z 0 - occurrences ns z) → AllLowered ns us S I J
    go low [] vs f s comes falls = record { state = subst S comes s; falls = λ z h. let a = falls z h in omega arith }
    go low (y ∷ left) vs f s comes falls = absurd (let q = f.1.0 in let z : ◌≡◌ {A = ℕ} 0 1 = cc in omega arith)

places_fall : (P : Neighbours) (at : Option ℕ) (p : ℕ) → length P.nexts ≡ length P.nodes → at ≡ Some p → places_left (length P.nodes) (later_of p (get_or P.nexts p None)) < places_left (length P.nodes) at
places_fall P at p len e = rw e (⊎_elim
    (λ (b : p < length P.nodes). go b (get_or P.nexts p None))
    (λ (b : length P.nodes ≤ p). let g = get_or_past P.nexts p None (omega arith) in rw g (omega arith))
    (cases_lt p (length P.nodes)))
  where
    go : p < length P.nodes → (n : Option ℕ) → places_left (length P.nodes) (later_of p n) < suc (length P.nodes - p)
    go b None = omega arith
    go b (Some q) = cond_both (ltb p q) (Some q) None (λ v. places_left (length P.nodes) v < suc (length P.nodes - p)) (λ t. let l = ltb-true p q t in omega arith) (λ t. omega arith)

pub places_less : (P : Neighbours) (at at' : Option ℕ) (p : ℕ) → length P.nexts ≡ length P.nodes → at ≡ Some p → at' ≡ later_of p (get_or P.nexts p None) → places_left (length P.nodes) at' < places_left (length P.nodes) at
places_less P at at' p len e a = rw a (places_fall P at p len e)

-- ---- the walk along a list, as the code makes it
-- what holds from turn to turn
pub record Walked (d : CompactDirection) (m : ℕ) (P : Neighbours) (t : Columns) (s : List (Option ℕ)) (t' : Columns) (s' : List (Option ℕ)) (from at : Option ℕ) : Type 0 where
  pub lowering : (ns us : List ℕ) → Follows P 0 from ns → Sorted m t s us → Lowering P ns us at (Sorted m t' s') (degrees d t) (degrees d t')
  pub other : degrees (opposite d) t' ≡ degrees (opposite d) t
  pub links : SameLinks t' t

pub walked_none : (d : CompactDirection) (m : ℕ) (P : Neighbours) (t : Columns) (s : List (Option ℕ)) (from : Option ℕ) → Walked d m P t s t s from from
walked_none d m P t s from = record { lowering = λ ns us f h. lowering_none P ns us from (Sorted m t s) (degrees d t) f h; other = refl; links = links_same t }

pub walked_more : (d : CompactDirection) (m : ℕ) (P : Neighbours) (t t1 t2 : Columns) (s s1 s2 : List (Option ℕ)) (from at at' : Option ℕ) (p y : ℕ) → at ≡ Some p → y ≡ get_or P.nodes p 0 → at' ≡ later_of p (get_or P.nexts p None)
    → LostOne d m t1 s1 t2 s2 y → Walked d m P t s t1 s1 from at → Walked d m P t s t2 s2 from at'
walked_more d m P t t1 t2 s s1 s2 from at at' p y e n a l w = record {
  lowering = λ ns us f h. lowering_more P ns us at at' (Sorted m t1 s1) (Sorted m t2 s2) (degrees d t) (degrees d t1) (degrees d t2) p y e n a l.sorted l.falls (w.lowering ns us f h);
  other = l.other ∙ w.other;
  links = same_links t2 t1 t l.links w.links;
}

pub walked_all : (d : CompactDirection) (m : ℕ) (P : Neighbours) (t t' : Columns) (s s' : List (Option ℕ)) (from at : Option ℕ) → at ≡ None → Walked d m P t s t' s' from at → LostAll d m P t s t' s' from
walked_all d m P t t' s s' from at e w = record {
  sorted = λ ns us f h. (lowering_all P ns us at (Sorted m t' s') (degrees d t) (degrees d t') e (w.lowering ns us f h)).state;
  falls = λ ns us f h. (lowering_all P ns us at (Sorted m t' s') (degrees d t) (degrees d t') e (w.lowering ns us f h)).falls;
  other = w.other;
  links = w.links;
}

has_all : (l us : List ℕ) (z : ℕ) → has (all_to_front l us) z ≡ has us z
has_all [] us z = refl
has_all (y ∷ l) us z = has_all l (to_front y us) z ∙ has_front y us z

pub updated : (m : ℕ) (P : Neighbours) (t0 t1 t2 : Columns) (s0 s1 s2 : List (Option ℕ)) (firstOut firstIn : Option ℕ) → LostAll Incoming m P t0 s0 t1 s1 firstOut → LostAll Outgoing m P t1 s1 t2 s2 firstIn → Updated m P t0 s0 t2 s2 firstOut firstIn
updated m P t0 t1 t2 s0 s1 s2 firstOut firstIn a b = record {
  sorted = λ outs ins us f g h. b.sorted ins (all_to_front outs us) g (a.sorted outs us f h);
  ins = λ outs ins us f g h z k. ap (λ l. get_or l z 0) b.other ∙ a.falls outs us f h z k;
  outs = λ outs ins us f g h z k. b.falls ins (all_to_front outs us) g (a.sorted outs us f h) z (has_all outs us z ∙ k) ∙ ap (λ l. get_or l z 0 - occurrences ins z) a.other;
  links = same_links t2 t1 t0 b.links a.links;
}
