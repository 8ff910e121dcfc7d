-- A node loses an arc and moves to the front of its class.
use Rattle.std.proofs.Common.{◌≡◌, ℕ, ◌-◌, ◌*◌, ◌<◌, ◌≤◌, true, false, not, eqb, ◌≢◌, List, ◌∷◌, length, get_or, set, Option, sym, refl, ap, ◌∙◌, subst, ⊎_elim, arith}
use Rattle.std.proofs.lemmas.List.{length-set, get_or-set_same, get_or-set_other, get_or_past}
use Rattle.std.proofs.lemmas.Bool.{cases_eq, cases_lt, eq-eqb, ne_eqb, true≢false, cond-true, cond-false, and_parts}
use Rattle.std.proofs.lemmas.Bool.Decides.{nat_tests}
use Rattle.linked_list.specs.Places.{is_in, at}
use Rattle.network.specs.Counting.{has, without, one}
use Rattle.network.proofs.Sums.{has_without}
use Rattle.greedy_order.specs.Part3Order.{to_front}
use Rattle.network.specs.declared.direction.CompactDirection.{CompactDirection}
use Rattle.network.specs.declared.direction.CompactDirection.TheVariants.{Outgoing, Incoming}
use Rattle.fas_layout.specs.Columns.{Columns, SameLinks, SameButPositions, class_of, class_at}
use Rattle.network.specs.Directions.{opposite}
use Rattle.fas_layout.specs.Following.{degrees, LostOne}
use Rattle.fas_layout.specs.Classes.{Filed, Sorted}
use Rattle.fas_layout.proofs.Filing.{filed_inside, refile}

pub class_wide : (m o i : ℕ) → o ≤ m → i ≤ m → class_of m o i ≤ 2 * m
class_wide m o i a b = grind (arith, nat_tests)

pub front_taken : (y : ℕ) (us : List ℕ) → has us y ≡ false → to_front y us ≡ us
front_taken y us h = cond-false (has us y) (y ∷ without y us) us h

pub front_untaken : (y : ℕ) (us : List ℕ) → has us y ≡ true → to_front y us ≡ y ∷ without y us
front_untaken y us h = cond-true (has us y) (y ∷ without y us) us h

without_not : (y : ℕ) (us : List ℕ) → has (without y us) y ≡ false
without_not y us = let q = has_without y us y in let t = eq-eqb y y refl in grind arith

without_other : (y : ℕ) (us : List ℕ) (z : ℕ) → has (without y us) z ≡ true → (has us z ≡ true) × (z ≢ y)
without_other y us z h = let p = and_parts (has us z) (not (eqb z y)) (sym (has_without y us z) ∙ h) in (p.0, λ e. let t = eq-eqb z y e in let q = p.1 in let w : true ≡ false = grind arith in true≢false w)

-- a degree that is lowered at y
pub lowered : (I K : List ℕ) (y : ℕ) → K ≡ set I y (get_or I y 0 - 1) → (z : ℕ) → get_or K z 0 ≡ get_or I z 0 - one (eqb y z)
lowered I K y b z = rw b (⊎_elim
    (λ (e : y ≡ z). subst (λ v. get_or (set I y (get_or I y 0 - 1)) v 0 ≡ get_or I v 0 - one (eqb y v)) e (let t = eq-eqb y y refl in let w : one (eqb y y) ≡ 1 = ap one t in ⊎_elim
    (λ (l : y < length I). let g = get_or-set_same I y (get_or I y 0 - 1) 0 l in omega arith)
    (λ (l : length I ≤ y). let g = get_or_past (set I y (get_or I y 0 - 1)) y 0 (let n = length-set I y (get_or I y 0 - 1) in omega arith) in let h = get_or_past I y 0 l in omega arith)
    (cases_lt y (length I))))
    (λ (e : y ≢ z). let t = ne_eqb y z e in let w : one (eqb y z) ≡ 0 = ap one t in let g = get_or-set_other I y z (get_or I y 0 - 1) 0 (λ q. e (sym q)) in omega arith)
    (cases_eq y z))

pub lowered_other : (I K : List ℕ) (y : ℕ) → ((z : ℕ) → get_or K z 0 ≡ get_or I z 0 - one (eqb y z)) → (z : ℕ) → z ≢ y → get_or K z 0 ≡ get_or I z 0
lowered_other I K y h z e = let t = ne_eqb y z (λ q. e (sym q)) in let w : one (eqb y z) ≡ 0 = ap one t in let q = h z in omega arith

-- y is taken out of its class c, its degrees change, and it comes to the front of its class d
module _ (m y c d : ℕ) (t0 t1 t2 t3 : Columns) (s0 s1 s2 : List (Option ℕ))
    (unfiled : (D : ℕ → ℕ) (us : List ℕ) → D y ≡ c → has us y ≡ true → Filed t0.positions D s0 us → Filed t1.positions D s1 (without y us))
    (lay : t2.positions ≡ t1.positions)
    (filed : (D : ℕ → ℕ) (us : List ℕ) → D y ≡ d → has us y ≡ false → y < length t2.positions → d < length s1 → Filed t2.positions D s1 us → Filed t3.positions D s2 (y ∷ us))
    (c-is : c ≡ class_at m t0 y)
    (d-is : d ≡ class_at m t2 y)
    (outs3 : t3.out_degrees ≡ t2.out_degrees) (ins3 : t3.in_degrees ≡ t2.in_degrees)
    (rest : (z : ℕ) → z ≢ y → (get_or t2.out_degrees z 0 ≡ get_or t0.out_degrees z 0) × (get_or t2.in_degrees z 0 ≡ get_or t0.in_degrees z 0))
    (here : (get_or t2.out_degrees y 0 ≤ get_or t0.out_degrees y 0) × (get_or t2.in_degrees y 0 ≤ get_or t0.in_degrees y 0))
    (len1 : length s1 ≡ length s0) (len2 : length s2 ≡ length s0) (len_e : length t2.positions ≡ length t0.positions) where
  same_class : (us : List ℕ) (z : ℕ) → has (without y us) z ≡ true → class_at m t0 z ≡ class_at m t2 z
  same_class us z h =
      let o = rest z (without_other y us z h).1 in
      ap (λ v. class_of m v (get_or t0.in_degrees z 0)) (sym o.0) ∙ ap (λ v. class_of m (get_or t2.out_degrees z 0) v) (sym o.1)

  few_here : (us : List ℕ) → Sorted m t0 s0 us → has us y ≡ true → (get_or t2.out_degrees y 0 ≤ m) × (get_or t2.in_degrees y 0 ≤ m)
  few_here us s h = let a = s.few y h in let b = a.0 in let e = a.1 in let p = here.0 in let q = here.1 in (omega arith, omega arith)

  few_all : (us : List ℕ) → Sorted m t0 s0 us → has us y ≡ true → (z : ℕ) → has (y ∷ without y us) z ≡ true → (get_or t2.out_degrees z 0 ≤ m) × (get_or t2.in_degrees z 0 ≤ m)
  few_all us s h z k = ⊎_elim
      (λ (e : y ≡ z). subst (λ v. (get_or t2.out_degrees v 0 ≤ m) × (get_or t2.in_degrees v 0 ≤ m)) e (few_here us s h))
      (λ (e : y ≢ z).
      let t = ne_eqb y z e in
      let q = has_without y us z in
      let u : has us z ≡ true = grind arith in
      let o = rest z (λ w. e (sym w)) in let o0 = o.0 in let o1 = o.1 in
      let a = s.few z u in let a0 = a.0 in let a1 = a.1 in
      (omega arith, omega arith))
      (cases_eq y z)

  class3 : (z : ℕ) → class_at m t3 z ≡ class_at m t2 z
  class3 z = ap (λ l. class_of m (get_or l z 0) (get_or t3.in_degrees z 0)) outs3 ∙ ap (λ l. class_of m (get_or t2.out_degrees z 0) (get_or l z 0)) ins3

  pub moved : (us : List ℕ) → Sorted m t0 s0 us → has us y ≡ true → Sorted m t3 s2 (to_front y us)
  moved us s h =
      let D = class_at m t0 in
      let D2 = class_at m t2 in
      let f1 = refile t1.positions D D2 s1 (without y us) (same_class us) (unfiled D us (sym c-is) h s.filed) in
      let r : y < length t2.positions = let n = filed_inside t0.positions D s0 us (D y) y s.filed refl h in omega arith in
      let w = few_here us s h in
      let b = class_wide m (get_or t2.out_degrees y 0) (get_or t2.in_degrees y 0) w.0 w.1 in
      let wide = s.wide in
      let f2 = filed D2 (without y us) (sym d-is) (without_not y us) r (omega arith) (rw lay f1) in
      let all = few_all us s h in
      rw (front_untaken y us h) (record {
        filed = refile t3.positions D2 (class_at m t3) s2 (y ∷ without y us) (λ z q. sym (class3 z)) f2;
        wide = omega arith;
        few = rw (outs3, ins3) all;
      })

-- only the positions differ: so do not the degrees
same_degrees : (d : CompactDirection) (a b : Columns) → SameButPositions a b → degrees d a ≡ degrees d b
same_degrees Outgoing a b k = k.out_degrees
same_degrees Incoming a b k = k.in_degrees

pub same_links : (a b c : Columns) → SameLinks a b → SameLinks b c → SameLinks a c
same_links a b c p q = record { outs = p.outs ∙ q.outs; ins = p.ins ∙ q.ins; placed = p.placed ∙ q.placed }

pub links_same : (a : Columns) → SameLinks a a
links_same a = record { outs = refl; ins = refl; placed = refl }

-- an untaken node is taken out of its class, its degree falls, and it is put in again at the front
module _ (d : CompactDirection) (m y c e : ℕ) (t0 t1 t2 t3 : Columns) (s0 s1 s2 : List (Option ℕ))
    (unfiled : (D : ℕ → ℕ) (us : List ℕ) → D y ≡ c → has us y ≡ true → Filed t0.positions D s0 us → Filed t1.positions D s1 (without y us))
    (k1 : SameButPositions t1 t0)
    (lay : t2.positions ≡ t1.positions) (falls2 : degrees d t2 ≡ set (degrees d t1) y (get_or (degrees d t1) y 0 - 1)) (other2 : degrees (opposite d) t2 ≡ degrees (opposite d) t1) (links2 : SameLinks t2 t1)
    (filed : (D : ℕ → ℕ) (us : List ℕ) → D y ≡ e → has us y ≡ false → y < length t2.positions → e < length s1 → Filed t2.positions D s1 us → Filed t3.positions D s2 (y ∷ us))
    (k3 : SameButPositions t3 t2)
    (c-is : c ≡ class_at m t0 y) (e-is : e ≡ class_at m t2 y)
    (len1 : length s1 ≡ length s0) (len2 : length s2 ≡ length s0) (len_e : length t2.positions ≡ length t0.positions)
    (standing : is_in (at t0.positions y) ≡ true) where
  falls : (z : ℕ) → get_or (degrees d t2) z 0 ≡ get_or (degrees d t0) z 0 - one (eqb y z)
  falls = lowered (degrees d t0) (degrees d t2) y (falls2 ∙ ap (λ l. set l y (get_or l y 0 - 1)) (same_degrees d t1 t0 k1))

  others : degrees (opposite d) t2 ≡ degrees (opposite d) t0
  others = other2 ∙ same_degrees (opposite d) t1 t0 k1

  both : (d : CompactDirection) → ((z : ℕ) → get_or (degrees d t2) z 0 ≡ get_or (degrees d t0) z 0 - one (eqb y z)) → degrees (opposite d) t2 ≡ degrees (opposite d) t0
      → ((z : ℕ) → z ≢ y → (get_or t2.out_degrees z 0 ≡ get_or t0.out_degrees z 0) × (get_or t2.in_degrees z 0 ≡ get_or t0.in_degrees z 0)) × ((get_or t2.out_degrees y 0 ≤ get_or t0.out_degrees y 0) × (get_or t2.in_degrees y 0 ≤ get_or t0.in_degrees y 0))
  both Outgoing f o = (
    (λ z n. (lowered_other t0.out_degrees t2.out_degrees y f z n, ap (λ l. get_or l z 0) o)),
    (let a = f y in omega arith, let b = ap (λ l. get_or l y 0) o in omega arith),
  )
  both Incoming f o = (
    (λ z n. (ap (λ l. get_or l z 0) o, lowered_other t0.in_degrees t2.in_degrees y f z n)),
    (let b = ap (λ l. get_or l y 0) o in omega arith, let a = f y in omega arith),
  )

  pub lost_one : LostOne d m t0 s0 t3 s2 y
  lost_one = record {
    sorted = λ us s. moved m y c e t0 t1 t2 t3 s0 s1 s2 unfiled lay filed c-is e-is k3.out_degrees k3.in_degrees (both d falls others).0 (both d falls others).1 len1 len2 len_e us s (sym (s.filed.standing y) ∙ standing);
    falls = λ us s z h. ap (λ l. get_or l z 0) (same_degrees d t3 t2 k3) ∙ falls z;
    other = same_degrees (opposite d) t3 t2 k3 ∙ others;
    links = same_links t3 t2 t0 k3.links (same_links t2 t1 t0 links2 k1.links);
  }

-- a taken node stays where it is
pub lost_taken : (d : CompactDirection) (m y : ℕ) (t : Columns) (s : List (Option ℕ)) → is_in (at t.positions y) ≡ false → LostOne d m t s t s y
lost_taken d m y t s free = record {
  sorted = λ us h. subst (Sorted m t s) (sym (front_taken y us (gone us h))) h;
  falls = λ us h z k.
      let ne : y ≢ z = λ e. true≢false (sym k ∙ ap (has us) (sym e) ∙ gone us h) in
      let w : one (eqb y z) ≡ 0 = ap one (ne_eqb y z ne) in omega arith;
  other = refl;
  links = links_same t;
}
  where
    gone : (us : List ℕ) → Sorted m t s us → has us y ≡ false
    gone us h = sym (h.filed.standing y) ∙ free

pub same_but : (a b c : Columns) → SameButPositions a b → SameButPositions b c → SameButPositions a c
same_but a b c p q = record { out_degrees = p.out_degrees ∙ q.out_degrees; in_degrees = p.in_degrees ∙ q.in_degrees; links = same_links a b c p.links q.links }
