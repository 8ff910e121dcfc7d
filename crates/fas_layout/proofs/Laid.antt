-- Arcs are laid out one before the other.
use Rattle.std.proofs.Common.{◌≡◌, ℕ, zero, suc, ◌+◌, ◌-◌, ◌*◌, ◌<◌, ◌≤◌, true, eqb, ltb, ◌≢◌, List, [], ◌∷◌, length, get_or, set, Some, None, Option, sym, refl, ap, ◌∙◌, subst, ⊎_elim, arith}
use Rattle.std.proofs.lemmas.List.{length-set, get_or-set_same, get_or-set_other}
use Rattle.std.proofs.lemmas.Bool.Decides.{nat_tests}
use Rattle.std.proofs.lemmas.Bool.{cases_eq, cond-true, cond-false, eq-eqb, ne_eqb, ltb-true, lt-ltb}
use Rattle.linked_list.specs.Places.{at}
use Rattle.network.specs.Counting.{one, has}
use Rattle.network.specs.Network.{Link}
use Rattle.network.proofs.Touched.{Covers}
use Rattle.greedy_order.specs.Part1Degrees.{out_degree, in_degree}
use Rattle.greedy_order.specs.Part3Order.{out_neighbours, in_neighbours}
use Rattle.fas_layout.specs.Columns.{Columns, Neighbours, SameButPositions, class_at}
use Rattle.fas_layout.specs.Classes.{Filed}
use Rattle.fas_layout.specs.Following.{Follows}
use Rattle.fas_layout.specs.Stages.{Stands}
use Rattle.network.specs.declared.direction.CompactDirection.TheVariants.{Outgoing, Incoming}
use Rattle.fas_layout.specs.Laying.{EndsBelow, down, Sized, link_at, links_from, leaving, coming, Laid, Led, LeadsTo}
use Rattle.fas_layout.proofs.Filing.{refile}
use Rattle.fas_layout.proofs.Counted.{count_le}
use Rattle.fas_layout.proofs.Lowered.{class_wide}
use Rattle.fas_layout.proofs.Taking.{same_classes}

pub has_down : (n x : ℕ) → has (down n) x ≡ ltb x n
has_down zero x = grind (arith, nat_tests)
has_down (suc n) x = let ih = has_down n x in grind (arith, nat_tests)

pub down_below : (n x : ℕ) → has (down n) x ≡ true → x < n
down_below n x h = ltb-true x n (sym (has_down n x) ∙ h)

pub length_down : (n : ℕ) → length (down n) ≡ n
length_down zero = refl
length_down (suc n) = ap suc (length_down n)

-- a place before a list is written
follows_set : (P Q : Neighbours) (lo : ℕ) (at : Option ℕ) (l : List ℕ) (p : ℕ) (v : Option ℕ) → Q.nodes ≡ P.nodes → Q.nexts ≡ set P.nexts p v → p < lo → Follows P lo at l → Follows Q lo at l
follows_set P Q lo at [] p v same put b f = f
follows_set P Q lo at (y ∷ l) p v same put b f =
    let h : lo ≤ f.0 = f.1.1 in
    let g : get_or Q.nexts f.0 None ≡ get_or P.nexts f.0 None = ap (λ l. get_or l f.0 None) put ∙ get_or-set_other P.nexts p f.0 v None (λ e. omega arith) in
    (f.0, (f.1.0, h, subst (λ l. f.0 < length l) (sym same) f.1.2, ap (λ l. get_or l f.0 0) same ∙ f.1.3, subst (λ o. Follows Q (suc f.0) o l) (sym g) (follows_set P Q (suc f.0) (get_or P.nexts f.0 None) l p v same put (omega arith) f.1.4)))

follows_low : (P : Neighbours) (lo lo' : ℕ) (at : Option ℕ) (l : List ℕ) → lo' ≤ lo → Follows P lo at l → Follows P lo' at l
follows_low P lo lo' at [] b f = f
follows_low P lo lo' at (y ∷ l) b f = let h : lo ≤ f.0 = f.1.1 in (f.0, (f.1.0, omega arith, f.1.2, f.1.3, f.1.4))

raised : (I J : List ℕ) (x z : ℕ) → x < length I → J ≡ set I x (get_or I x 0 + 1) → get_or J z 0 ≡ one (eqb x z) + get_or I z 0
raised I J x z r e = ap (λ l. get_or l z 0) e ∙ ⊎_elim
    (λ (q : x ≡ z). subst (λ v. get_or (set I x (get_or I x 0 + 1)) v 0 ≡ one (eqb x v) + get_or I v 0) q (let w : one (eqb x x) ≡ 1 = ap one (eq-eqb x x refl) in let g = get_or-set_same I x (get_or I x 0 + 1) 0 r in omega arith))
    (λ (q : x ≢ z). let w : one (eqb x z) ≡ 0 = ap one (ne_eqb x z q) in let g = get_or-set_other I x z (get_or I x 0 + 1) 0 (λ k. q (sym k)) in omega arith)
    (cases_eq x z)

-- P1 has the out place written, P2 the in place too; t1 has the source's entry written, t2 the target's too
module _ (P P1 P2 : Neighbours) (t t1 t2 : Columns) (n p a b : ℕ) (arcs : List Link) (laid : Laid P t n (p + 2) arcs)
    (same1 : P1.nodes ≡ P.nodes) (put1 : P1.nexts ≡ set P.nexts p (get_or t.first_outs a None))
    (same2 : P2.nodes ≡ P1.nodes) (put2 : P2.nexts ≡ set P1.nexts (p + 1) (get_or t1.first_ins b None))
    (fo1 : t1.first_outs ≡ set t.first_outs a (Some p)) (fi1 : t1.first_ins ≡ t.first_ins) (od1 : t1.out_degrees ≡ set t.out_degrees a (get_or t.out_degrees a 0 + 1)) (id1 : t1.in_degrees ≡ t.in_degrees)
    (fo2 : t2.first_outs ≡ t1.first_outs) (fi2 : t2.first_ins ≡ set t1.first_ins b (Some (p + 1))) (od2 : t2.out_degrees ≡ t1.out_degrees) (id2 : t2.in_degrees ≡ set t1.in_degrees b (get_or t1.in_degrees b 0 + 1))
    (size : Sized t n) (even : length P.nexts ≡ length P.nodes) (ra : a < n) (rb : b < n) (rp : p + 1 < length P.nodes)
    (target : get_or P.nodes p 0 ≡ b) (source : get_or P.nodes (p + 1) 0 ≡ a) where
  same : P2.nodes ≡ P.nodes
  same = same2 ∙ same1

  old : (at : Option ℕ) (l : List ℕ) → Follows P (p + 2) at l → Follows P2 (p + 2) at l
  old at l f = follows_set P1 P2 (p + 2) at l (p + 1) _ same2 put2 (omega arith) (follows_set P P1 (p + 2) at l p _ same1 put1 (omega arith) f)

  here : get_or P2.nexts p None ≡ get_or t.first_outs a None
  here = ap (λ l. get_or l p None) put2 ∙ get_or-set_other P1.nexts (p + 1) p _ None (λ e. omega arith) ∙ ap (λ l. get_or l p None) put1 ∙ get_or-set_same P.nexts p _ None (omega arith)

  there : get_or P2.nexts (p + 1) None ≡ get_or t.first_ins b None
  there = ap (λ l. get_or l (p + 1) None) put2 ∙ get_or-set_same P1.nexts (p + 1) _ None (let n : length P1.nexts ≡ length P.nexts = ap length put1 ∙ length-set P.nexts p _ in omega arith) ∙ ap (λ l. get_or l b None) fi1

  inside : (q : ℕ) → q < length P.nodes → q < length P2.nodes
  inside q h = subst (λ l. q < length l) (sym same) h

  at_source : Follows P2 p (Some p) (b ∷ out_neighbours arcs a)
  at_source = (
    p,
    (
      refl,
      omega arith,
      inside p (omega arith),
      ap (λ l. get_or l p 0) same ∙ target,
      subst (λ o. Follows P2 (suc p) o (out_neighbours arcs a)) (sym here) (follows_low P2 (p + 2) (suc p) _ (out_neighbours arcs a) (omega arith) (old _ _ (laid.targets a ra))),
    ),
  )

  at_target : Follows P2 p (Some (p + 1)) (a ∷ in_neighbours arcs b)
  at_target = (
    p + 1,
    (
      refl,
      omega arith,
      inside (p + 1) rp,
      ap (λ l. get_or l (p + 1) 0) same ∙ source,
      subst (λ o. Follows P2 (suc (p + 1)) o (in_neighbours arcs b)) (sym there) (follows_low P2 (p + 2) (suc (p + 1)) _ (in_neighbours arcs b) (omega arith) (old _ _ (laid.sources b rb))),
    ),
  )

  targets2 : (z : ℕ) → z < n → Follows P2 p (get_or t2.first_outs z None) (out_neighbours ((a, b) ∷ arcs) z)
  targets2 z r = ⊎_elim
      (λ (e : a ≡ z). subst (λ v. Follows P2 p (get_or t2.first_outs v None) (out_neighbours ((a, b) ∷ arcs) v)) e
      (rw (fo2, fo1, get_or-set_same t.first_outs a (Some p) None (let k = size.first_outs in omega arith), cond-true (eqb a a) (b ∷ out_neighbours arcs a) (out_neighbours arcs a) (eq-eqb a a refl)) at_source))
      (λ (e : a ≢ z).
      rw (fo2, fo1, get_or-set_other t.first_outs a z (Some p) None (λ q. e (sym q)), cond-false (eqb a z) (b ∷ out_neighbours arcs z) (out_neighbours arcs z) (ne_eqb a z e))
      (follows_low P2 (p + 2) p _ (out_neighbours arcs z) (omega arith) (old _ _ (laid.targets z r))))
      (cases_eq a z)

  sources2 : (z : ℕ) → z < n → Follows P2 p (get_or t2.first_ins z None) (in_neighbours ((a, b) ∷ arcs) z)
  sources2 z r = ⊎_elim
      (λ (e : b ≡ z). subst (λ v. Follows P2 p (get_or t2.first_ins v None) (in_neighbours ((a, b) ∷ arcs) v)) e
      (rw (fi2, fi1, get_or-set_same t.first_ins b (Some (p + 1)) None (let k = size.first_ins in omega arith), cond-true (eqb b b) (a ∷ in_neighbours arcs b) (in_neighbours arcs b) (eq-eqb b b refl)) at_target))
      (λ (e : b ≢ z).
      rw (fi2, fi1, get_or-set_other t.first_ins b z (Some (p + 1)) None (λ q. e (sym q)), cond-false (eqb b z) (a ∷ in_neighbours arcs z) (in_neighbours arcs z) (ne_eqb b z e))
      (follows_low P2 (p + 2) p _ (in_neighbours arcs z) (omega arith) (old _ _ (laid.sources z r))))
      (cases_eq b z)

  pub laid_more : Laid P2 t2 n p ((a, b) ∷ arcs)
  laid_more = record {
    targets = targets2;
    sources = sources2;
    outs = λ z r. raised t.out_degrees t2.out_degrees a z (let k = size.out_degrees in omega arith) (od2 ∙ od1) ∙ ap (λ v. one (eqb a z) + v) (laid.outs z r);
    ins = λ z r. raised t.in_degrees t2.in_degrees b z (let k = size.in_degrees in omega arith) (id2 ∙ ap (λ l. set l b (get_or l b 0 + 1)) id1) ∙ ap (λ v. one (eqb b z) + v) (laid.ins z r);
  }

-- the arc from a to b gets the places p and p + 1
pub laid_arc : (P P1 P2 : Neighbours) (t t1 t2 : Columns) (n p a b : ℕ) → Sized t n → length P.nexts ≡ length P.nodes → a < n → b < n → p + 1 < length P.nodes → get_or P.nodes p 0 ≡ b → get_or P.nodes (p + 1) 0 ≡ a
    → LeadsTo P P1 p (get_or t.first_outs a None) → Led Outgoing t t1 a p → LeadsTo P1 P2 (p + 1) (get_or t1.first_ins b None) → Led Incoming t1 t2 b (p + 1)
    → (arcs : List Link) → Laid P t n (p + 2) arcs → Laid P2 t2 n p ((a, b) ∷ arcs)
laid_arc P P1 P2 t t1 t2 n p a b size even ra rb rp target source l1 e1 l2 e2 arcs laid =
    laid_more P P1 P2 t t1 t2 n p a b arcs laid l1.nodes l1.nexts l2.nodes l2.nexts
    e1.begins e1.other_begins e1.rises e1.other_rises e2.other_begins e2.begins e2.other_rises e2.rises
    size even ra rb rp target source

-- blank entries have no arcs laid out
pub laid_none : (P : Neighbours) (t : Columns) (n lo : ℕ) → ((z : ℕ) → (get_or t.first_outs z None ≡ None) × (get_or t.first_ins z None ≡ None) × (get_or t.out_degrees z 0 ≡ 0) × (get_or t.in_degrees z 0 ≡ 0)) → Laid P t n lo []
laid_none P t n lo h = record { targets = λ z r. (h z).0; sources = λ z r. (h z).1; outs = λ z r. (h z).2; ins = λ z r. (h z).3 }

pub length_links : (nodes : List ℕ) (i k : ℕ) → length (links_from nodes i k) ≡ k
length_links nodes i zero = refl
length_links nodes i (suc k) = ap suc (length_links nodes (suc i) k)

-- one more arc, of the m, is laid out
pub laid_step : (P P' : Neighbours) (t t' : Columns) (n m i : ℕ) → 0 < i → i ≤ m → P'.nodes ≡ P.nodes
    → ((rest : List Link) → Laid P t n (2 * (i - 1) + 2) rest → Laid P' t' n (2 * (i - 1)) (link_at P.nodes (i - 1) ∷ rest))
    → Laid P t n (2 * i) (links_from P.nodes i (m - i)) → Laid P' t' n (2 * (i - 1)) (links_from P'.nodes (i - 1) (m - (i - 1)))
laid_step P P' t t' n m i a b same step l =
    let e : 2 * i ≡ 2 * (i - 1) + 2 = omega arith in
    let k : suc (i - 1) ≡ i = omega arith in
    let w : m - (i - 1) ≡ suc (m - i) = omega arith in
    let q : links_from P.nodes (i - 1) (m - (i - 1)) ≡ link_at P.nodes (i - 1) ∷ links_from P.nodes i (m - i) = ap (links_from P.nodes (i - 1)) w ∙ ap (λ v. link_at P.nodes (i - 1) ∷ links_from P.nodes v (m - i)) k in
    subst (λ v. Laid P' t' n (2 * (i - 1)) (links_from v (i - 1) (m - (i - 1)))) (sym same)
    (subst (Laid P' t' n (2 * (i - 1))) (sym q) (step (links_from P.nodes i (m - i)) (subst (λ v. Laid P t n v (links_from P.nodes i (m - i))) e l)))

pub laid_few : (P : Neighbours) (t : Columns) (n lo : ℕ) (arcs : List Link) → Laid P t n lo arcs → (z : ℕ) → z < n → (get_or t.out_degrees z 0 ≤ length arcs) × (get_or t.in_degrees z 0 ≤ length arcs)
laid_few P t n lo arcs l z r =
    let a = l.outs z r in let b = l.ins z r in
    let e = count_le (λ x. eqb x.0 z) arcs in
    let f = count_le (λ x. eqb x.1 z) arcs in
    (omega arith, omega arith)

pub laid_wide : (P : Neighbours) (t : Columns) (n lo m : ℕ) (arcs : List Link) → Laid P t n lo arcs → length arcs ≤ m → (z : ℕ) → z < n → class_at m t z ≤ 2 * m
laid_wide P t n lo m arcs l b z r =
    let f = laid_few P t n lo arcs l z r in
    let f0 = f.0 in let f1 = f.1 in
    class_wide m (get_or t.out_degrees z 0) (get_or t.in_degrees z 0) (omega arith) (omega arith)

out_all : (arcs : List Link) (us : List ℕ) (z : ℕ) → Covers us arcs → out_degree arcs us z ≡ leaving arcs z
unfolding out_degree
out_all [] us z h = refl
out_all (a ∷ arcs) us z h = let ih = out_all arcs us z h.2 in let b = h.1 in grind arith

in_all : (arcs : List Link) (us : List ℕ) (z : ℕ) → Covers us arcs → in_degree arcs us z ≡ coming arcs z
unfolding in_degree
in_all [] us z h = refl
in_all (a ∷ arcs) us z h = let ih = in_all arcs us z h.2 in let b = h.0 in grind arith

-- both ends of every arc are entries
pub ends_cover : (nodes : List ℕ) (m n i k : ℕ) → i + k ≤ m → EndsBelow nodes m n → Covers (down n) (links_from nodes i k)
ends_cover nodes m n i zero l h = tt
ends_cover nodes m n i (suc k) l h =
    let e = h i (omega arith) in
    (has_down n (link_at nodes i).0 ∙ lt-ltb (link_at nodes i).0 n e.0, has_down n (link_at nodes i).1 ∙ lt-ltb (link_at nodes i).1 n e.1, ends_cover nodes m n (suc i) k (omega arith) h)

-- once the arcs are laid out and every entry is filed, the tables stand for all entries
pub laid_stands : (P : Neighbours) (t u : Columns) (starts : List (Option ℕ)) (arcs : List Link) (m n : ℕ) → length arcs ≤ m → Covers (down n) arcs → 2 * m < length starts → Laid P t n 0 arcs
    → Filed u.positions (class_at m t) starts (down n) → SameButPositions u t → Stands m arcs P u starts (down n)
laid_stands P t u starts arcs m n b co w l f k =
    let few : (y : ℕ) → has (down n) y ≡ true → (get_or t.out_degrees y 0 ≤ m) × (get_or t.in_degrees y 0 ≤ m) = λ y h. let r = down_below n y h in let q = laid_few P t n 0 arcs l y r in let q0 = q.0 in let q1 = q.1 in (omega arith, omega arith) in
    let outs : (y : ℕ) → has (down n) y ≡ true → get_or t.out_degrees y 0 ≡ out_degree arcs (down n) y = λ y h. l.outs y (down_below n y h) ∙ sym (out_all arcs (down n) y co) in
    let ins : (y : ℕ) → has (down n) y ≡ true → get_or t.in_degrees y 0 ≡ in_degree arcs (down n) y = λ y h. l.ins y (down_below n y h) ∙ sym (in_all arcs (down n) y co) in
    let targets : (y : ℕ) → has (down n) y ≡ true → Follows P 0 (get_or t.first_outs y None) (out_neighbours arcs y) = λ y h. l.targets y (down_below n y h) in
    let sources : (y : ℕ) → has (down n) y ≡ true → Follows P 0 (get_or t.first_ins y None) (in_neighbours arcs y) = λ y h. l.sources y (down_below n y h) in
    record {
      sorted = record { filed = refile u.positions (class_at m t) (class_at m u) starts (down n) (λ z q. same_classes m t u k.out_degrees k.in_degrees z) f; wide = w; few = rw (k.out_degrees, k.in_degrees) few };
      outs = rw k.out_degrees outs;
      ins = rw k.in_degrees ins;
      targets = rw k.links.outs targets;
      sources = rw k.links.ins sources;
    }
