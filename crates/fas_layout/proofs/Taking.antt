-- A node is taken out of the tables.
use Rattle.std.proofs.Common.{◌≡◌, ℕ, ◌≤◌, true, not, eqb, List, length, get_or, Some, None, Option, sym, ap, ◌∙◌, arith}
use Rattle.std.proofs.lemmas.Bool.{and_parts}
use Rattle.linked_list.specs.Chains.{first}
use Rattle.network.specs.Counting.{has, without}
use Rattle.network.specs.Network.{Link}
use Rattle.network.proofs.Sums.{has_without}
use Rattle.greedy_order.specs.Part1Degrees.{out_degree, in_degree}
use Rattle.greedy_order.specs.Part3Order.{out_neighbours, in_neighbours, after_taking}
use Rattle.greedy_order.proofs.Folded.{same_out, same_in}
use Rattle.greedy_order.proofs.Steps.{step_out, step_in}
use Rattle.fas_layout.specs.Columns.{Columns, Neighbours, SameButPositions, class_of, class_at}
use Rattle.fas_layout.specs.Classes.{of_class, Filed, Sorted}
use Rattle.fas_layout.specs.Following.{Follows, Updated}
use Rattle.fas_layout.specs.Stages.{class_in, Stands, Took, Capped, lifted}
use Rattle.fas_layout.proofs.Filing.{first_keep, keep_same, refile}
use Rattle.fas_layout.proofs.Chosen.{Few, capped_taken}
use Rattle.fas_layout.proofs.Counted.{occurrences_out, occurrences_in, taking_is, has_taking}

pub stored_class : (m : ℕ) (arcs : List Link) (P : Neighbours) (t : Columns) (starts : List (Option ℕ)) (us : List ℕ) → Stands m arcs P t starts us → (y : ℕ) → has us y ≡ true → class_at m t y ≡ class_in m arcs us y
stored_class m arcs P t starts us s y h = let a = s.outs y h in let b = s.ins y h in cc

pub stored_keep : (m : ℕ) (arcs : List Link) (P : Neighbours) (t : Columns) (starts : List (Option ℕ)) (us : List ℕ) → Stands m arcs P t starts us → (c : ℕ)
    → of_class (class_at m t) c us ≡ of_class (class_in m arcs us) c us
stored_keep m arcs P t starts us s c = keep_same _ _ us (λ y h. ap (λ v. eqb v c) (stored_class m arcs P t starts us s y h))

pub few_of : (m : ℕ) (arcs : List Link) (P : Neighbours) (t : Columns) (starts : List (Option ℕ)) (us : List ℕ) → Stands m arcs P t starts us → Few m arcs us
few_of m arcs P t starts us s y h = let a = s.outs y h in let b = s.ins y h in let f = s.sorted.few y h in let f0 = f.0 in let f1 = f.1 in (omega arith, omega arith)

-- classes that go by the same degrees are the same
pub same_classes : (m : ℕ) (t u : Columns) → u.out_degrees ≡ t.out_degrees → u.in_degrees ≡ t.in_degrees → (z : ℕ) → class_at m t z ≡ class_at m u z
same_classes m t u a b z = ap (λ l. class_of m (get_or l z 0) (get_or t.in_degrees z 0)) (sym a) ∙ ap (λ l. class_of m (get_or u.out_degrees z 0) (get_or l z 0)) (sym b)

-- the tables stand as they did where all that is asked of them is the same
pub stands_same : (m : ℕ) (arcs : List Link) (P : Neighbours) (t u : Columns) (s s' : List (Option ℕ)) (us : List ℕ) → u.out_degrees ≡ t.out_degrees → u.in_degrees ≡ t.in_degrees → u.first_outs ≡ t.first_outs → u.first_ins ≡ t.first_ins
    → Filed u.positions (class_at m t) s' us → length s' ≡ length s → Stands m arcs P t s us → Stands m arcs P u s' us
stands_same m arcs P t u s s' us o i fo fi f len h =
    let wide = h.sorted.wide in
    record {
      sorted = record { filed = refile u.positions (class_at m t) (class_at m u) s' us (λ z q. same_classes m t u o i z) f; wide = omega arith; few = rw (o, i) h.sorted.few };
      outs = rw o h.outs;
      ins = rw i h.ins;
      targets = rw fo h.targets;
      sources = rw fi h.sources;
    }

pub none_took : (m : ℕ) (arcs : List Link) (P : Neighbours) (t0 t1 : Columns) (s0 s1 : List (Option ℕ)) (us : List ℕ) (c : ℕ) → Stands m arcs P t0 s0 us
    → ((D : ℕ → ℕ) (vs : List ℕ) → Filed t0.positions D s0 vs → (None ≡ first (of_class D c vs)) × Filed t1.positions D s1 vs)
    → SameButPositions t1 t0 → length s1 ≡ length s0 → Took m arcs P t1 s1 us c None
none_took m arcs P t0 t1 s0 s1 us c s popped k len1 =
    let f = popped (class_at m t0) us s.sorted.filed in
    record {
      picks = f.0 ∙ ap first (stored_keep m arcs P t0 s0 us s c);
      leaves = stands_same m arcs P t0 t1 s0 s1 us k.out_degrees k.in_degrees k.links.outs k.links.ins f.1 len1 s;
    }

module _ (m : ℕ) (arcs : List Link) (P : Neighbours) (t0 t1 t2 : Columns) (s0 s1 s2 : List (Option ℕ)) (us : List ℕ) (c x : ℕ)
    (s : Stands m arcs P t0 s0 us)
    (popped : (D : ℕ → ℕ) (vs : List ℕ) → Filed t0.positions D s0 vs → (Some x ≡ first (of_class D c vs)) × Filed t1.positions D s1 (without x vs))
    (k1 : SameButPositions t1 t0) (len1 : length s1 ≡ length s0)
    (up : Updated m P t1 s1 t2 s2 (get_or t1.first_outs x None) (get_or t1.first_ins x None)) where
  it : has us x ≡ true
  it = (first_keep (λ y. eqb (class_at m t0 y) c) us x (sym (popped (class_at m t0) us s.sorted.filed).0)).0

  was : (z : ℕ) → has (without x us) z ≡ true → has us z ≡ true
  was z h = (and_parts (has us z) (not (eqb z x)) (sym (has_without x us z) ∙ h)).0

  sorted1 : Sorted m t1 s1 (without x us)
  sorted1 =
      let wide = s.sorted.wide in
      let few : (y : ℕ) → has (without x us) y ≡ true → (get_or t0.out_degrees y 0 ≤ m) × (get_or t0.in_degrees y 0 ≤ m) = λ y h. s.sorted.few y (was y h) in
      record {
        filed = refile t1.positions (class_at m t0) (class_at m t1) s1 (without x us) (λ z q. same_classes m t0 t1 k1.out_degrees k1.in_degrees z) (popped (class_at m t0) us s.sorted.filed).1;
        wide = omega arith;
        few = rw (k1.out_degrees, k1.in_degrees) few;
      }

  follow1 : Follows P 0 (get_or t1.first_outs x None) (out_neighbours arcs x)
  follow1 = rw k1.links.outs (s.targets x it)

  follow2 : Follows P 0 (get_or t1.first_ins x None) (in_neighbours arcs x)
  follow2 = rw k1.links.ins (s.sources x it)

  at_end : (z : ℕ) → has (after_taking arcs x us) z ≡ true → has (without x us) z ≡ true
  at_end z h = sym (has_taking arcs x us z) ∙ h

  end_sorted : Sorted m t2 s2 (after_taking arcs x us)
  end_sorted = rw (taking_is arcs x us) (up.sorted (out_neighbours arcs x) (in_neighbours arcs x) (without x us) follow1 follow2 sorted1)

  end_outs : (z : ℕ) → has (after_taking arcs x us) z ≡ true → get_or t2.out_degrees z 0 ≡ out_degree arcs (after_taking arcs x us) z
  end_outs z h =
      let k = at_end z h in
      let a = up.outs (out_neighbours arcs x) (in_neighbours arcs x) (without x us) follow1 follow2 sorted1 z k in
      let b : get_or t1.out_degrees z 0 ≡ get_or t0.out_degrees z 0 = ap (λ l. get_or l z 0) k1.out_degrees in
      let d = s.outs z (was z k) in
      let e = step_out arcs us x z it in
      let f = occurrences_in arcs x z in
      let g = same_out arcs (after_taking arcs x us) (without x us) (has_taking arcs x us) z in
      omega arith

  end_ins : (z : ℕ) → has (after_taking arcs x us) z ≡ true → get_or t2.in_degrees z 0 ≡ in_degree arcs (after_taking arcs x us) z
  end_ins z h =
      let k = at_end z h in
      let a = up.ins (out_neighbours arcs x) (in_neighbours arcs x) (without x us) follow1 follow2 sorted1 z k in
      let b : get_or t1.in_degrees z 0 ≡ get_or t0.in_degrees z 0 = ap (λ l. get_or l z 0) k1.in_degrees in
      let d = s.ins z (was z k) in
      let e = step_in arcs us x z it in
      let f = occurrences_out arcs x z in
      let g = same_in arcs (after_taking arcs x us) (without x us) (has_taking arcs x us) z in
      omega arith

  pub took : Took m arcs P t2 s2 us c (Some x)
  took = record {
    picks = (popped (class_at m t0) us s.sorted.filed).0 ∙ ap first (stored_keep m arcs P t0 s0 us s c);
    leaves = record {
      sorted = end_sorted;
      outs = end_outs;
      ins = end_ins;
      targets = λ z h. rw (up.links.outs, k1.links.outs) (s.targets z (was z (at_end z h)));
      sources = λ z h. rw (up.links.ins, k1.links.ins) (s.sources z (was z (at_end z h)));
    };
  }

pub took_capped : (m : ℕ) (arcs : List Link) (P : Neighbours) (t0 t1 : Columns) (s0 s1 : List (Option ℕ)) (us : List ℕ) (c x top top' d : ℕ) → Stands m arcs P t0 s0 us
    → ((D : ℕ → ℕ) (vs : List ℕ) → Filed t0.positions D s0 vs → (Some x ≡ first (of_class D c vs)) × Filed t1.positions D s1 (without x vs))
    → t1.out_degrees ≡ t0.out_degrees → d ≡ get_or t1.out_degrees x 0 → top' ≡ lifted m top d → Capped m arcs top us → Capped m arcs top' (after_taking arcs x us)
took_capped m arcs P t0 t1 s0 s1 us c x top top' d s popped outs1 d-is t-is cap =
    let it = (first_keep (λ y. eqb (class_at m t0 y) c) us x (sym (popped (class_at m t0) us s.sorted.filed).0)).0 in
    let e : d ≡ out_degree arcs us x = d-is ∙ ap (λ l. get_or l x 0) outs1 ∙ s.outs x it in
    rw (t-is, e) (capped_taken m arcs us x top (few_of m arcs P t0 s0 us s) it cap)
