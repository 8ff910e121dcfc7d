-- The stages of a round.
use Rattle.std.proofs.Common.{◌≡◌, ℕ, suc, ◌+◌, ◌-◌, ◌*◌, ◌<◌, ◌≤◌, true, false, eqb, List, [], ◌∷◌, ◌++◌, map, length, get_or, take, drop, set, Some, None, Option, sym, refl, ap, ◌∙◌, subst, ⊎_elim, arith}
use Rattle.std.proofs.lemmas.Bool.{cases_lt, eqb-true, eqb-false}
use Rattle.std.proofs.lemmas.List.{take-append-drop, nil_from_length}
use Rattle.linked_list.specs.Chains.{first}
use Rattle.network.specs.Counting.{has}
use Rattle.network.specs.Network.{Link}
use Rattle.network.proofs.Sums.{has_head}
use Rattle.greedy_order.specs.Part1Degrees.{out_degree, in_degree}
use Rattle.greedy_order.specs.Part2Greedy.{NoSink}
use Rattle.greedy_order.specs.Part3Order.{after_taking}
use Rattle.greedy_order.specs.Part7Folded.{run}
use Rattle.fas_layout.specs.Columns.{Columns, Neighbours, PlaceWritten, class_at}
use Rattle.fas_layout.specs.Classes.{of_class, Filed}
use Rattle.fas_layout.specs.Stages.{after_taking_if, Capped, class_in, Stands, Took, Part, Stage, Any, Neither, Nothing, Ordered}
use Rattle.fas_layout.proofs.Filing.{first_keep}
use Rattle.fas_layout.proofs.Lowered.{class_wide}
use Rattle.fas_layout.proofs.Taking.{stored_keep, few_of, stands_same}
use Rattle.fas_layout.proofs.Parts.{part_back, part_front}
use Rattle.fas_layout.proofs.Chosen.{keep_none, sources, no_sink, no_source, pick_sink, pick_source, pick_best, source_no_sink, class_diff}

-- writing a place leaves what the tables stand for
placed_stands : (m : ℕ) (arcs : List Link) (P : Neighbours) (t u : Columns) (starts : List (Option ℕ)) (us : List ℕ) (x p : ℕ) → PlaceWritten u t x p → Stands m arcs P t starts us → Stands m arcs P u starts us
placed_stands m arcs P t u starts us x p w s =
    stands_same m arcs P t u starts starts us w.out_degrees w.in_degrees w.first_outs w.first_ins (subst (λ l. Filed l (class_at m t) starts us) (sym w.positions) s.sorted.filed) refl s

-- t are the tables before a taking, u after it, and v with the place written
module _ {X : Type 0} (m : ℕ) (arcs : List Link) (P : Neighbours) (key : ℕ → X) (goal : List X) (t u v : Columns) (s s' : List (Option ℕ)) (top top' : ℕ) (order order' : List X) (front back x : ℕ)
    (kept : u.places ≡ t.places) where
  written : (p : ℕ) → PlaceWritten v u x p → v.places ≡ set t.places x p
  written p w = w.places ∙ ap (λ l. set l x p) kept

  sink_step : (us : List ℕ) → Stands m arcs P t s us → Part arcs key goal us t.places order front back → Took m arcs P u s' us 0 (Some x) → Capped m arcs top' (after_taking arcs x us)
      → order' ≡ set order (back - 1) (key x) → PlaceWritten v u x (back - 1) → Stage m arcs P key goal Any v s' top' order' front (back - 1)
  sink_step [] st p tk cap oe w = absurd (let e = tk.picks in let z : ◌≡◌ {A = ℕ} 0 1 = cc in omega arith)
  sink_step (y ∷ vs) st p tk cap oe w =
      let k = first_keep (λ z. eqb (class_in m arcs (y ∷ vs) z) 0) (y ∷ vs) x (sym tk.picks) in
      record {
        untaken = after_taking arcs x (y ∷ vs);
        stands = placed_stands m arcs P u v s' (after_taking arcs x (y ∷ vs)) x (back - 1) w tk.leaves;
        part = part_back arcs key goal order order' t.places v.places front back y vs x st.sorted.filed.once k.0 (pick_sink m arcs y vs x (few_of m arcs P t s (y ∷ vs) st) tk.picks) oe (written (back - 1) w) p;
        capped = cap;
        so = tt;
      }

  source_step : (us : List ℕ) → Stands m arcs P t s us → Part arcs key goal us t.places order front back → NoSink arcs us → Took m arcs P u s' us (2 * m) (Some x) → Capped m arcs top' (after_taking arcs x us)
      → order' ≡ set order front (key x) → PlaceWritten v u x front → Stage m arcs P key goal (NoSink arcs) v s' top' order' (front + 1) back
  source_step [] st p ns tk cap oe w = absurd (let e = tk.picks in let z : ◌≡◌ {A = ℕ} 0 1 = cc in omega arith)
  source_step (y ∷ vs) st p ns tk cap oe w =
      let few = few_of m arcs P t s (y ∷ vs) st in
      let k = first_keep (λ z. eqb (in_degree arcs (y ∷ vs) z) 0) (y ∷ vs) x (sym (tk.picks ∙ ap first (sources m arcs (y ∷ vs) few ns))) in
      record {
        untaken = after_taking arcs x (y ∷ vs);
        stands = placed_stands m arcs P u v s' (after_taking arcs x (y ∷ vs)) x front w tk.leaves;
        part = part_front arcs key goal order order' t.places v.places front back y vs x st.sorted.filed.once k.0 (pick_source m arcs y vs x few ns tk.picks) oe (written front w) p;
        capped = cap;
        so = source_no_sink arcs (y ∷ vs) x k.0 (eqb-true (in_degree arcs (y ∷ vs) x) 0 k.1) ns;
      }

  best_step : (c : ℕ) (us : List ℕ) → Stands m arcs P t s us → Part arcs key goal us t.places order front back → Neither arcs us → ((y : ℕ) → has us y ≡ true → class_in m arcs us y ≤ c) → Took m arcs P u s' us c (Some x) → Capped m arcs top' (after_taking arcs x us)
      → order' ≡ set order front (key x) → PlaceWritten v u x front → Stage m arcs P key goal Any v s' top' order' (front + 1) back
  best_step c [] st p n high tk cap oe w = absurd (let e = tk.picks in let z : ◌≡◌ {A = ℕ} 0 1 = cc in omega arith)
  best_step c (y ∷ vs) st p n high tk cap oe w =
      let k = first_keep (λ z. eqb (class_in m arcs (y ∷ vs) z) c) (y ∷ vs) x (sym tk.picks) in
      record {
        untaken = after_taking arcs x (y ∷ vs);
        stands = placed_stands m arcs P u v s' (after_taking arcs x (y ∷ vs)) x front w tk.leaves;
        part = part_front arcs key goal order order' t.places v.places front back y vs x st.sorted.filed.once k.0 (pick_best m arcs y vs c x (few_of m arcs P t s (y ∷ vs) st) n.0 n.1 high tk.picks) oe (written front w) p;
        capped = cap;
        so = tt;
      }

  pub stage_sink : order' ≡ set order (back - 1) (key x) → PlaceWritten v u x (back - 1) → ((us : List ℕ) → Stands m arcs P t s us → Took m arcs P u s' us 0 (Some x)) → ((us : List ℕ) → Stands m arcs P t s us → Capped m arcs top us → Capped m arcs top' (after_taking_if arcs (Some x) us))
      → Stage m arcs P key goal Any t s top order front back → Stage m arcs P key goal Any v s' top' order' front (back - 1)
  stage_sink oe w tk k g = sink_step g.untaken g.stands g.part (tk g.untaken g.stands) (k g.untaken g.stands g.capped) oe w

  pub stage_source : order' ≡ set order front (key x) → PlaceWritten v u x front → ((us : List ℕ) → Stands m arcs P t s us → Took m arcs P u s' us (2 * m) (Some x)) → ((us : List ℕ) → Stands m arcs P t s us → Capped m arcs top us → Capped m arcs top' (after_taking_if arcs (Some x) us))
      → Stage m arcs P key goal (NoSink arcs) t s top order front back → Stage m arcs P key goal (NoSink arcs) v s' top' order' (front + 1) back
  stage_source oe w tk k g = source_step g.untaken g.stands g.part g.so (tk g.untaken g.stands) (k g.untaken g.stands g.capped) oe w

module _ {X : Type 0} (m : ℕ) (arcs : List Link) (P : Neighbours) (key : ℕ → X) (goal : List X) (t u : Columns) (s s' : List (Option ℕ)) (top top' : ℕ) (order : List X) (front back : ℕ)
    (kept : u.places ≡ t.places) where
  same_part : (us : List ℕ) → Part arcs key goal us t.places order front back → Part arcs key goal us u.places order front back
  same_part us p = subst (λ l. Part arcs key goal us l order front back) (sym kept) p

  pub stage_no_sink : ((us : List ℕ) → Stands m arcs P t s us → Took m arcs P u s' us 0 None) → ((us : List ℕ) → Stands m arcs P t s us → Capped m arcs top us → Capped m arcs top' (after_taking_if arcs None us))
      → Stage m arcs P key goal Any t s top order front back → Stage m arcs P key goal (NoSink arcs) u s' top' order front back
  stage_no_sink tk h g = let k = tk g.untaken g.stands in record { untaken = g.untaken; stands = k.leaves; part = same_part g.untaken g.part; capped = h g.untaken g.stands g.capped; so = no_sink m arcs g.untaken (few_of m arcs P t s g.untaken g.stands) k.picks }

  pub stage_no_source : ((us : List ℕ) → Stands m arcs P t s us → Took m arcs P u s' us (2 * m) None) → ((us : List ℕ) → Stands m arcs P t s us → Capped m arcs top us → Capped m arcs top' (after_taking_if arcs None us))
      → Stage m arcs P key goal (NoSink arcs) t s top order front back → Stage m arcs P key goal (Neither arcs) u s' top' order front back
  stage_no_source tk h g = let k = tk g.untaken g.stands in record { untaken = g.untaken; stands = k.leaves; part = same_part g.untaken g.part; capped = h g.untaken g.stands g.capped; so = (g.so, no_source m arcs g.untaken (few_of m arcs P t s g.untaken g.stands) g.so k.picks) }

module _ {X : Type 0} (m : ℕ) (arcs : List Link) (P : Neighbours) (key : ℕ → X) (goal : List X) (Q R : List ℕ → Type 0) (t : Columns) (s : List (Option ℕ)) (top : ℕ) (order : List X) (front back : ℕ) where
  -- nothing is left where the halves meet
  pub stage_empty : R [] → back ≤ front → Stage m arcs P key goal Q t s top order front back → Stage m arcs P key goal R t s top order front back
  stage_empty r l g =
      let e : g.untaken ≡ [] = nil_from_length g.untaken (let k = g.part.long in omega arith) in
      record { untaken = g.untaken; stands = g.stands; part = g.part; capped = g.capped; so = subst R (sym e) r }

-- c is the highest class that has a member, or 0
module _ {X : Type 0} (m : ℕ) (arcs : List Link) (P : Neighbours) (key : ℕ → X) (goal : List X) (t u v : Columns) (s s' : List (Option ℕ)) (top top' : ℕ) (order order' : List X) (front back : ℕ) (c : ℕ)
    (above : (k : ℕ) → c < k → k ≤ top → get_or s k None ≡ None) (member : get_or s c None ≡ None → c ≡ 0) (kept : u.places ≡ t.places) where
  ranges : (us : List ℕ) → Stands m arcs P t s us → Neither arcs us → (y : ℕ) → has us y ≡ true → 1 ≤ class_in m arcs us y
  ranges us st n y h =
      let f = few_of m arcs P t s us st y h in let f0 = f.0 in let f1 = f.1 in
      let a = n.0 y h in let b = n.1 y h in
      let d = class_diff m (out_degree arcs us y) (in_degree arcs us y) a b in
      omega arith

  no_head : (us : List ℕ) → Stands m arcs P t s us → (y : ℕ) → has us y ≡ true → get_or s (class_in m arcs us y) None ≡ None → ⊥
  no_head us st y h e =
      let q = sym e ∙ (st.sorted.filed.each (class_in m arcs us y)).starts ∙ ap first (stored_keep m arcs P t s us st (class_in m arcs us y)) in
      eqb-false (class_in m arcs us y) (class_in m arcs us y) (keep_none (λ z. eqb (class_in m arcs us z) (class_in m arcs us y)) us q y h) refl

  tops : (us : List ℕ) → Stands m arcs P t s us → Neither arcs us → Capped m arcs top us → (y : ℕ) → has us y ≡ true → class_in m arcs us y ≤ c
  tops us st n cap y h = ⊎_elim
      (λ (l : c < class_in m arcs us y). absurd (no_head us st y h (above (class_in m arcs us y) l (cap y h (n.0 y h) (n.1 y h)))))
      (λ l. l) (cases_lt c (class_in m arcs us y))

  capped' : (us : List ℕ) → Stands m arcs P t s us → Neither arcs us → Capped m arcs top us → Capped m arcs c us
  capped' us st n cap y h o i = tops us st n cap y h

  pub stage_best : (x : ℕ) → order' ≡ set order front (key x) → PlaceWritten v u x front → ((us : List ℕ) → Stands m arcs P t s us → Took m arcs P u s' us c (Some x)) → ((us : List ℕ) → Stands m arcs P t s us → Capped m arcs c us → Capped m arcs top' (after_taking_if arcs (Some x) us))
      → Stage m arcs P key goal (Neither arcs) t s top order front back → Stage m arcs P key goal Any v s' top' order' (front + 1) back
  stage_best x oe w tk k g = best_step m arcs P key goal t u v s s' top top' order order' front back x kept c g.untaken g.stands g.part g.so (tops g.untaken g.stands g.so g.capped) (tk g.untaken g.stands) (k g.untaken g.stands (capped' g.untaken g.stands g.so g.capped)) oe w

  none_left : (us : List ℕ) → Stands m arcs P t s us → Neither arcs us → Capped m arcs top us → None ≡ first (of_class (class_in m arcs us) c us) → us ≡ []
  none_left [] st n cap e = refl
  none_left (y ∷ vs) st n cap e =
      let us = y ∷ vs in
      let h = has_head y vs in
      let z = member ((st.sorted.filed.each c).starts ∙ ap first (stored_keep m arcs P t s us st c) ∙ sym e) in
      let tp = tops us st n cap y h in
      let r = ranges us st n y h in
      absurd (omega arith)

  pub stage_over : ((us : List ℕ) → Stands m arcs P t s us → Took m arcs P u s' us c None) → ((us : List ℕ) → Stands m arcs P t s us → Capped m arcs c us → Capped m arcs top' (after_taking_if arcs None us))
      → Stage m arcs P key goal (Neither arcs) t s top order front back → Stage m arcs P key goal Nothing u s' top' order front back
  stage_over tk h g = let k = tk g.untaken g.stands in record { untaken = g.untaken; stands = k.leaves; part = same_part m arcs P key goal t u s s' top top' order front back kept g.untaken g.part; capped = h g.untaken g.stands (capped' g.untaken g.stands g.so g.capped); so = none_left g.untaken g.stands g.so g.capped k.picks }

pub stage_first : {X : Type 0} (m : ℕ) (arcs : List Link) (P : Neighbours) (key : ℕ → X) (t : Columns) (s : List (Option ℕ)) (us : List ℕ) (order : List X) (n : ℕ) → Stands m arcs P t s us → length us ≡ n → n ≤ length order → n ≤ length t.places
    → ((x : ℕ) → has us x ≡ true → x < length t.places) → ((x : ℕ) → x < length t.places → has us x ≡ true)
    → Stage m arcs P key (map key (run arcs n us) ++ drop n order) Any t s (2 * m) order 0 n
stage_first m arcs P key t s us order n st l b f inside all = record {
  untaken = us;
  stands = st;
  part = record {
    long = omega arith;
    most = b;
    whole = ap (λ k. map key (run arcs k us) ++ drop n order) l;
    fits = f;
    inside = inside;
    placed = λ x r h. absurd (let e : true ≡ false = sym (all x r) ∙ h in let z : ◌≡◌ {A = ℕ} 0 1 = cc in omega arith);
  };
  capped = λ y h o i. let f = few_of m arcs P t s us st y h in class_wide m (out_degree arcs us y) (in_degree arcs us y) f.0 f.1;
  so = tt;
}

pub stage_last : {X : Type 0} (m : ℕ) (arcs : List Link) (P : Neighbours) (key : ℕ → X) (goal : List X) (t : Columns) (s : List (Option ℕ)) (top : ℕ) (order : List X) (front back : ℕ) → Stage m arcs P key goal Nothing t s top order front back → Ordered key goal order t s
stage_last m arcs P key goal t s top order front back g = go g.untaken g.so g.part g.stands
  where
    go : (us : List ℕ) → us ≡ [] → Part arcs key goal us t.places order front back → Stands m arcs P t s us → Ordered key goal order t s
    go [] e p st = record {
      order_is = let b : front ≡ back = let q = p.long in omega arith in sym (take-append-drop front order) ∙ ap (λ k. take front order ++ drop k order) b ∙ p.whole;
      places = λ x l. let q = p.placed x l refl in (q.1, q.2);
      empty = λ c. (st.sorted.filed.each c).starts;
    }
    go (u ∷ us) e p st = absurd (let z : suc (length us) ≡ 0 = ap length e in omega arith)
