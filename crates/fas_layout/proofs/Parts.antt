-- What taking a node does to the order.
use Rattle.std.proofs.Common.{◌≡◌, ℕ, ◌+◌, ◌-◌, ◌<◌, ◌≤◌, Bool, true, false, ◌≢◌, ◌⊎◌, List, [], ◌∷◌, ◌++◌, map, length, get_or, take, drop, set, sym, ap, ◌∙◌, subst, inl, inr, ⊎_elim, arith}
use Rattle.std.proofs.lemmas.List.{append_assoc, length-set, take-set-le, drop-set-lt, take_more_set, drop-set, map-append, get_or-set_same, get_or-set_other}
use Rattle.std.proofs.lemmas.Bool.{cases_eq, ne_eqb}
use Rattle.network.specs.Counting.{has, EachOnce}
use Rattle.network.specs.Network.{Link}
use Rattle.network.proofs.Sums.{has_without}
use Rattle.greedy_order.specs.Part3Order.{after_taking}
use Rattle.greedy_order.specs.Part7Folded.{run, put, choose}
use Rattle.greedy_order.proofs.Folded.{length_taking}
use Rattle.fas_layout.specs.Stages.{PlacedAt, Part}
use Rattle.fas_layout.proofs.Counted.{has_taking}

run_more : (arcs : List Link) (u : ℕ) (vs : List ℕ) (b : Bool) (x : ℕ) → EachOnce (u ∷ vs) → has (u ∷ vs) x ≡ true → choose arcs u vs ≡ (b, x)
    → run arcs (length (u ∷ vs)) (u ∷ vs) ≡ put (b, x) (run arcs (length (after_taking arcs x (u ∷ vs))) (after_taking arcs x (u ∷ vs)))
run_more arcs u vs b x a m e =
    let l : length vs ≡ length (after_taking arcs x (u ∷ vs)) = let q = length_taking arcs x (u ∷ vs) a m in omega arith in
    ap (λ c. put c (run arcs (length vs) (after_taking arcs c.1 (u ∷ vs)))) e ∙ ap (λ n. put (b, x) (run arcs n (after_taking arcs x (u ∷ vs)))) l

module _ {X : Type 0} (arcs : List Link) (key : ℕ → X) (us : List ℕ) (x : ℕ) (order order' : List X) (places places' : List ℕ) (front back front' back' p : ℕ)
    (at-order : order' ≡ set order p (key x)) (at_places : places' ≡ set places x p)
    (m : has us x ≡ true) (fresh : (front ≤ p) × (p < back)) (room : back ≤ length order) (fits : back ≤ length places)
    (inside : (z : ℕ) → has us z ≡ true → z < length places)
    (grows : (q : ℕ) → (q < front) ⊎ (back ≤ q) → (q < front') ⊎ (back' ≤ q)) (takes : (p < front') ⊎ (back' ≤ p)) where
  long : length places' ≡ length places
  long = ap length at_places ∙ length-set places x p

  inside' : (z : ℕ) → has (after_taking arcs x us) z ≡ true → z < length places'
  inside' z h = let l = long in let w = has_taking arcs x us z in let v = has_without x us z in let u : has us z ≡ true = grind arith in let i = inside z u in omega arith

  place_here : get_or places' x 0 ≡ p
  place_here = ap (λ l. get_or l x 0) at_places ∙ get_or-set_same places x p 0 (inside x m)

  order_here : get_or order' p (key x) ≡ key x
  order_here = ap (λ l. get_or l p (key x)) at-order ∙ get_or-set_same order p (key x) (key x) (let a = fresh.1 in omega arith)

  here : PlacedAt key order' places' front' back' x
  here = subst (λ q. ((q < front') ⊎ (back' ≤ q)) × (q < length places') × (get_or order' q (key x) ≡ key x)) (sym place_here)
      (takes, (let a = fresh.1 in let l = long in omega arith), order_here)

  there : (z : ℕ) → z ≢ x → PlacedAt key order places front back z → PlacedAt key order' places' front' back' z
  there z ne old =
      let q = get_or places z 0 in
      let e : get_or places z 0 ≡ get_or places' z 0 = sym (ap (λ l. get_or l z 0) at_places ∙ get_or-set_other places x z p 0 ne) in
      let apart : get_or places z 0 ≢ p = λ w. ⊎_elim (λ (b : get_or places z 0 < front). let a = fresh.0 in omega arith) (λ (b : back ≤ get_or places z 0). let a = fresh.1 in omega arith) old.0 in
      let g : get_or order' (get_or places z 0) (key z) ≡ key z = ap (λ l. get_or l (get_or places z 0) (key z)) at-order ∙ get_or-set_other order p (get_or places z 0) (key x) (key z) apart ∙ old.2 in
      subst (λ q. ((q < front') ⊎ (back' ≤ q)) × (q < length places') × (get_or order' q (key z) ≡ key z)) e
      (grows (get_or places z 0) old.0, (let l = long in let a = old.1 in omega arith), g)

  placed : ((z : ℕ) → z < length places → has us z ≡ false → PlacedAt key order places front back z)
      → (z : ℕ) → z < length places' → has (after_taking arcs x us) z ≡ false → PlacedAt key order' places' front' back' z
  placed old z l h = ⊎_elim
      (λ (e : z ≡ x). subst (PlacedAt key order' places' front' back') (sym e) here)
      (λ (e : z ≢ x). there z e (old z (let k = long in omega arith) (let w = has_taking arcs x us z in let v = has_without x us z in let t = ne_eqb z x e in grind arith)))
      (cases_eq z x)

-- x goes to the front of the tail half
pub part_back : {X : Type 0} (arcs : List Link) (key : ℕ → X) (goal order order' : List X) (places places' : List ℕ) (front back u : ℕ) (vs : List ℕ) (x : ℕ) → EachOnce (u ∷ vs) → has (u ∷ vs) x ≡ true → choose arcs u vs ≡ (true, x)
    → order' ≡ set order (back - 1) (key x) → places' ≡ set places x (back - 1)
    → Part arcs key goal (u ∷ vs) places order front back → Part arcs key goal (after_taking arcs x (u ∷ vs)) places' order' front (back - 1)
part_back arcs key goal order order' places places' front back u vs x a m e oe pe p =
    let l = length_taking arcs x (u ∷ vs) a m in
    let g = p.long in
    let o = p.most in
    let fit = p.fits in
    let n : length order' ≡ length order = ap length oe ∙ length-set order (back - 1) (key x) in
    let k = long arcs key (u ∷ vs) x order order' places places' front back front (back - 1) (back - 1) oe pe m (omega arith, omega arith) o fit p.inside (λ q h. ⊎_elim inl (λ w. inr (omega arith)) h) (inr (omega arith)) in
    let R = map key (run arcs (length (after_taking arcs x (u ∷ vs))) (after_taking arcs x (u ∷ vs))) in
    let t : take front order' ≡ take front order = ap (take front) oe ∙ take-set-le front order (back - 1) (key x) (omega arith) in
    let b : (back - 1) + 1 ≡ back = omega arith in
    let d : drop (back - 1) order' ≡ key x ∷ drop back order = ap (drop (back - 1)) oe ∙ drop-set order (back - 1) (key x) (omega arith) ∙ ap (λ k. key x ∷ drop k order) b in
    let r : map key (run arcs (length (u ∷ vs)) (u ∷ vs)) ≡ R ++ (key x ∷ []) = ap (map key) (run_more arcs u vs true x a m e) ∙ map-append key (run arcs (length (after_taking arcs x (u ∷ vs))) (after_taking arcs x (u ∷ vs))) (x ∷ []) in
    record {
      long = omega arith;
      most = omega arith;
      whole =
          ap (λ z. z ++ (R ++ drop (back - 1) order')) t
          ∙ ap (λ z. take front order ++ (R ++ z)) d
          ∙ ap (λ z. take front order ++ z) (sym (append_assoc R (key x ∷ []) (drop back order)))
          ∙ ap (λ z. take front order ++ (z ++ drop back order)) (sym r)
          ∙ p.whole;
      fits = omega arith;
      inside = inside' arcs key (u ∷ vs) x order order' places places' front back front (back - 1) (back - 1) oe pe m (omega arith, omega arith) o fit p.inside (λ q h. ⊎_elim inl (λ w. inr (omega arith)) h) (inr (omega arith));
      placed = placed arcs key (u ∷ vs) x order order' places places' front back front (back - 1) (back - 1) oe pe m (omega arith, omega arith) o fit p.inside (λ q h. ⊎_elim inl (λ w. inr (omega arith)) h) (inr (omega arith)) p.placed;
    }

-- x goes to the back of the head half
pub part_front : {X : Type 0} (arcs : List Link) (key : ℕ → X) (goal order order' : List X) (places places' : List ℕ) (front back u : ℕ) (vs : List ℕ) (x : ℕ) → EachOnce (u ∷ vs) → has (u ∷ vs) x ≡ true → choose arcs u vs ≡ (false, x)
    → order' ≡ set order front (key x) → places' ≡ set places x front
    → Part arcs key goal (u ∷ vs) places order front back → Part arcs key goal (after_taking arcs x (u ∷ vs)) places' order' (front + 1) back
part_front arcs key goal order order' places places' front back u vs x a m e oe pe p =
    let l = length_taking arcs x (u ∷ vs) a m in
    let g = p.long in
    let o = p.most in
    let fit = p.fits in
    let n : length order' ≡ length order = ap length oe ∙ length-set order front (key x) in
    let k = long arcs key (u ∷ vs) x order order' places places' front back (front + 1) back front oe pe m (omega arith, omega arith) o fit p.inside (λ q h. ⊎_elim (λ w. inl (omega arith)) inr h) (inl (omega arith)) in
    let R = map key (run arcs (length (after_taking arcs x (u ∷ vs))) (after_taking arcs x (u ∷ vs))) in
    let t : take (front + 1) order' ≡ take front order ++ (key x ∷ []) = ap (take (front + 1)) oe ∙ take_more_set order front (key x) (omega arith) in
    let d : drop back order' ≡ drop back order = ap (drop back) oe ∙ drop-set-lt back order front (key x) (omega arith) in
    let r : map key (run arcs (length (u ∷ vs)) (u ∷ vs)) ≡ key x ∷ R = ap (map key) (run_more arcs u vs false x a m e) in
    record {
      long = omega arith;
      most = omega arith;
      whole =
          ap (λ z. z ++ (R ++ drop back order')) t
          ∙ ap (λ z. (take front order ++ (key x ∷ [])) ++ (R ++ z)) d
          ∙ append_assoc (take front order) (key x ∷ []) (R ++ drop back order)
          ∙ ap (λ z. take front order ++ (z ++ drop back order)) (sym r)
          ∙ p.whole;
      fits = omega arith;
      inside = inside' arcs key (u ∷ vs) x order order' places places' front back (front + 1) back front oe pe m (omega arith, omega arith) o fit p.inside (λ q h. ⊎_elim (λ w. inl (omega arith)) inr h) (inl (omega arith));
      placed = placed arcs key (u ∷ vs) x order order' places places' front back (front + 1) back front oe pe m (omega arith, omega arith) o fit p.inside (λ q h. ⊎_elim (λ w. inl (omega arith)) inr h) (inl (omega arith)) p.placed;
    }
