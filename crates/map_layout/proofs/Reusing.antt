-- A place of an arc is taken, or given back.
use Rattle.std.proofs.Common.{◌≡◌, ℕ, suc, ◌+◌, ◌*◌, ◌%◌, ◌<◌, ◌≤◌, Bool, true, false, cond, not, ltb, ◌≢◌, ◌⊎◌, List, [], ◌∷◌, reverse, length, Some, None, Option, unwrap_or, sym, refl, ap, ◌∙◌, subst, inl, inr, ⊎_elim, arith}
use Rattle.std.proofs.lemmas.Bool.{cases_eq, lt-ltb, and_from, not_from_false}
use Rattle.linked_list.specs.Places.{Position}
use Rattle.linked_list.specs.Places.{is_in, at}
use Rattle.linked_list.specs.Chains.{has, last, Holds, entries_of, can_push, after_push, can_pop, after_pop, start_after_pop, can_remove, after_remove}
use Rattle.linked_list.specs.Laws.{OthersStay}
use Rattle.linked_list.proofs.Members.{has_head, has_tail, has_first}
use Rattle.linked_list.proofs.Removing.{remove_length, remove_in, remove_free}
use Rattle.linked_list.proofs.Popping.{front_list, front_other, pop_empty}
use Rattle.linked_list.proofs.Pushing.{Pushed, push_granted, pushes}
use Rattle.map_layout.specs.Layout.{State, NodeItem, Among, of_unused, of_node, Idle, Spare, Lists, Linked, Rep, links_in, node_of, model}
use Rattle.map_layout.specs.Steps.{with_unused, new_place, taken_from, place_taken, place_given}
use Rattle.map_layout.proofs.Mapping.{map_same}
use Rattle.map_layout.proofs.Holding.{held_after, other_entries, here_entries, owns_other, owned_other}
use Rattle.map_layout.proofs.Stepping.{Base}
use Rattle.map_layout.proofs.Attaching.{idle_stays}

pub base_of : {N E : Type 0} {st : State N E} → Rep st → Base st
base_of r = record { one_item = r.one_item; held = r.held; oldest = r.oldest; level = r.level }

-- ---- the list of the unused places changes
pub record Refiled {N E : Type 0} (st : State N E) (l : List ℕ) (st' : State N E) : Type 0 where
  pub base : Base st'
  pub nodes : st'.nodes ≡ st.nodes
  pub arcs : st'.arcs ≡ st.arcs
  pub neighbors : st'.neighbors ≡ st.neighbors
  pub node_places : st'.node_places ≡ st.node_places
  pub arc_places : st'.arc_places ≡ st.arc_places
  pub unused : entries_of st'.positions st'.unused ≡ l
  pub shown : (model st').nodes ≡ (model st).nodes
  pub old : (j q : ℕ) → Linked st j q → Linked st' j q
  pub all : (j q : ℕ) → Linked st' j q → Linked st j q
  pub size : length st'.positions ≡ length st.positions

module _ {N E : Type 0} {st : State N E} (base : Base st) (u : Option ℕ) (M : List Position) (l : List ℕ) (f : ℕ)
    (holds : Holds M u l) (others : OthersStay st.positions st.unused M)
    (head : (y : ℕ) → u ≡ Some y → Idle st.positions y ⊎ (has (entries_of st.positions st.unused) y ≡ true))
    (size : length M ≡ length st.positions) where
  here : (v : Option ℕ) → Lists (with_unused st M u f) 0 v → v ≡ u
  here v (of_unused e g) = g
  here v (of_node x a e g) = absurd (omega arith)

  there : (j : ℕ) (v : Option ℕ) → j ≢ 0 → Lists (with_unused st M u f) j v → Lists st j v
  there j v n (of_unused e g) = absurd (n e)
  there j v n (of_node x a e g) = of_node x a e g

  back : (j : ℕ) (v : Option ℕ) → j ≢ 0 → Lists st j v → Lists (with_unused st M u f) j v
  back j v n (of_unused e g) = absurd (n e)
  back j v n (of_node x a e g) = of_node x a e g

  same_entries : (j : ℕ) (v : Option ℕ) → j ≢ 0 → Lists (with_unused st M u f) j v → entries_of M v ≡ entries_of st.positions v
  same_entries = other_entries (Lists st) (Lists (with_unused st M u f)) st.positions M 0 st.unused u l base.held (of_unused refl refl) holds others head here there

  node_entries : (x : NodeItem N) → Among x st.nodes → entries_of M x.value.newest ≡ entries_of st.positions x.value.newest
  node_entries x a = same_entries (suc x.number) x.value.newest (λ e. omega arith) (of_node x a refl refl)

  pub refiled : Refiled st l (with_unused st M u f)
  refiled = record {
    base = record {
      one_item = base.one_item;
      held = held_after (Lists st) (Lists (with_unused st M u f)) st.positions M 0 st.unused u l base.held (of_unused refl refl) holds others head here there;
      oldest = λ x a. base.oldest x a ∙ ap last (sym (node_entries x a));
      level = base.level ∙ sym size;
    };
    nodes = refl;
    arcs = refl;
    neighbors = refl;
    node_places = refl;
    arc_places = refl;
    unused = here_entries (Lists st) (Lists (with_unused st M u f)) st.positions M 0 st.unused u l base.held (of_unused refl refl) holds others head here there u (of_unused refl refl);
    shown = map_same (node_of st.neighbors M) (node_of st.neighbors st.positions) st.nodes
        (λ x a. ap (λ z. record { key = x.value.key; index = x.number; links = reverse (links_in st.neighbors z) }) (node_entries x a));
    old = λ j q. owned_other (Lists st) (Lists (with_unused st M u f)) st.positions M 0 st.unused u l base.held (of_unused refl refl) holds others head here there back (of_unused refl refl) (suc j) q (λ e. omega arith);
    all = λ j q. owns_other (Lists st) (Lists (with_unused st M u f)) st.positions M 0 st.unused u l base.held (of_unused refl refl) holds others head here there (suc j) q (λ e. omega arith);
    size = size;
  }

-- ---- a place is taken
pub record PlaceTaken {N E : Type 0} (st : State N E) (p : ℕ) (st' : State N E) : Type 0 where
  pub left : List ℕ
  pub refiled : Refiled st left st'
  pub even : p % 2 ≡ 0
  pub free : Idle st'.positions p
  pub next : Idle st'.positions (p + 1)
  pub fits : p + 1 < length st'.positions
  pub idle : (q : ℕ) → Idle st.positions q → Idle st'.positions q
  pub spare : (q : ℕ) → has left q ≡ true → Spare st'.positions st'.fresh q
  pub used : p < st'.fresh
  pub fresh : (q : ℕ) → st'.fresh ≤ q → Idle st'.positions q
  pub places : 2 * (length st.arcs + 1 + length left) ≡ st'.fresh
  pub enough : st'.fresh ≤ 2 * st.arc_places

module _ {N E : Type 0} (st : State N E) (rep : Rep st) where
  spare_holds : Holds st.positions st.unused (entries_of st.positions st.unused)
  spare_holds = rep.held.each 0 st.unused (of_unused refl refl)

  -- an unused one
  popped_at : (p : ℕ) → st.unused ≡ Some p → can_remove st.positions (Some p) p ≡ true → (U : List ℕ) → entries_of st.positions st.unused ≡ U
      → PlaceTaken st p (with_unused st (after_remove st.positions p) (start_after_pop st.positions st.unused) st.fresh)
  popped_at p e c [] w = let b = spare_holds.starts in let z : ◌≡◌ {A = ℕ} 0 1 = cc in absurd (omega arith)
  popped_at p e c (y ∷ U) w =
      let b = spare_holds.starts in
      let yp : y ≡ p = cc in
      let M = after_remove st.positions p in
      let h : Holds st.positions (Some p) (y ∷ U) = subst (λ z. Holds st.positions z (y ∷ U)) e (subst (Holds st.positions st.unused) w spare_holds) in
      let s : start_after_pop st.positions st.unused ≡ start_after_pop st.positions (Some p) = ap (start_after_pop st.positions) e in
      let h2 : Holds M (start_after_pop st.positions st.unused) U = subst (λ z. Holds M z U) (sym s) (front_list st.positions p c (y ∷ U) h) in
      let o : OthersStay st.positions st.unused M = subst (λ z. OthersStay st.positions z M) (sym e) (front_other st.positions p c) in
      let has_p : has (entries_of st.positions st.unused) p ≡ true = ap (λ z. has z p) w ∙ subst (λ z. has (y ∷ U) z ≡ true) yp (has_head y U) in
      let sp = rep.spare p has_p in
      let stays = idle_stays st.positions M p (λ j n. remove_in st.positions p j n) in
      let gone = remove_free st.positions (Some p) p c in
      let all_idle : (q : ℕ) → Idle st.positions q → Idle M q = λ q i. ⊎_elim (λ (f : q ≡ p). subst (Idle M) (sym f) gone) (λ (n : q ≢ p). stays q n i) (cases_eq q p) in
      let size = remove_length st.positions p in
      let se = sp.even in
      let su = sp.used in
      let re = rep.enough in
      let rr = rep.roomy in
      let rp = rep.places in
      let wl = ap length w in
      record {
        left = U;
        refiled = refiled (base_of rep) (start_after_pop st.positions st.unused) M U st.fresh h2 o
            (λ z f. inr (ap (λ v. has v z) w ∙ has_tail y U z (has_first U z (sym h2.starts ∙ f)))) size;
        even = sp.even;
        free = gone;
        next = all_idle (p + 1) sp.next;
        fits = omega arith;
        idle = all_idle;
        spare = λ q k. let d = rep.spare q (ap (λ v. has v q) w ∙ has_tail y U q k) in record { even = d.even; used = d.used; next = all_idle (q + 1) d.next };
        used = sp.used;
        fresh = λ q k. all_idle q (rep.idle q k);
        places = omega arith;
        enough = rep.enough;
      }

  -- a fresh one
  fresh_at : entries_of st.positions st.unused ≡ [] → length st.arcs < st.arc_places → PlaceTaken st st.fresh (with_unused st st.positions st.unused (st.fresh + 2))
  fresh_at w room =
      let re = rep.enough in
      let rr = rep.roomy in
      let rp = rep.places in
      let wl = ap length w in
      record {
        left = [];
        refiled = refiled (base_of rep) st.unused st.positions [] (st.fresh + 2) (subst (Holds st.positions st.unused) w spare_holds) (λ s m h o. h) (λ y e. inr (has_first (entries_of st.positions st.unused) y (sym spare_holds.starts ∙ e))) refl;
        even = omega arith;
        free = rep.idle st.fresh (omega arith);
        next = rep.idle (st.fresh + 1) (omega arith);
        fits = omega arith;
        idle = λ q i. i;
        spare = λ q k. absurd (let z : ◌≡◌ {A = ℕ} 0 1 = cc in omega arith);
        used = omega arith;
        fresh = λ q k. rep.idle q (omega arith);
        places = omega arith;
        enough = omega arith;
      }

  taken_by : (s : Option ℕ) → st.unused ≡ s → (b : Bool) → can_pop st.positions s ≡ b → length st.arcs < st.arc_places
      → PlaceTaken st (unwrap_or (cond b s None) st.fresh) (taken_from b st)
  taken_by s e false c room = fresh_at (pop_empty st.positions s (entries_of st.positions st.unused) (subst (λ z. Holds st.positions z (entries_of st.positions st.unused)) e spare_holds) c) room
  taken_by None e true c room = absurd (let z : ◌≡◌ {A = ℕ} 0 1 = cc in omega arith)
  taken_by (Some p) e true c room =
      subst (λ z. PlaceTaken st p (with_unused st z (start_after_pop st.positions st.unused) st.fresh)) (sym (ap (after_pop st.positions) e))
      (popped_at p e c (entries_of st.positions st.unused) refl)

  pub takes : length st.arcs < st.arc_places → PlaceTaken st (new_place st) (place_taken st)
  takes room = taken_by st.unused refl (can_pop st.positions st.unused) refl room

-- ---- a place is given back
pub record PlaceGiven {N E : Type 0} (st : State N E) (p : ℕ) (st' : State N E) : Type 0 where
  pub refiled : Refiled st (p ∷ entries_of st.positions st.unused) st'
  pub idle : (q : ℕ) → q ≢ p → Idle st.positions q → Idle st'.positions q
  pub fresh : st'.fresh ≡ st.fresh

module _ {N E : Type 0} (st : State N E) (p : ℕ) (base : Base st) (free : Idle st.positions p) (fits : p < length st.positions) where
  spares_hold : Holds st.positions st.unused (entries_of st.positions st.unused)
  spares_hold = base.held.each 0 st.unused (of_unused refl refl)

  granted : can_push st.positions st.unused p ≡ true
  granted =
      push_granted st.positions st.unused (entries_of st.positions st.unused) p spares_hold
      ∙ and_from (ltb p (length st.positions)) (not (is_in (at st.positions p))) (lt-ltb p (length st.positions) fits) (not_from_false (is_in (at st.positions p)) (ap is_in free))

  put : Pushed st.positions st.unused p (after_push st.positions st.unused p)
  put = pushes st.positions (after_push st.positions st.unused p) st.unused p granted refl

  given : PlaceGiven st p (with_unused st (after_push st.positions st.unused p) (Some p) st.fresh)
  given = record {
    refiled = refiled base (Some p) (after_push st.positions st.unused p) (p ∷ entries_of st.positions st.unused) st.fresh
        (put.listed (entries_of st.positions st.unused) spares_hold) put.others (λ y e. let q : p ≡ y = cc in inl (subst (Idle st.positions) q free)) put.size;
    idle = idle_stays st.positions (after_push st.positions st.unused p) p put.status;
    fresh = refl;
  }

  pub gives : PlaceGiven st p (place_given p st)
  gives = subst (PlaceGiven st p) (sym (ap (λ g. with_unused st (cond g (after_push st.positions st.unused p) st.positions) (cond g (Some p) st.unused) st.fresh) granted)) given
