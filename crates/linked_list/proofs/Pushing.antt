-- What a push comes to for every list.
use Rattle.std.proofs.Common.{◌≡◌, ℕ, ◌<◌, true, false, not, ◌&&◌, ltb, ◌≢◌, List, [], ◌∷◌, length, Some, None, Option, sym, refl, ap, ◌∙◌, subst, arith}
use Rattle.std.proofs.lemmas.List.{length-set, get_or-set_same, get_or-set_other}
use Rattle.std.proofs.lemmas.Bool.{and_parts, and_from, not-true, ltb-true}
use Rattle.std.specs.Option.{is_none}
use Rattle.linked_list.specs.Places.{Position, enlisted, is_in, prev_of, next_of, with_prev, at, prev_set}
use Rattle.linked_list.specs.Chains.{has, first, Chain, Holds, Other, is_front, can_push, after_push}
use Rattle.linked_list.specs.Laws.{Becomes, OthersStay, StatusStays}
use Rattle.linked_list.proofs.Members.{none_cons}
use Rattle.linked_list.proofs.Reading.{changed_length, changed_in, changed_here}
use Rattle.linked_list.proofs.Linking.{free_is, free_not_in, not_shared, chain_set, frame}

-- i is there and free, and nothing stands before the start
pub record Pushable (L : List Position) (start : Option ℕ) (i : ℕ) : Type 0 where
  pub there : i < length L
  pub free : at L i ≡ None
  pub fronts : (k : ℕ) → start ≡ Some k → at L k ≡ enlisted None (next_of (at L k))

none_is : (o : Option ℕ) → is_none o ≡ true → o ≡ None
none_is None e = refl
none_is (Some i) e = cc

lone_is : (p : Position) → is_in p ≡ true → is_none (prev_of p) ≡ true → p ≡ enlisted None (next_of p)
lone_is None e f = cc
lone_is (Some p) e f = ap (λ q. enlisted q p.next) (none_is p.prev f)

front_is : (L : List Position) (start : Option ℕ) → is_front L start ≡ true → (k : ℕ) → start ≡ Some k → at L k ≡ enlisted None (next_of (at L k))
front_is L None h k e = cc
front_is L (Some j) h k e =
    let a = and_parts (is_in (at L j)) (is_none (prev_of (at L j))) h in
    let q : j ≡ k = cc in
    subst (λ w. at L w ≡ enlisted None (next_of (at L w))) q (lone_is (at L j) a.0 a.1)

pub pushable : (L : List Position) (start : Option ℕ) (i : ℕ) → can_push L start i ≡ true → Pushable L start i
pushable L start i h =
    let a = and_parts (ltb i (length L)) (not (is_in (at L i)) && is_front L start) h in
    let b = and_parts (not (is_in (at L i))) (is_front L start) a.1 in
    record { there = ltb-true i (length L) a.0; free = free_is (at L i) (not-true (is_in (at L i)) b.0); fronts = front_is L start b.1 }

-- the start of a list is a front
pub holds_front : (L : List Position) (s : Option ℕ) (l : List ℕ) → Holds L s l → is_front L s ≡ true
holds_front L s [] h = ap (is_front L) h.starts
holds_front L s (x ∷ l) h =
    let e = h.linked.0 in
    ap (is_front L) h.starts ∙ and_from (is_in (at L x)) (is_none (prev_of (at L x))) (ap is_in e) (ap (λ p. is_none (prev_of p)) e)

pub push_granted : (L : List Position) (s : Option ℕ) (l : List ℕ) (i : ℕ) → Holds L s l → can_push L s i ≡ (ltb i (length L) && not (is_in (at L i)))
push_granted L s l i h = let e = holds_front L s l h in grind arith

pub push_length : (L : List Position) (start : Option ℕ) (i : ℕ) → length (after_push L start i) ≡ length L
push_length L start i = length-set (prev_set L start (Some i)) i (enlisted None start) ∙ changed_length _ L start

pub push_in : (L : List Position) (start : Option ℕ) (i j : ℕ) → j ≢ i → is_in (at (after_push L start i) j) ≡ is_in (at L j)
push_in L start i j ne = ap is_in (get_or-set_other (prev_set L start (Some i)) i j (enlisted None start) None ne) ∙ changed_in _ L start j

pub push_comes : (L : List Position) (start : Option ℕ) (i : ℕ) → can_push L start i ≡ true → at (after_push L start i) i ≡ enlisted None start
push_comes L start i h =
    let r : i < length L = (pushable L start i h).there in
    let e : length (prev_set L start (Some i)) ≡ length L = changed_length _ L start in
    get_or-set_same (prev_set L start (Some i)) i (enlisted None start) None (omega arith)

-- a list that start does not name has another prev nowhere
frame_prev : (L : List Position) (o x s : Option ℕ) (m : List ℕ) → Holds L s m → ((k : ℕ) → o ≡ Some k → has m k ≡ false) → Holds (prev_set L o x) s m
frame_prev L None x s m h f = h
frame_prev L (Some k) x s m h f = frame L s m k (with_prev (at L k) x) h (f k refl)

pub pushed_other : (L : List Position) (start : Option ℕ) (i : ℕ) → can_push L start i ≡ true → (s : Option ℕ) (m : List ℕ) → Holds L s m → Other s start → Holds (after_push L start i) s m
pushed_other L start i h s m k o =
    let p = pushable L start i h in
    frame (prev_set L start (Some i)) s m i (enlisted None start)
    (frame_prev L start (Some i) s m k (λ j e. not_shared L j (next_of (at L j)) s m (p.fronts j e) k (λ q. o j q e)))
    (free_not_in L None m i k.linked p.free)

pub pushed_list : (L : List Position) (start : Option ℕ) (i : ℕ) → can_push L start i ≡ true → (l : List ℕ) → Holds L start l → Holds (after_push L start i) (Some i) (i ∷ l)
pushed_list L start i h [] k =
    record { starts = refl; linked = (push_comes L start i h ∙ ap (enlisted None) k.starts, refl, tt) }
pushed_list L start i h (x ∷ l) k =
    let p = pushable L start i h in
    let s : start ≡ Some x = k.starts in
    let c0 : at L x ≡ enlisted None (first l) = k.linked.0 in
    let W = prev_set L start (Some i) in
    let f : at L i ≡ None = p.free in
    let nl : has l i ≡ false = free_not_in L (Some x) l i k.linked.2 f in
    let ne : i ≢ x = λ q. cc in
    record {
      starts = refl;
      linked = (
        push_comes L start i h ∙ ap (enlisted None) s,
        none_cons x l i ne nl,
        (
          get_or-set_other W i x (enlisted None start) None (λ q. ne (sym q)) ∙ changed_here _ L start x s ∙ ap (λ v. with_prev v (Some i)) c0,
          k.linked.1,
          chain_set W (Some x) l i (enlisted None start)
              (subst (λ w. Chain (prev_set L w (Some i)) (Some x) l) (sym s) (chain_set L (Some x) l x (with_prev (at L x) (Some i)) k.linked.2 k.linked.1))
              nl,
        ),
      );
    }

-- ---- what a granted push comes to
pub record Pushed (L : List Position) (start : Option ℕ) (i : ℕ) (M : List Position) : Type 0 where
  pub listed : Becomes (λ l. i ∷ l) L start M (Some i)
  pub others : OthersStay L start M
  pub status : StatusStays i L M
  pub size : length M ≡ length L

pub pushes : (L M : List Position) (start : Option ℕ) (i : ℕ) → can_push L start i ≡ true → M ≡ after_push L start i → Pushed L start i M
pushes L M start i h e =
    record {
      listed = λ l k. rw e (pushed_list L start i h l k);
      others = λ s m k o. rw e (pushed_other L start i h s m k o);
      status = λ j n. rw e (push_in L start i j n);
      size = rw e (push_length L start i);
    }
