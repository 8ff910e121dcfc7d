-- The touched nodes of a network: each once, and those at which an arc begins or ends.
use Rattle.std.proofs.Common.{◌≡◌, ℕ, ◌≤◌, Bool, true, false, cond, ◌||◌, eqb, List, [], ◌∷◌, ◌++◌, sym, refl, ◌∙◌, ⊎_elim, arith}
use Rattle.std.proofs.lemmas.Bool.Decides.{nat_tests}
use Rattle.std.proofs.lemmas.Bool.{false≢true, cases_Bool}
use Rattle.network.specs.Counting.{has, EachOnce}
use Rattle.network.specs.Network.{Link, meet, meet_all, touched, ends, TouchedNodesAreTheEndsOfArcs}
use Rattle.network.proofs.Sums.{has_append, once_push}

-- both ends of each arc stand in us
abbrev pub Covers : List ℕ → List Link → Type 0
Covers us [] = Unit {0}
Covers us (a ∷ arcs) = (has us a.0 ≡ true) × (has us a.1 ≡ true) × Covers us arcs

has_meet : (x : ℕ) (met : List ℕ) (y : ℕ) → has (meet x met) y ≡ (has met y || eqb x y)
has_meet x met y = let a = has_append met (x ∷ []) y in grind (arith, nat_tests)

meet_keeps : (x : ℕ) (met : List ℕ) (y : ℕ) → has met y ≡ true → has (meet x met) y ≡ true
meet_keeps x met y h = let a = has_meet x met y in grind arith

meet_new : (x : ℕ) (met : List ℕ) → has (meet x met) x ≡ true
meet_new x met = let a = has_meet x met x in grind (arith, nat_tests)

all_keeps : (arcs : List Link) (met : List ℕ) (y : ℕ) → has met y ≡ true → has (meet_all arcs met) y ≡ true
all_keeps [] met y h = h
all_keeps (a ∷ arcs) met y h = all_keeps arcs (meet a.1 (meet a.0 met)) y (meet_keeps a.1 (meet a.0 met) y (meet_keeps a.0 met y h))

all_covers : (arcs : List Link) (met : List ℕ) → Covers (meet_all arcs met) arcs
all_covers [] met = tt
all_covers (a ∷ arcs) met =
    let s = meet a.0 met in
    let t = meet a.1 s in
    (all_keeps arcs t a.0 (meet_keeps a.1 s a.0 (meet_new a.0 met)), all_keeps arcs t a.1 (meet_new a.1 s), all_covers arcs t)

meet_once : (x : ℕ) (met : List ℕ) → EachOnce met → EachOnce (meet x met)
meet_once x met h = go (has met x) refl
  where
    go : (b : Bool) → has met x ≡ b → EachOnce (cond b met (met ++ (x ∷ [])))
    go true e = h
    go false e = once_push met x h e

all_once : (arcs : List Link) (met : List ℕ) → EachOnce met → EachOnce (meet_all arcs met)
all_once [] met h = h
all_once (a ∷ arcs) met h = all_once arcs (meet a.1 (meet a.0 met)) (meet_once a.1 (meet a.0 met) (meet_once a.0 met h))

all_ends : (arcs : List Link) (met : List ℕ) (y : ℕ) → has (meet_all arcs met) y ≡ true → has met y ≡ false → 1 ≤ ends arcs y
all_ends [] met y h e = absurd (false≢true (sym e ∙ h))
all_ends (a ∷ arcs) met y h e =
    let s = meet a.0 met in
    let t = meet a.1 s in
    let ih = all_ends arcs t y h in
    let hs = has_meet a.0 met y in
    let ht = has_meet a.1 s y in
    ⊎_elim
    (λ k. grind (arith, nat_tests))
    (λ k. let f = ih k in grind (arith, nat_tests))
    (cases_Bool (has t y))

pub touched_covers : (arcs : List Link) → Covers (touched arcs) arcs
unfolding touched
touched_covers arcs = all_covers arcs []

pub touched_once : (arcs : List Link) → EachOnce (touched arcs)
unfolding touched
touched_once arcs = all_once arcs [] tt

pub touched_ends : (arcs : List Link) (y : ℕ) → has (touched arcs) y ≡ true → 1 ≤ ends arcs y
unfolding touched
touched_ends arcs y h = all_ends arcs [] y h refl

covers_ends : (us : List ℕ) (arcs : List Link) → Covers us arcs → (y : ℕ) → 1 ≤ ends arcs y → has us y ≡ true
covers_ends us [] c y h = absurd (omega arith)
covers_ends us (a ∷ arcs) c y h = let ih = covers_ends us arcs c.2 y in let s = c.0 in let t = c.1 in grind (arith, nat_tests)

pub ends_touched : (arcs : List Link) (y : ℕ) → 1 ≤ ends arcs y → has (touched arcs) y ≡ true
ends_touched arcs y h = covers_ends (touched arcs) arcs (touched_covers arcs) y h

pub touched_nodes_are_the_ends_of_arcs : TouchedNodesAreTheEndsOfArcs
touched_nodes_are_the_ends_of_arcs arcs = (touched_once arcs, λ x. (touched_ends arcs x, ends_touched arcs x))
