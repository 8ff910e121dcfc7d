-- The links of an arc, at both its ends, come and go together.
use Rattle.std.proofs.Common.{◌≡◌, ℕ, ◌+◌, ◌*◌, ◌%◌, ◌<◌, ◌≤◌, true, ◌≢◌, ◌⊎◌, List, [], ◌∷◌, ◌++◌, length, get_or, None, Option, sym, ap, ◌∙◌, subst, ⊎_elim, arith}
use Rattle.std.proofs.lemmas.Bool.{cases_eq}
use Rattle.linked_list.specs.Chains.{has, entries_of}
use Rattle.map_layout.specs.declared.records.IndexedKey.{IndexedKey}
use Rattle.map_layout.specs.Layout.{State, ArcItem, Among, Idle, Names, Paired, Seated, Spare, Linked, Rep, partner, source_of, target_of}
use Rattle.map_layout.proofs.Members.{among_push}
use Rattle.map_layout.proofs.Places.{has_cons}
use Rattle.map_layout.proofs.Pairs.{partner_even, partner_odd}
use Rattle.map_layout.proofs.Stepping.{Base}

pub names_kept : {N : Type 0} (cs ds : List (Option (IndexedKey N))) (p j : ℕ) → get_or ds p None ≡ get_or cs p None → Names cs p j → Names ds p j
names_kept cs ds p j e n = record { neighbor = n.neighbor; there = e ∙ n.there; named = n.named }

-- the other link of an arc has a place of its own
pub partner_apart : (q p : ℕ) → p % 2 ≡ 0 → q ≢ p → q ≢ p + 1 → (partner q ≢ p) × (partner q ≢ p + 1)
partner_apart q p e n m =
    ⊎_elim
    (λ (f : q % 2 ≡ 0). let g = partner_even q f in ((λ h. omega arith), (λ h. n (omega arith))))
    (λ (f : q % 2 ≢ 0). let g = partner_odd q f in ((λ h. m (omega arith)), (λ h. omega arith)))
    (cases_eq (q % 2) 0)

-- ---- an arc comes, with its links at p and, unless it is a loop, at p + 1
pub record Added {N E : Type 0} (st st' : State N E) (i j p : ℕ) (y : ArcItem N E) (left : List ℕ) : Type 0 where
  pub base : Base st'
  pub arcs : st'.arcs ≡ st.arcs ++ y ∷ []
  pub unused : entries_of st'.positions st'.unused ≡ left
  pub even : p % 2 ≡ 0
  pub place : y.value.place ≡ p
  pub source : source_of y ≡ i
  pub target : target_of y ≡ j
  pub old : (k q : ℕ) → Linked st k q → Linked st' k q
  pub out : Linked st' i p
  pub names_out : Names st'.neighbors p j
  pub into : i ≢ j → Linked st' j (p + 1)
  pub names_in : i ≢ j → Names st'.neighbors (p + 1) i
  pub lone : i ≡ j → Idle st'.positions (p + 1)
  pub all : (k q : ℕ) → Linked st' k q → Linked st k q ⊎ (((k ≡ i) × (q ≡ p)) ⊎ ((k ≡ j) × (q ≡ p + 1) × (i ≢ j)))
  pub kept : (q : ℕ) → q ≢ p → q ≢ p + 1 → get_or st'.neighbors q None ≡ get_or st.neighbors q None
  pub unowned : (k : ℕ) → Linked st k p → ⊥
  pub next_unowned : (k : ℕ) → Linked st k (p + 1) → ⊥
  pub idle : (q : ℕ) → q ≢ p → q ≢ p + 1 → Idle st.positions q → Idle st'.positions q
  pub spare : (q : ℕ) → has left q ≡ true → Spare st'.positions st'.fresh q
  pub fresh : (q : ℕ) → st'.fresh ≤ q → Idle st'.positions q
  pub places : 2 * (length st'.arcs + length left) ≡ st'.fresh
  pub enough : st'.fresh ≤ 2 * st'.arc_places
  pub roomy : 2 * st'.arc_places ≤ length st'.positions

module _ {N E : Type 0} (st st' : State N E) (i j p : ℕ) (y : ArcItem N E) (left : List ℕ) (rep : Rep st) (a : Added st st' i j p y left) where
  apart : (k q : ℕ) → Linked st k q → (q ≢ p) × (q ≢ p + 1)
  apart k q o = ((λ e. a.unowned k (subst (Linked st k) e o)), (λ e. a.next_unowned k (subst (Linked st k) e o)))

  old_paired : (k q : ℕ) → Linked st k q → Paired (Linked st') st'.positions st'.neighbors k q
  old_paired k q o =
      let r = rep.paired k q o in
      let n = apart k q o in
      let ev = a.even in
      record {
        other = r.other;
        names = names_kept st.neighbors st'.neighbors q r.other (a.kept q n.0 n.1) r.names;
        loop = λ e. let l = r.loop e in let le = l.0 in let nq = n.0 in (l.0, a.idle (q + 1) (λ f. omega arith) (λ f. nq (omega arith)) l.1);
        back = λ e. let b = r.back e in let m = apart r.other (partner q) b.0 in
            (a.old r.other (partner q) b.0, names_kept st.neighbors st'.neighbors (partner q) k (a.kept (partner q) m.0 m.1) b.1);
      }

  out_paired : Paired (Linked st') st'.positions st'.neighbors i p
  out_paired = record {
    other = j;
    names = a.names_out;
    loop = λ e. (a.even, a.lone (sym e));
    back = λ e. let q = partner_even p a.even in
        (subst (Linked st' j) (sym q) (a.into (λ f. e (sym f))), subst (λ z. Names st'.neighbors z i) (sym q) (a.names_in (λ f. e (sym f))));
  }

  in_paired : i ≢ j → Paired (Linked st') st'.positions st'.neighbors j (p + 1)
  in_paired n = record {
    other = i;
    names = a.names_in n;
    loop = λ e. absurd (n e);
    back = λ e. let ev = a.even in let odd : (p + 1) % 2 ≢ 0 = λ f. omega arith in let g = partner_odd (p + 1) odd in let q : partner (p + 1) ≡ p = omega arith in
        (subst (Linked st' i) (sym q) a.out, subst (λ z. Names st'.neighbors z j) (sym q) a.names_out);
  }

  paired : (k q : ℕ) → Linked st' k q → Paired (Linked st') st'.positions st'.neighbors k q
  paired k q o = ⊎_elim
      (λ (s : Linked st k q). old_paired k q s)
      (λ (s : ((k ≡ i) × (q ≡ p)) ⊎ ((k ≡ j) × (q ≡ p + 1) × (i ≢ j))). ⊎_elim
      (λ (t : (k ≡ i) × (q ≡ p)). subst (λ z. Paired (Linked st') st'.positions st'.neighbors z q) (sym t.0) (subst (λ z. Paired (Linked st') st'.positions st'.neighbors i z) (sym t.1) out_paired))
      (λ (t : (k ≡ j) × (q ≡ p + 1) × (i ≢ j)). subst (λ z. Paired (Linked st') st'.positions st'.neighbors z q) (sym t.0) (subst (λ z. Paired (Linked st') st'.positions st'.neighbors j z) (sym t.1) (in_paired t.2)))
      s)
      (a.all k q o)

  old_seated : (z : ArcItem N E) → Among z st.arcs → Seated (Linked st') st'.neighbors z
  old_seated z m =
      let s = rep.seated z m in
      let n = apart (source_of z) z.value.place s.owned in
      record {
        even = s.even;
        owned = a.old (source_of z) z.value.place s.owned;
        names = names_kept st.neighbors st'.neighbors z.value.place (target_of z) (a.kept z.value.place n.0 n.1) s.names;
      }

  new_seated : Seated (Linked st') st'.neighbors y
  new_seated = record {
    even = ap (λ v. v % 2) a.place ∙ a.even;
    owned = subst (λ v. Linked st' v y.value.place) (sym a.source) (subst (Linked st' i) (sym a.place) a.out);
    names = subst (λ v. Names st'.neighbors y.value.place v) (sym a.target) (subst (λ v. Names st'.neighbors v j) (sym a.place) a.names_out);
  }

  pub rep_added : Rep st'
  rep_added = record {
    one_item = a.base.one_item;
    held = a.base.held;
    oldest = a.base.oldest;
    paired = paired;
    seated = λ z m. ⊎_elim
        (λ (s : Among z st.arcs). old_seated z s)
        (λ (s : z ≡ y). subst (Seated (Linked st') st'.neighbors) (sym s) new_seated)
        (among_push st.arcs y z (subst (Among z) a.arcs m));
    spare = λ q h. a.spare q (sym (ap (λ z. has z q) a.unused) ∙ h);
    idle = a.fresh;
    places = (let e = a.places in let f = ap length a.unused in omega arith);
    enough = a.enough;
    roomy = a.roomy;
    level = a.base.level;
  }

-- ---- an arc goes, with its links at p and, unless it is a loop, at p + 1
pub record Gone {N E : Type 0} (st st' : State N E) (p : ℕ) : Type 0 where
  pub base : Base st'
  pub neighbors : st'.neighbors ≡ st.neighbors
  pub even : p % 2 ≡ 0
  pub within : p < st.fresh
  pub unused : entries_of st'.positions st'.unused ≡ p ∷ entries_of st.positions st.unused
  pub old : (k q : ℕ) → Linked st k q → q ≢ p → q ≢ p + 1 → Linked st' k q
  pub all : (k q : ℕ) → Linked st' k q → Linked st k q
  pub other : (k q : ℕ) → Linked st' k q → (q ≢ p) × (q ≢ p + 1)
  pub idle : (q : ℕ) → q ≢ p → Idle st.positions q → Idle st'.positions q
  pub next : Idle st'.positions (p + 1)
  pub arcs : (z : ArcItem N E) → Among z st'.arcs → Among z st.arcs × (z.value.place ≢ p)
  pub count : length st'.arcs + 1 ≡ length st.arcs
  pub fresh : st'.fresh ≡ st.fresh
  pub arc_places : st'.arc_places ≡ st.arc_places
  pub size : length st'.positions ≡ length st.positions

module _ {N E : Type 0} (st st' : State N E) (p : ℕ) (rep : Rep st) (g : Gone st st' p) where
  kept : (q j : ℕ) → Names st.neighbors q j → Names st'.neighbors q j
  kept q j = names_kept st.neighbors st'.neighbors q j (ap (λ z. get_or z q None) g.neighbors)

  still_paired : (k q : ℕ) → Linked st' k q → Paired (Linked st') st'.positions st'.neighbors k q
  still_paired k q o =
      let r = rep.paired k q (g.all k q o) in
      let n = g.other k q o in
      let ev = g.even in
      record {
        other = r.other;
        names = kept q r.other r.names;
        loop = λ e. let l = r.loop e in let le = l.0 in (l.0, g.idle (q + 1) (λ f. omega arith) l.1);
        back = λ e. let b = r.back e in let m = partner_apart q p g.even n.0 n.1 in
            (g.old r.other (partner q) b.0 m.0 m.1, kept (partner q) k b.1);
      }

  still_spare : (q : ℕ) → has (p ∷ entries_of st.positions st.unused) q ≡ true → Spare st'.positions st'.fresh q
  still_spare q h = ⊎_elim
      (λ (e : q ≡ p). subst (Spare st'.positions st'.fresh) (sym e) (record { even = g.even; used = (let w = g.within in let f = g.fresh in omega arith); next = g.next }))
      (λ (s : has (entries_of st.positions st.unused) q ≡ true).
      let d = rep.spare q s in let de = d.even in let ev = g.even in
      record { even = d.even; used = (let w = d.used in let f = g.fresh in omega arith); next = g.idle (q + 1) (λ f. omega arith) d.next })
      (has_cons p (entries_of st.positions st.unused) q h)

  pub rep_gone : Rep st'
  rep_gone = record {
    one_item = g.base.one_item;
    held = g.base.held;
    oldest = g.base.oldest;
    paired = still_paired;
    seated = λ z m.
        let w = g.arcs z m in
        let s = rep.seated z w.0 in
        let se = s.even in
        let ev = g.even in
        record {
          even = s.even;
          owned = g.old (source_of z) z.value.place s.owned w.1 (λ f. omega arith);
          names = kept z.value.place (target_of z) s.names;
        };
    spare = λ q h. still_spare q (sym (ap (λ z. has z q) g.unused) ∙ h);
    idle = λ q h. let w = g.within in let f = g.fresh in g.idle q (λ e. omega arith) (rep.idle q (omega arith));
    places = (let e = rep.places in let c = g.count in let f = g.fresh in let u = ap length g.unused in omega arith);
    enough = (let e = rep.enough in let f = g.fresh in let h = g.arc_places in omega arith);
    roomy = (let e = rep.roomy in let f = g.size in let h = g.arc_places in omega arith);
    level = g.base.level;
  }
