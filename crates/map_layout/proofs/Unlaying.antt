-- An arc goes, with its links.
use Rattle.std.proofs.Common.{◌≡◌, ℕ, suc, ◌+◌, ◌-◌, ◌%◌, ◌^◌, ◌<◌, ◌≤◌, ◌≢◌, List, ◌∷◌, length, Option, sym, ap, ◌∙◌, subst, ⊎_elim, arith}
use Rattle.std.proofs.lemmas.Bool.{cases_eq, cases_lt, eq-eqb}
use Rattle.keys.specs.declared.node_index.NodeIndex.{NodeIndex}
use Rattle.keys.specs.Numbers.{pair_number}
use Rattle.map_model.specs.Lists.{count, taken}
use Rattle.map_model.specs.Model.{between}
use Rattle.map_model.specs.Sound.{Sound}
use Rattle.map_model.proofs.Searching.{count_taken}
use Rattle.map_layout.specs.declared.records.IndexedKey.{IndexedKey}
use Rattle.map_layout.specs.Layout.{State, ArcItem, Among, numbered, Idle, Names, Lists, Linked, Rep, partner, source_of, target_of, arc_in, model}
use Rattle.map_layout.specs.Steps.{place_given, arc_gone}
use Rattle.map_layout.specs.Edits.{ends_number}
use Rattle.map_layout.proofs.Members.{among_taken, among_counts, length_taken}
use Rattle.map_layout.proofs.Mapping.{count_map}
use Rattle.map_layout.proofs.Items.{without_taken}
use Rattle.map_layout.proofs.Pairs.{between_number, partner_even, partner_odd}
use Rattle.map_layout.proofs.Holding.{idle_unowned, one_owner}
use Rattle.map_layout.proofs.Attaching.{Same}
use Rattle.map_layout.proofs.Detaching.{Lost}
use Rattle.map_layout.proofs.Reusing.{gives}
use Rattle.map_layout.proofs.Pairing.{Gone}

-- ---- two places go
pub record LostBoth {N E : Type 0} (st st' : State N E) (a b : ℕ) : Type 0 where
  pub same : Same st st'
  pub neighbors : st'.neighbors ≡ st.neighbors
  pub old : (k q : ℕ) → Linked st k q → q ≢ a → q ≢ b → Linked st' k q
  pub all : (k q : ℕ) → Linked st' k q → Linked st k q
  pub other : (k q : ℕ) → Linked st' k q → (q ≢ a) × (q ≢ b)
  pub idle : (q : ℕ) → q ≢ a → q ≢ b → Idle st.positions q → Idle st'.positions q
  pub free : Idle st'.positions a
  pub next : Idle st'.positions b

pub turned : {N E : Type 0} (st st' : State N E) (a b : ℕ) → LostBoth st st' a b → LostBoth st st' b a
turned st st' a b l = record {
  same = l.same;
  neighbors = l.neighbors;
  old = λ k q o n m. l.old k q o m n;
  all = l.all;
  other = λ k q o. let r = l.other k q o in (r.1, r.0);
  idle = λ q n m. l.idle q m n;
  free = l.next;
  next = l.free;
}

same_same : {N E : Type 0} (st st1 st2 : State N E) → Same st st1 → Same st1 st2 → Same st st2
same_same st st1 st2 s t = record {
  base = t.base;
  arcs = t.arcs ∙ s.arcs;
  unused = t.unused ∙ s.unused;
  fresh = t.fresh ∙ s.fresh;
  node_places = t.node_places ∙ s.node_places;
  arc_places = t.arc_places ∙ s.arc_places;
  size = t.size ∙ s.size;
}

pub lost_two : {N E : Type 0} (st st1 st2 : State N E) (a b : ℕ) → a ≢ b → Lost st a st1 → Lost st1 b st2 → LostBoth st st2 a b
lost_two st st1 st2 a b ne l m = record {
  same = same_same st st1 st2 l.same m.same;
  neighbors = m.neighbors ∙ l.neighbors;
  old = λ k q o n n2. m.old k q (l.old k q o n) n2;
  all = λ k q o. l.all k q (m.all k q o);
  other = λ k q o. (l.other k q (m.all k q o), m.other k q o);
  idle = λ q n n2 i. m.idle q n2 (l.idle q n i);
  free = m.idle a ne l.free;
  next = m.free;
}

pub lost_one : {N E : Type 0} (st st1 : State N E) (a b : ℕ) → b ≢ a → Idle st.positions b → Lost st a st1 → LostBoth st st1 a b
lost_one st st1 a b ne i l =
    let f = l.idle b ne i in
    record {
      same = l.same;
      neighbors = l.neighbors;
      old = λ k q o n n2. l.old k q o n;
      all = l.all;
      other = λ k q o. (l.other k q o, λ e. idle_unowned (Lists st1) st1.positions l.same.base.held (suc k) b f (subst (Linked st1 k) e o));
      idle = λ q n n2. l.idle q n;
      free = l.free;
      next = f;
    }

-- ---- an arc from i to j whose links are at e and e + 1
names_one : {N : Type 0} (cs : List (Option (IndexedKey N))) (p i j : ℕ) → Names cs p i → Names cs p j → i ≡ j
names_one cs p i j a b =
    let s = a.there in let t = b.there in let u = a.named in let v = b.named in
    let w : a.neighbor ≡ b.neighbor = cc in
    sym u ∙ ap (λ (z : IndexedKey _). z.index.value) w ∙ v

pub record ArcAt {N E : Type 0} (st : State N E) (i j e : ℕ) : Type 0 where
  pub even : e % 2 ≡ 0
  pub owned : Linked st i e
  pub names : Names st.neighbors e j
  pub far : i ≢ j → Linked st j (e + 1)
  pub far_names : i ≢ j → Names st.neighbors (e + 1) i
  pub loop : i ≡ j → Idle st.positions (e + 1)

module _ {N E : Type 0} (st : State N E) (rep : Rep st) where
  pub arc_at : (i j e : ℕ) → e % 2 ≡ 0 → Linked st i e → Names st.neighbors e j → ArcAt st i j e
  arc_at i j e ev o n =
      let r = rep.paired i e o in
      let q : r.other ≡ j = names_one st.neighbors e r.other j r.names n in
      let pe = partner_even e ev in
      let b : i ≢ j → Linked st r.other (partner e) × Names st.neighbors (partner e) i = λ ne. r.back (λ f. ne (sym f ∙ q)) in
      record {
        even = ev;
        owned = o;
        names = n;
        far = λ ne. subst (λ z. Linked st z (e + 1)) q (subst (Linked st r.other) pe (b ne).0);
        far_names = λ ne. subst (λ z. Names st.neighbors z i) pe (b ne).1;
        loop = λ f. (r.loop (q ∙ sym f)).1;
      }

  -- every link is one of an arc's
  pub arc_out : (i p : ℕ) → Linked st i p → (j : ℕ) → Names st.neighbors p j → p % 2 ≡ 0 → ArcAt st i j p
  arc_out i p o j n ev = arc_at i j p ev o n

  pub arc_in_of : (i p : ℕ) → Linked st i p → (j : ℕ) → Names st.neighbors p j → p % 2 ≢ 0 → (j ≢ i) × ArcAt st j i (p - 1)
  arc_in_of i p o j n od =
      let r = rep.paired i p o in
      let q : r.other ≡ j = names_one st.neighbors p r.other j r.names n in
      let ne : r.other ≢ i = λ f. od (r.loop f).0 in
      let b = r.back ne in
      let po = partner_odd p od in
      ((λ f. ne (q ∙ f)), arc_at j i (p - 1) (omega arith) (subst (λ z. Linked st z (p - 1)) q (subst (Linked st r.other) po b.0)) (subst (λ z. Names st.neighbors z i) po b.1))

  -- a place that is linked was used before
  pub linked_used : (i p : ℕ) → Linked st i p → p < st.fresh
  linked_used i p o = ⊎_elim
      (λ (h : p < st.fresh). h)
      (λ (h : st.fresh ≤ p). absurd (idle_unowned (Lists st) st.positions rep.held (suc i) p (rep.idle p h) o))
      (cases_lt p st.fresh)

  -- an arc with that place is that arc
  pub arc_here : (i j e : ℕ) → j < 2 ^ 32 → ArcAt st i j e → (z : ArcItem N E) → Among z st.arcs → z.value.place ≡ e → z.number ≡ pair_number i j
  arc_here i j e small a z m q =
      let s = rep.seated z m in
      let so : source_of z ≡ i = (let w = one_owner (Lists st) st.positions rep.held (suc (source_of z)) (suc i) e (subst (Linked st (source_of z)) q s.owned) a.owned in omega arith) in
      let ta : target_of z ≡ j = names_one st.neighbors e (target_of z) j (subst (λ v. Names st.neighbors v (target_of z)) q s.names) a.names in
      omega arith

  -- the links are gone, and its place is given back
  pub gone_by : (i j : NodeIndex) (e : ℕ) (C : State N E) → ArcAt st i.value j.value e → Sound (model st) → 1 ≤ count (numbered (ends_number i j)) st.arcs
      → LostBoth (arc_gone (ends_number i j) st) C e (e + 1) → Gone st (place_given e C) e
  gone_by i j e C a sound there l =
      let A = arc_gone (ends_number i j) st in
      let k = ends_number i j in
      let w = without_taken k st.arcs in
      let js = j.small in
      let once : count (numbered k) st.arcs ≤ 1 = (let c = count_map (numbered k) (between i.value j.value) arc_in (between_number i.value j.value js) st.arcs in let d = sound.one_arc i.value j.value in omega arith) in
      let used = linked_used i.value e a.owned in
      let en = rep.enough in
      let ro = rep.roomy in
      let sz = l.same.size in
      let g = gives C e l.same.base l.free (omega arith) in
      let r = g.refiled in
      record {
        base = r.base;
        neighbors = r.neighbors ∙ l.neighbors;
        even = a.even;
        within = used;
        unused = r.unused ∙ ap (λ z. e ∷ z) l.same.unused;
        old = λ m q o n n2. r.old m q (l.old m q o n n2);
        all = λ m q o. l.all m q (r.all m q o);
        other = λ m q o. l.other m q (r.all m q o);
        idle = λ q n i2. ⊎_elim
            (λ (f : q ≡ e + 1). g.idle q n (subst (Idle C.positions) (sym f) l.next))
            (λ (f : q ≢ e + 1). g.idle q n (l.idle q n f i2))
            (cases_eq q (e + 1));
        next = g.idle (e + 1) (λ f. omega arith) l.next;
        arcs = λ z m.
            let m2 : Among z (taken (numbered k) st.arcs) = subst (Among z) (r.arcs ∙ l.same.arcs ∙ w) m in
            let m3 = among_taken (numbered k) st.arcs z m2 in (
              m3,
              λ f.
                  let c = count_taken (numbered k) st.arcs in
                  let d = among_counts (numbered k) (taken (numbered k) st.arcs) z m2 (eq-eqb z.number k (arc_here i.value j.value e js a z m3 f)) in
                  omega arith,
            );
        count = (let u = ap length (r.arcs ∙ l.same.arcs ∙ w) in let v = length_taken (numbered k) st.arcs there in omega arith);
        fresh = g.fresh ∙ l.same.fresh;
        arc_places = r.arc_places ∙ l.same.arc_places;
        size = r.size ∙ l.same.size;
      }
