-- The stages of a round, as the code goes from one to the next.
use Rattle.std.proofs.Common.{◌≡◌, ℕ, ◌+◌, ◌-◌, ◌*◌, ◌<◌, ◌≤◌, List, [], get_or, set, Some, None, sym, refl, ap, ◌∙◌, subst, ⊎_elim, arith}
use Rattle.std.proofs.lemmas.Bool.{cases_lt, false≢true}
use Rattle.keys.specs.declared.node_index.NodeIndex.{NodeIndex}
use Rattle.network.specs.Network.{Link}
use Rattle.greedy_order.specs.Part2Greedy.{NoSink}
use Rattle.fas_layout.specs.Columns.{Neighbours, PlaceWritten}
use Rattle.fas_layout.specs.Stages.{Stands, Any, Neither, Nothing, Ordered}
use Rattle.fas_layout.proofs.Staged.{stage_sink, stage_source, stage_no_sink, stage_no_source, stage_empty, stage_best, stage_over, stage_last}
use Rattle.feedback_arc_set.specs.declared.container.FasNodeContainer.{FasNodeContainer}
use Rattle.feedback_arc_set.specs.declared.buckets.Buckets.{Buckets}
use Rattle.feedback_arc_set.specs.declared.halves.Halves.{Halves}
use Rattle.feedback_arc_set.specs.Containers.{columns, key_in, SameNames}
use Rattle.feedback_arc_set.specs.Listed.{At, TookFirst, starts, order_places}
use Rattle.feedback_arc_set.specs.Nodes.{blank_key}
use Rattle.feedback_arc_set.proofs.Reading.{same_names, names_back}

pub same_key : (a b : FasNodeContainer) → SameNames a b → (x : ℕ) → key_in a x ≡ key_in b x
same_key a b n x = ap (λ l. get_or l x blank_key) n.names

module _ (arcs : List Link) (P : Neighbours) (key : ℕ → NodeIndex) (goal : List NodeIndex) (n n1 n2 : FasNodeContainer) (b b1 : Buckets) (h h1 : Halves) (class room x : ℕ)
    (f : TookFirst P n n1 b b1 class room (Some x)) (left : 0 < room) (same : key_in n1 x ≡ key x) where
  -- a sink goes to the tail half
  pub sink_again : class ≡ 0 → order_places h1 ≡ set (order_places h) (h.back - 1) (key_in n1 x) → PlaceWritten (columns n2) (columns n1) x (h.back - 1) → h1.front ≡ h.front → h1.back ≡ h.back - 1
      → At arcs P key goal Any n b h → At arcs P key goal Any n2 b1 h1
  sink_again z oe w fe be g =
      rw (f.arcs, fe, be) (stage_sink b.arcs arcs P key goal (columns n) (columns n1) (columns n2) (starts b) (starts b1) b.top b1.top (order_places h) (order_places h1) h.front h.back x f.placed
      (oe ∙ ap (set (order_places h) (h.back - 1)) same) w (λ us st. rw (← z) (f.took arcs us left st)) (λ us st. f.capped arcs us left st) g)

  -- a source node goes to the head half
  pub source_again : class ≡ 2 * b.arcs → order_places h1 ≡ set (order_places h) h.front (key_in n1 x) → PlaceWritten (columns n2) (columns n1) x h.front → h1.front ≡ h.front + 1 → h1.back ≡ h.back
      → At arcs P key goal (NoSink arcs) n b h → At arcs P key goal (NoSink arcs) n2 b1 h1
  source_again z oe w fe be g =
      rw (f.arcs, fe, be) (stage_source b.arcs arcs P key goal (columns n) (columns n1) (columns n2) (starts b) (starts b1) b.top b1.top (order_places h) (order_places h1) h.front h.back x f.placed
      (oe ∙ ap (set (order_places h) h.front) same) w (λ us st. rw (← z) (f.took arcs us left st)) (λ us st. f.capped arcs us left st) g)

module _ (arcs : List Link) (P : Neighbours) (key : ℕ → NodeIndex) (goal : List NodeIndex) (n n1 : FasNodeContainer) (b b1 : Buckets) (h : Halves) (class room : ℕ)
    (f : TookFirst P n n1 b b1 class room None) (is-room : room ≡ h.back - h.front) where
  -- where the halves meet nothing is left
  met : (Q R : List ℕ → Type 0) → R [] → room ≤ 0 → At arcs P key goal Q n b h → At arcs P key goal R n1 b1 h
  met Q R r z g =
      let e = f.full (omega arith) in
      let k = stage_empty b.arcs arcs P key goal Q R (columns n) (starts b) b.top (order_places h) h.front h.back r (omega arith) g in
      subst (λ v. At arcs P key goal R v b1 h) (sym e.0) (subst (λ v. At arcs P key goal R n v h) (sym e.1) k)

  pub sinks_end : class ≡ 0 → At arcs P key goal Any n b h → At arcs P key goal (NoSink arcs) n1 b1 h
  sinks_end z g = ⊎_elim
      (λ (o : 0 < room). rw f.arcs (stage_no_sink b.arcs arcs P key goal (columns n) (columns n1) (starts b) (starts b1) b.top b1.top (order_places h) h.front h.back f.placed (λ us st. rw (← z) (f.took arcs us o st)) (λ us st. f.capped arcs us o st) g))
      (λ (o : room ≤ 0). met Any (NoSink arcs) (λ y k. absurd (false≢true k)) o g)
      (cases_lt 0 room)

  pub sources_end : class ≡ 2 * b.arcs → At arcs P key goal (NoSink arcs) n b h → At arcs P key goal (Neither arcs) n1 b1 h
  sources_end z g = ⊎_elim
      (λ (o : 0 < room). rw f.arcs (stage_no_source b.arcs arcs P key goal (columns n) (columns n1) (starts b) (starts b1) b.top b1.top (order_places h) h.front h.back f.placed (λ us st. rw (← z) (f.took arcs us o st)) (λ us st. f.capped arcs us o st) g))
      (λ (o : room ≤ 0). met (NoSink arcs) (Neither arcs) (λ y k. absurd (false≢true k), λ y k. absurd (false≢true k)) o g)
      (cases_lt 0 room)

-- the node of the best class goes to the head half; bt is b with the best class as its top
module _ (arcs : List Link) (P : Neighbours) (key : ℕ → NodeIndex) (goal : List NodeIndex) (n n1 : FasNodeContainer) (b bt b1 : Buckets) (h : Halves) (room : ℕ)
    (above : (k : ℕ) → bt.top < k → k ≤ b.top → get_or (starts b) k None ≡ None) (member : get_or (starts b) bt.top None ≡ None → bt.top ≡ 0)
    (same_arcs : bt.arcs ≡ b.arcs) (same-starts : starts bt ≡ starts b) where
  stands : (us : List ℕ) → Stands b.arcs arcs P (columns n) (starts b) us → Stands bt.arcs arcs P (columns n) (starts bt) us
  stands us st = rw (same_arcs, same-starts) st

  pub best_again : (n2 : FasNodeContainer) (h1 : Halves) (x : ℕ) → TookFirst P n n1 bt b1 bt.top room (Some x) → 0 < room → key_in n1 x ≡ key x
      → order_places h1 ≡ set (order_places h) h.front (key_in n1 x) → PlaceWritten (columns n2) (columns n1) x h.front → h1.front ≡ h.front + 1 → h1.back ≡ h.back
      → At arcs P key goal (Neither arcs) n b h → At arcs P key goal Any n2 b1 h1
  best_again n2 h1 x f left same oe w fe be g =
      rw (f.arcs, same_arcs, fe, be) (stage_best b.arcs arcs P key goal (columns n) (columns n1) (columns n2) (starts b) (starts b1) b.top b1.top (order_places h) (order_places h1) h.front h.back bt.top above member f.placed x
      (oe ∙ ap (set (order_places h) h.front) same) w
      (λ us st. rw (← same_arcs) (f.took arcs us left (stands us st)))
      (λ us st cap. rw (← same_arcs) (f.capped arcs us left (stands us st) (rw same_arcs cap))) g)

  pub best_over : TookFirst P n n1 bt b1 bt.top room None → room ≡ h.back - h.front → At arcs P key goal (Neither arcs) n b h → Ordered key goal (order_places h) (columns n1) (starts b1)
  best_over f is-room g = ⊎_elim
      (λ (o : 0 < room).
      stage_last b.arcs arcs P key goal (columns n1) (starts b1) b1.top (order_places h) h.front h.back
      (stage_over b.arcs arcs P key goal (columns n) (columns n1) (columns n1) (starts b) (starts b1) b.top b1.top (order_places h) (order_places h) h.front h.back bt.top above member f.placed
      (λ us st. rw (← same_arcs) (f.took arcs us o (stands us st)))
      (λ us st cap. rw (← same_arcs) (f.capped arcs us o (stands us st) (rw same_arcs cap))) g))
      (λ (o : room ≤ 0).
      let e = f.full (omega arith) in
      let k = stage_last b.arcs arcs P key goal (columns n) (starts b) b.top (order_places h) h.front h.back (stage_empty b.arcs arcs P key goal (Neither arcs) Nothing (columns n) (starts b) b.top (order_places h) h.front h.back refl (omega arith) g) in
      let s : starts b1 ≡ starts b = ap starts e.1 ∙ same-starts in
      subst (λ v. Ordered key goal (order_places h) (columns v) (starts b1)) (sym e.0) (subst (λ v. Ordered key goal (order_places h) (columns n) v) (sym s) k))
      (cases_lt 0 room)

-- the same nodes have the same keys
pub at_names : (arcs : List Link) (P : Neighbours) (goal : List NodeIndex) (Q : List ℕ → Type 0) (a d n : FasNodeContainer) (b : Buckets) (h : Halves) → SameNames a d → At arcs P (key_in a) goal Q n b h → At arcs P (key_in d) goal Q n b h
at_names arcs P goal Q a d n b h s g = subst (λ l. At arcs P (λ x. get_or l x blank_key) goal Q n b h) s.names g

-- a round up to its best node: from 1 over the sinks to 2, and over the source nodes to 3; 0 is where the rounds began
pub round_neither : (arcs : List Link) (P : Neighbours) (goal : List NodeIndex) (n0 n1 n2 n3 : FasNodeContainer) (b1 b2 b3 : Buckets) (h1 h2 h3 : Halves) → SameNames n1 n0 → SameNames n2 n1
    → (At arcs P (key_in n1) goal Any n1 b1 h1 → At arcs P (key_in n1) goal (NoSink arcs) n2 b2 h2) → (At arcs P (key_in n2) goal (NoSink arcs) n2 b2 h2 → At arcs P (key_in n2) goal (Neither arcs) n3 b3 h3)
    → At arcs P (key_in n0) goal Any n1 b1 h1 → At arcs P (key_in n0) goal (Neither arcs) n3 b3 h3
round_neither arcs P goal n0 n1 n2 n3 b1 b2 b3 h1 h2 h3 k1 k2 sinks sources g =
    let a = at_names arcs P goal Any n0 n1 n1 b1 h1 (names_back n1 n0 k1) g in
    let b = at_names arcs P goal (NoSink arcs) n1 n2 n2 b2 h2 (names_back n2 n1 k2) (sinks a) in
    at_names arcs P goal (Neither arcs) n2 n0 n3 b3 h3 (same_names n2 n1 n0 k2 k1) (sources b)
