-- From the tables of the finished rounds to the order of the network.
use Rattle.std.proofs.Common.{◌≡◌, ℕ, zero, suc, ◌*◌, ◌<◌, ◌≤◌, List, [], ◌∷◌, ◌++◌, map, length, get_or, take, drop, replicate, None, Option, sym, refl, ap, ◌∙◌, subst, arith}
use Rattle.std.proofs.lemmas.List.{length-map, length-append, take_at, drop_at, get_or-map, get_or-take}
use Rattle.std.proofs.lemmas.Bool.{lt-ltb}
use Rattle.keys.specs.declared.node_index.NodeIndex.{NodeIndex}
use Rattle.network.specs.Network.{Link}
use Rattle.greedy_order.specs.Part3Order.{greedy_order}
use Rattle.greedy_order.specs.Part7Folded.{run}
use Rattle.fas_layout.specs.Columns.{Neighbours}
use Rattle.fas_layout.specs.Laying.{EndsBelow, Entered, down, links_from}
use Rattle.fas_layout.specs.Stages.{Stands, Stage, Any, Ordered}
use Rattle.fas_layout.proofs.Bridge.{order_named, run_length}
use Rattle.fas_layout.proofs.Entering.{met_all}
use Rattle.fas_layout.proofs.Laid.{has_down, down_below, length_down}
use Rattle.fas_layout.proofs.Staged.{stage_first}
use Rattle.feedback_arc_set.specs.declared.container.FasNodeContainer.{FasNodeContainer}
use Rattle.feedback_arc_set.specs.declared.buckets.Buckets.{Buckets}
use Rattle.feedback_arc_set.specs.declared.places.ClassPlace.{ClassPlace}
use Rattle.feedback_arc_set.specs.declared.places.NeighbourPlace.{NeighbourPlace}
use Rattle.keyed_table.specs.Tables.{listing}
use Rattle.feedback_arc_set.specs.Containers.{nodes_of, met_of, keys_of, key_in, columns, OwnNames, SameNames}
use Rattle.feedback_arc_set.specs.Listed.{starts}
use Rattle.feedback_arc_set.specs.Nodes.{blank_key, blank_class, blank_neighbour, starts_of, BlankFrom}
use Rattle.feedback_arc_set.specs.Steps.{Ranked}
use Rattle.feedback_arc_set.proofs.Reading.{map_map, get_d_field, all_blank, names_long, same_names}

pub met_long : (c : FasNodeContainer) → length (nodes_of c) ≡ length (met_of c)
met_long c = length-map (listing c.table) (λ x. x.value) ∙ sym (length-map (listing c.table) (λ x. x.number))

-- the ends of entered arcs are entries
pub entered_ends : (network : List Link) (i : ℕ) (met nodes : List ℕ) (n : ℕ) → n ≡ length met → Entered network i met nodes → EndsBelow nodes i n
entered_ends network i met nodes n l e j b = let p = e.ends j b in let p0 = p.0.0 in let p1 = p.1.0 in (omega arith, omega arith)

-- the node that an entry's key names is the one that the entry is found by
own_value : (c : FasNodeContainer) → OwnNames c → (x : ℕ) → (key_in c x).value ≡ get_or (met_of c) x 0
own_value c o x = sym (get_d_field (λ k. k.value) (keys_of c) x blank_key) ∙ ap (λ l. get_or l x 0) (sym o)

map_each : {X Y : Type 0} (f g : X → Y) (xs : List X) → ((x : X) → f x ≡ g x) → map f xs ≡ map g xs
map_each f g [] h = refl
map_each f g (x ∷ xs) h = ap (λ v. v ∷ map f xs) (h x) ∙ ap (λ l. g x ∷ l) (map_each f g xs h)

-- where the rounds begin
pub begins : (arcs : ℕ) (E : List Link) (P : Neighbours) (n : FasNodeContainer) (b : Buckets) (order : List NodeIndex) (count : ℕ) → count ≡ length (nodes_of n) → count ≤ length order → b.arcs ≡ arcs → b.top ≡ 2 * arcs
    → Stands arcs E P (columns n) (starts b) (down count) → Stage b.arcs E P (key_in n) (map (key_in n) (run E count (down count)) ++ drop count order) Any (columns n) (starts b) b.top order 0 count
begins arcs E P n b order count c l a t s =
    let p = length-map (nodes_of n) (λ v. v.place) in
    rw (a, t) (stage_first arcs E P (key_in n) (columns n) (starts b) (down count) order count s (length_down count) l (omega arith)
    (λ x m. let r = down_below count x m in omega arith) (λ x r. has_down count x ∙ lt-ltb x count (omega arith)))

-- what the finished rounds leave
module _ (network : List Link) (n n1 : FasNodeContainer) (N : List ℕ) (before after : List NodeIndex) (s : List (Option ℕ)) (count : ℕ)
    (c : count ≡ length (nodes_of n)) (own : OwnNames n) (e : Entered network (length network) (met_of n) N) (same : SameNames n1 n)
    (o : Ordered (key_in n) (map (key_in n) (run (links_from N 0 (length network)) count (down count)) ++ drop count before) after (columns n1) s) where
  size : count ≡ length (met_of n)
  size = c ∙ met_long n

  size1 : length (met_of n1) ≡ count
  size1 = ap length same.met ∙ sym size

  R : List ℕ
  R = run (links_from N 0 (length network)) count (down count)

  long : length (map (key_in n) (run (links_from N 0 (length network)) count (down count))) ≡ count
  long = length-map (run (links_from N 0 (length network)) count (down count)) (key_in n) ∙ rw size (run_length network (met_of n) N e)

  front : take count after ≡ map (key_in n) (run (links_from N 0 (length network)) count (down count))
  front = ap (take count) o.order_is ∙ take_at (map (key_in n) (run (links_from N 0 (length network)) count (down count))) (drop count before) count long

  order : map (λ k. k.value) (take count after) ≡ greedy_order network
  order =
      ap (map (λ k. k.value)) front
      ∙ map_map (λ k. k.value) (key_in n) (run (links_from N 0 (length network)) count (down count))
      ∙ map_each (λ x. (key_in n x).value) (λ x. get_or (met_of n) x 0) (run (links_from N 0 (length network)) count (down count)) (own_value n own)
      ∙ rw size (order_named network (met_of n) N e)

  columns_long : length (columns n1).places ≡ count
  columns_long = length-map (nodes_of n1) (λ v. v.place) ∙ names_long n1 n same ∙ sym c

  long_after : count ≤ length after
  long_after = let a = ap length o.order_is in let b = length-append (map (key_in n) (run (links_from N 0 (length network)) count (down count))) (drop count before) in let d = long in omega arith

  place : (x : ℕ) → x < count → (get_or (columns n1).places x 0 < count) × (get_or (greedy_order network) (get_or (columns n1).places x 0) 0 ≡ get_or (met_of n1) x 0)
  place x l =
      let k = columns_long in
      let p = o.places x (omega arith) in
      let b : get_or (columns n1).places x 0 < count = let q = p.0 in omega arith in
      let a = long_after in
      let t : length (take count after) ≡ count = ap length front ∙ long in (
        b,
        ap (λ l. get_or l (get_or (columns n1).places x 0) 0) (sym order)
            ∙ get_or-map (λ k. k.value) (take count after) (get_or (columns n1).places x 0) (key_in n x) 0 (omega arith)
            ∙ ap (λ k. k.value) (get_or-take count after (get_or (columns n1).places x 0) (key_in n x) b ∙ p.1)
            ∙ own_value n own x ∙ ap (λ l. get_or l x 0) (sym same.met),
      )

  pub ranked : Ranked network n1 before after
  ranked = record {
    met = same.met ∙ e.nodes_met ∙ met_all network (length network) (omega arith);
    own = same.met ∙ own ∙ ap (map (λ k. k.value)) (sym same.names);
    order = rw size1 order;
    rest = rw size1 (ap (drop count) o.order_is ∙ drop_at (map (key_in n) (run (links_from N 0 (length network)) count (down count))) (drop count before) count long);
    places = rw size1 place;
  }

-- classes without a member are blank
pub classes_blank : (cs : List ClassPlace) (n : ℕ) → length cs ≡ n → ((c : ℕ) → get_or (starts_of cs) c None ≡ None) → cs ≡ replicate n blank_class
classes_blank cs n l h = all_blank cs n blank_class l (λ k. ap class_at (sym (get_d_field (λ p. p.list.start) cs k blank_class) ∙ h k))
  where
    class_at : Option ℕ → ClassPlace
    class_at o = record { list = record { start = o } }

replicated : (n c : ℕ) → get_or (replicate n blank_class) c blank_class ≡ blank_class
replicated zero c = refl
replicated (suc n) zero = refl
replicated (suc n) (suc c) = replicated n c

pub blank_classes : (cs : List ClassPlace) → cs ≡ replicate (length cs) blank_class → (c : ℕ) → get_or (starts_of cs) c None ≡ None
blank_classes cs h c = get_d_field (λ p. p.list.start) cs c blank_class ∙ ap (λ p. p.list.start) (ap (λ l. get_or l c blank_class) h ∙ replicated (length cs) c)

-- n are the entries before the arcs are laid out, n1 after it, n2 after the rounds; m is the number of arcs
pub ranked_from : (network : List Link) (n n1 n2 : FasNodeContainer) (N : List ℕ) (before last after : List NodeIndex) (s : List (Option ℕ)) (m count : ℕ) → length network ≡ m → count ≡ length (nodes_of n) → OwnNames n → Entered network m (met_of n) N → SameNames n1 n → SameNames n2 n1
    → Ordered (key_in n1) (map (key_in n1) (run (links_from N 0 m) count (down count)) ++ drop count before) last (columns n2) s → after ≡ last → Ranked network n2 before after
ranked_from network n n1 n2 N before last after s m count l c own e k1 k2 o q =
    let o1 : Ordered (key_in n) (map (key_in n) (run (links_from N 0 m) count (down count)) ++ drop count before) last (columns n2) s =
    subst (λ v. Ordered (λ x. get_or v x blank_key) (map (λ x. get_or v x blank_key) (run (links_from N 0 m) count (down count)) ++ drop count before) last (columns n2) s) k1.names o in
    let o2 : Ordered (key_in n) (map (key_in n) (run (links_from N 0 (length network)) count (down count)) ++ drop count before) after (columns n2) s =
    rw (q, l) o1 in
    ranked network n n2 N before after s count c own (rw l e) (same_names n2 n1 n k2 k1) o2

pub classes_blank_from : (cs last : List ClassPlace) (n : ℕ) → cs ≡ last → length cs ≡ n → ((c : ℕ) → get_or (starts_of last) c None ≡ None) → cs ≡ replicate n blank_class
classes_blank_from cs last n e l h = classes_blank cs n l (λ c. ap (λ v. get_or (starts_of v) c None) e ∙ h c)

replicated_places : (n k : ℕ) → get_or (replicate n blank_neighbour) k blank_neighbour ≡ blank_neighbour
replicated_places zero k = refl
replicated_places (suc n) zero = refl
replicated_places (suc n) (suc k) = replicated_places n k

-- blank places are blank from any place on
pub blank_from : (ps : List NeighbourPlace) (n k : ℕ) → ps ≡ replicate n blank_neighbour → BlankFrom ps k
blank_from ps n k e j l = ap (λ v. get_or v j blank_neighbour) e ∙ replicated_places n j
