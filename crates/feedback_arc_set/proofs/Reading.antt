-- Entries read from the table and written into it, by column.
use Rattle.std.proofs.Common.{◌≡◌, ℕ, zero, suc, ◌+◌, ◌-◌, ◌^◌, ◌<◌, Bool, List, [], ◌∷◌, map, length, get_or, set, replicate, Some, None, MatchOption, sym, refl, ap, ◌∙◌, arith}
use mathlib.Core.HLevel.{is_prop→PathP}
use native.Mathlib.Bridge.{le_prop}
use Rattle.std.specs.List.{slice_get}
use Rattle.std.proofs.lemmas.List.{map-set, set-get_or, length-map, get_or-set_other, ext_get_or, length-replicate, get_or-replicate}
use Rattle.keys.specs.declared.fas_node_index.FasNodeIndex.{FasNodeIndex}
use Rattle.keys.specs.declared.node_index.NodeIndex.{NodeIndex}
use Rattle.keyed_table.specs.declared.slots.Item.{Item}
use Rattle.keyed_table.specs.Listing.{changed_at}
use Rattle.feedback_arc_set.specs.declared.fas_node.FasNode.{FasNode}
use Rattle.feedback_arc_set.specs.declared.places.NeighbourPlace.{NeighbourPlace}
use Rattle.keyed_table.specs.Tables.{listing}
use Rattle.linked_list.specs.Places.{is_in, at}
use Rattle.feedback_arc_set.specs.declared.buckets.Buckets.{Buckets}
use Rattle.feedback_arc_set.specs.Listed.{SameSizes}
use Rattle.feedback_arc_set.specs.declared.container.FasNodeContainer.{FasNodeContainer}
use Rattle.network.specs.declared.direction.CompactDirection.{CompactDirection}
use Rattle.network.specs.declared.direction.CompactDirection.TheVariants.{Outgoing, Incoming}
use Rattle.fas_layout.specs.Columns.{SameLinks, SameButPositions, class_of, class_at}
use Rattle.network.specs.Directions.{opposite}
use Rattle.fas_layout.specs.Following.{degrees, firsts}
use Rattle.fas_layout.specs.Laying.{Led, Sized}
use Rattle.feedback_arc_set.specs.Containers.{nodes_of, columns, unlisted, unlisted_of, SameNames}
use Rattle.feedback_arc_set.specs.Nodes.{blank_node, columns_of, lowered_node, led_node, degree_of, first_of, blank_neighbour, BlankFrom, SameButAt}

pub fas_index_alike : (x y : FasNodeIndex) → x.value ≡ y.value → x ≡ y
fas_index_alike x y e = λ i. record { value = e i; small = is_prop→PathP (λ j. e j < 2 ^ 32) (λ j. le_prop) x.small y.small i }

pub index_alike : (x y : NodeIndex) → x.value ≡ y.value → x ≡ y
index_alike x y e = λ i. record { value = e i; small = is_prop→PathP (λ j. e j < 2 ^ 32) (λ j. le_prop) x.small y.small i }

-- a field of what stands at i
pub get_d_field : {X Y : Type 0} (f : X → Y) (xs : List X) (i : ℕ) (d : X) → get_or (map f xs) i (f d) ≡ f (get_or xs i d)
get_d_field f [] i d = refl
get_d_field f (x ∷ xs) zero d = refl
get_d_field f (x ∷ xs) (suc i) d = get_d_field f xs i d

-- what is written at i has a field as it was
pub field_kept : {X Y : Type 0} (f : X → Y) (xs : List X) (i : ℕ) (d v : X) → f v ≡ f (get_or xs i d) → map f (set xs i v) ≡ map f xs
field_kept f xs i d v e = map-set f xs i v ∙ ap (set (map f xs) i) (e ∙ sym (get_d_field f xs i d)) ∙ set-get_or (map f xs) i (f d)

pub field_written : {X Y : Type 0} (f : X → Y) (xs : List X) (i : ℕ) (v : X) (w : Y) → f v ≡ w → map f (set xs i v) ≡ set (map f xs) i w
field_written f xs i v w e = map-set f xs i v ∙ ap (set (map f xs) i) e

-- a field of the item at a position, or what stands for it past the last
pub read_or : {X Y : Type 0} (f : X → Y) (d : Y) (l : List X) (i : ℕ) (r : Y) → MatchOption (slice_get l i) (r ≡ d) (λ x. r ≡ f x) → r ≡ get_or (map f l) i d
read_or f d [] i r h = h
read_or f d (x ∷ l) zero r h = h
read_or f d (x ∷ l) (suc i) r h = read_or f d l i r h

pub changed_values : (l : List (Item NodeIndex FasNode)) (i : ℕ) (v : FasNode) → map (λ x. x.value) (changed_at i v l) ≡ set (map (λ x. x.value) l) i v
changed_values [] zero v = refl
changed_values [] (suc i) v = refl
changed_values (x ∷ l) zero v = refl
changed_values (x ∷ l) (suc i) v = ap (λ k. x.value ∷ k) (changed_values l i v)

-- a new value leaves what does not depend on it
pub changed_same : {X : Type 0} (f : Item NodeIndex FasNode → X) (l : List (Item NodeIndex FasNode)) (i : ℕ) (v : FasNode) → ((x : Item NodeIndex FasNode) → f (record { number = x.number; key = x.key; value = v }) ≡ f x) → map f (changed_at i v l) ≡ map f l
changed_same f [] zero v h = refl
changed_same f [] (suc i) v h = refl
changed_same f (x ∷ l) zero v h = ap (λ y. y ∷ map f l) (h x)
changed_same f (x ∷ l) (suc i) v h = ap (λ k. f x ∷ k) (changed_same f l i v h)

-- the entries ms are ns with the entry i written anew: a field that was kept, and one that was written
pub kept_by : {Y : Type 0} (f : FasNode → Y) (ns ms : List FasNode) (i : ℕ) (old new : FasNode) → old ≡ get_or ns i blank_node → ms ≡ set ns i new → f new ≡ f old → map f ms ≡ map f ns
kept_by f ns ms i old new e w k = ap (map f) w ∙ field_kept f ns i blank_node new (k ∙ ap f e)

pub written_by : {Y : Type 0} (f : FasNode → Y) (ns ms : List FasNode) (i : ℕ) (new : FasNode) (w : Y) → ms ≡ set ns i new → f new ≡ w → map f ms ≡ set (map f ns) i w
written_by f ns ms i new w e k = ap (map f) e ∙ field_written f ns i new w k

pub map_map : {X Y Z : Type 0} (g : Y → Z) (f : X → Y) (xs : List X) → map g (map f xs) ≡ map (λ x. g (f x)) xs
map_map g f [] = refl
map_map g f (x ∷ xs) = ap (λ l. g (f x) ∷ l) (map_map g f xs)

-- the columns of entries that differ in their positions only
pub unlisted_same : (a b : FasNodeContainer) → unlisted_of a ≡ unlisted_of b → SameButPositions (columns a) (columns b)
unlisted_same a b e = record {
  out_degrees = field (λ n. n.out_degree);
  in_degrees = field (λ n. n.in_degree);
  links = record { outs = field (λ n. n.first_out); ins = field (λ n. n.first_in); placed = field (λ n. n.place) };
}
  where
    nodes : map unlisted (nodes_of a) ≡ map unlisted (nodes_of b)
    nodes = ap (λ r. r.3) e

    field : {Y : Type 0} (f : FasNode → Y) → map (λ n. f (unlisted n)) (nodes_of a) ≡ map (λ n. f (unlisted n)) (nodes_of b)
    field f = sym (map_map f unlisted (nodes_of a)) ∙ ap (map f) nodes ∙ map_map f unlisted (nodes_of b)

pub unlisted_names : (a b : FasNodeContainer) → unlisted_of a ≡ unlisted_of b → SameNames a b
unlisted_names a b e = record { met = ap (λ r. r.1) e; names = ap (λ r. r.2) e; slots = ap (λ r. r.0) e }

pub class_read : (m : ℕ) (ns : List FasNode) (y : ℕ) → class_of m (get_or ns y blank_node).out_degree (get_or ns y blank_node).in_degree ≡ class_at m (columns_of ns) y
class_read m ns y = let a = get_d_field (λ (n : FasNode). n.out_degree) ns y blank_node in let b = get_d_field (λ (n : FasNode). n.in_degree) ns y blank_node in cc

-- the entry i has one arc less
pub record Lowered (d : CompactDirection) (ns ms : List FasNode) (i : ℕ) : Type 0 where
  pub positions : (columns_of ms).positions ≡ (columns_of ns).positions
  pub falls : degrees d (columns_of ms) ≡ set (degrees d (columns_of ns)) i (get_or (degrees d (columns_of ns)) i 0 - 1)
  pub other : degrees (opposite d) (columns_of ms) ≡ degrees (opposite d) (columns_of ns)
  pub links : SameLinks (columns_of ms) (columns_of ns)

pub lowered_columns : (d : CompactDirection) (ns ms : List FasNode) (i : ℕ) (old : FasNode) → old ≡ get_or ns i blank_node → ms ≡ set ns i (lowered_node d old) → Lowered d ns ms i
lowered_columns Outgoing ns ms i old e w = record {
  positions = kept_by (λ n. n.position) ns ms i old _ e w refl;
  falls = written_by (λ n. n.out_degree) ns ms i _ _ w (ap (λ n. n.out_degree - 1) e ∙ ap (λ v. v - 1) (sym (get_d_field (λ n. n.out_degree) ns i blank_node)));
  other = kept_by (λ n. n.in_degree) ns ms i old _ e w refl;
  links = record { outs = kept_by (λ n. n.first_out) ns ms i old _ e w refl; ins = kept_by (λ n. n.first_in) ns ms i old _ e w refl; placed = kept_by (λ n. n.place) ns ms i old _ e w refl };
}
lowered_columns Incoming ns ms i old e w = record {
  positions = kept_by (λ n. n.position) ns ms i old _ e w refl;
  falls = written_by (λ n. n.in_degree) ns ms i _ _ w (ap (λ n. n.in_degree - 1) e ∙ ap (λ v. v - 1) (sym (get_d_field (λ n. n.in_degree) ns i blank_node)));
  other = kept_by (λ n. n.out_degree) ns ms i old _ e w refl;
  links = record { outs = kept_by (λ n. n.first_out) ns ms i old _ e w refl; ins = kept_by (λ n. n.first_in) ns ms i old _ e w refl; placed = kept_by (λ n. n.place) ns ms i old _ e w refl };
}

pub same_names : (a b c : FasNodeContainer) → SameNames a b → SameNames b c → SameNames a c
same_names a b c p q = record { met = p.met ∙ q.met; names = p.names ∙ q.names; slots = p.slots ∙ q.slots }

pub names_same : (a : FasNodeContainer) → SameNames a a
names_same a = record { met = refl; names = refl; slots = refl }

pub unlisted_long : (a b : FasNodeContainer) → unlisted_of a ≡ unlisted_of b → length (columns a).positions ≡ length (columns b).positions
unlisted_long a b e =
    length-map (nodes_of a) (λ n. n.position) ∙ sym (length-map (nodes_of a) unlisted) ∙ ap (λ r. length r.3) e ∙ length-map (nodes_of b) unlisted ∙ sym (length-map (nodes_of b) (λ n. n.position))

pub listed_read : (ns : List FasNode) (i : ℕ) (n : FasNode) (b : Bool) → n ≡ get_or ns i blank_node → b ≡ is_in n.position → is_in (at (columns_of ns).positions i) ≡ b
listed_read ns i n b e l = ap is_in (get_d_field (λ k. k.position) ns i blank_node ∙ ap (λ k. k.position) (sym e)) ∙ sym l

pub same_sizes : (a b c : Buckets) → SameSizes a b → SameSizes b c → SameSizes a c
same_sizes a b c p q = record { arcs = p.arcs ∙ q.arcs; size = p.size ∙ q.size; top = p.top ∙ q.top; lender = p.lender ∙ q.lender }

pub sizes_same : (a : Buckets) → SameSizes a a
sizes_same a = record { arcs = refl; size = refl; top = refl; lender = refl }

pub names_back : (a b : FasNodeContainer) → SameNames a b → SameNames b a
names_back a b p = record { met = sym p.met; names = sym p.names; slots = sym p.slots }

pub led_columns : (d : CompactDirection) (ns ms : List FasNode) (i p : ℕ) (old : FasNode) → old ≡ get_or ns i blank_node → ms ≡ set ns i (led_node d p old) → Led d (columns_of ns) (columns_of ms) i p
led_columns Outgoing ns ms i p old e w = record {
  positions = kept_by (λ n. n.position) ns ms i old _ e w refl;
  begins = written_by (λ n. n.first_out) ns ms i _ (Some p) w refl;
  rises = written_by (λ n. n.out_degree) ns ms i _ _ w (ap (λ n. n.out_degree + 1) e ∙ ap (λ v. v + 1) (sym (get_d_field (λ n. n.out_degree) ns i blank_node)));
  other_begins = kept_by (λ n. n.first_in) ns ms i old _ e w refl;
  other_rises = kept_by (λ n. n.in_degree) ns ms i old _ e w refl;
  places = kept_by (λ n. n.place) ns ms i old _ e w refl;
}
led_columns Incoming ns ms i p old e w = record {
  positions = kept_by (λ n. n.position) ns ms i old _ e w refl;
  begins = written_by (λ n. n.first_in) ns ms i _ (Some p) w refl;
  rises = written_by (λ n. n.in_degree) ns ms i _ _ w (ap (λ n. n.in_degree + 1) e ∙ ap (λ v. v + 1) (sym (get_d_field (λ n. n.in_degree) ns i blank_node)));
  other_begins = kept_by (λ n. n.first_out) ns ms i old _ e w refl;
  other_rises = kept_by (λ n. n.out_degree) ns ms i old _ e w refl;
  places = kept_by (λ n. n.place) ns ms i old _ e w refl;
}

pub degree_read : (d : CompactDirection) (ns : List FasNode) (i : ℕ) (n : FasNode) → n ≡ get_or ns i blank_node → degree_of d n ≡ get_or (degrees d (columns_of ns)) i 0
degree_read Outgoing ns i n e = ap (λ k. k.out_degree) e ∙ sym (get_d_field (λ k. k.out_degree) ns i blank_node)
degree_read Incoming ns i n e = ap (λ k. k.in_degree) e ∙ sym (get_d_field (λ k. k.in_degree) ns i blank_node)

pub first_read : (d : CompactDirection) (ns : List FasNode) (i : ℕ) (n : FasNode) → n ≡ get_or ns i blank_node → first_of d n ≡ get_or (firsts d (columns_of ns)) i None
first_read Outgoing ns i n e = ap (λ k. k.first_out) e ∙ sym (get_d_field (λ k. k.first_out) ns i blank_node)
first_read Incoming ns i n e = ap (λ k. k.first_in) e ∙ sym (get_d_field (λ k. k.first_in) ns i blank_node)

pub columns_sized : (ns : List FasNode) → Sized (columns_of ns) (length ns)
columns_sized ns = record {
  positions = length-map ns (λ n. n.position);
  out_degrees = length-map ns (λ n. n.out_degree);
  in_degrees = length-map ns (λ n. n.in_degree);
  first_outs = length-map ns (λ n. n.first_out);
  first_ins = length-map ns (λ n. n.first_in);
  places = length-map ns (λ n. n.place);
}

-- as many entries where as many nodes were met
pub names_long : (a b : FasNodeContainer) → SameNames a b → length (nodes_of a) ≡ length (nodes_of b)
names_long a b s =
    length-map (listing a.table) (λ x. x.value) ∙ sym (length-map (listing a.table) (λ x. x.number)) ∙ ap length s.met ∙ length-map (listing b.table) (λ x. x.number) ∙ sym (length-map (listing b.table) (λ x. x.value))

-- ---- blank neighbour places
pub set_others : (ps : List NeighbourPlace) (p : ℕ) (v : NeighbourPlace) → SameButAt ps (set ps p v) p
set_others ps p v k ne = get_or-set_other ps p k v blank_neighbour ne

pub still_blank : (ps qs : List NeighbourPlace) (p n : ℕ) → SameButAt ps qs p → p < n → BlankFrom ps n → BlankFrom qs n
still_blank ps qs p n s b h k l = s k (λ e. omega arith) ∙ h k l

pub all_blank : {X : Type 0} (ps : List X) (n : ℕ) (b : X) → length ps ≡ n → ((k : ℕ) → get_or ps k b ≡ b) → ps ≡ replicate n b
all_blank ps n b l h = ext_get_or b ps (replicate n b) (l ∙ sym (length-replicate n b)) (λ i r. h i ∙ sym (get_or-replicate n i b b (omega arith)))
