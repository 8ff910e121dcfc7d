-- Which verdict a network gets, and what the ordering is left with.
use Rattle.std.proofs.Common.{◌≡◌, ℕ, ◌+◌, ◌*◌, ◌<◌, ◌≤◌, true, false, cond, ◌||◌, ltb, List, [], length, drop, replicate, Some, None, Ok, Option, MatchOption, sym, refl, ap, ◌∙◌, subst, arith}
use Rattle.std.specs.Option.{unwrap_or, ok_or}
use Rattle.std.proofs.lemmas.Bool.{cond-true, cond-false, lt-ltb, le-ltb, or_parts, ltb-false}
use Rattle.keys.specs.declared.node_index.NodeIndex.{NodeIndex}
use Rattle.fault.specs.declared.Fault.TheVariants.{WorkTablesShort}
use Rattle.keyed_table.specs.Tables.{listing}
use Rattle.keyed_table.specs.declared.slots.Item.{Item}
use Rattle.network.specs.Network.{Link, touched}
use Rattle.feedback_arc_set.specs.declared.fas_node.FasNode.{FasNode}
use Rattle.feedback_arc_set.specs.declared.tables.WorkTables.{WorkTables}
use Rattle.feedback_arc_set.specs.declared.ordering.Ordering.{Ordering}
use Rattle.feedback_arc_set.specs.Nodes.{blank_neighbour, blank_class}
use Rattle.feedback_arc_set.specs.Orders.{entry_places, neighbour_places, class_places, order_places, order_in, node_places, Clean, Granted, Emptied, Placed}
use Rattle.feedback_arc_set.specs.Verdicts.{too_large, unfit, crowded, fit, verdict, answer, Leaves, Blank, HoldsNone, HoldsOrder}

module _ (network : List Link) (t : WorkTables) where
  pub is_too_large : 16384 < length network → verdict network t ≡ too_large
  is_too_large l = cond-true (ltb 16384 (length network)) too_large _ (lt-ltb 16384 (length network) l)

  small : length network ≤ 16384 → verdict network t ≡ cond (ltb (length (neighbour_places t)) (2 * length network) || ltb (length (class_places t)) (2 * length network + 1)) unfit (cond (ltb (node_places t) (length (touched network))) crowded fit)
  small l = cond-false (ltb 16384 (length network)) too_large _ (le-ltb 16384 (length network) l)

  pub is_unfit : length network ≤ 16384 → (ltb (length (neighbour_places t)) (2 * length network) || ltb (length (class_places t)) (2 * length network + 1)) ≡ true → verdict network t ≡ unfit
  is_unfit l s = small l ∙ cond-true (ltb (length (neighbour_places t)) (2 * length network) || ltb (length (class_places t)) (2 * length network + 1)) unfit _ s

  enough : length network ≤ 16384 → (ltb (length (neighbour_places t)) (2 * length network) || ltb (length (class_places t)) (2 * length network + 1)) ≡ false → verdict network t ≡ cond (ltb (node_places t) (length (touched network))) crowded fit
  enough l s = small l ∙ cond-false (ltb (length (neighbour_places t)) (2 * length network) || ltb (length (class_places t)) (2 * length network + 1)) unfit _ s

  pub is_crowded : length network ≤ 16384 → (ltb (length (neighbour_places t)) (2 * length network) || ltb (length (class_places t)) (2 * length network + 1)) ≡ false → node_places t < length (touched network) → verdict network t ≡ crowded
  is_crowded l s m = enough l s ∙ cond-true (ltb (node_places t) (length (touched network))) crowded fit (lt-ltb (node_places t) (length (touched network)) m)

  pub is_fit : length network ≤ 16384 → (ltb (length (neighbour_places t)) (2 * length network) || ltb (length (class_places t)) (2 * length network + 1)) ≡ false → length (touched network) ≤ node_places t → verdict network t ≡ fit
  is_fit l s m = enough l s ∙ cond-false (ltb (node_places t) (length (touched network))) crowded fit (le-ltb (node_places t) (length (touched network)) m)

  -- the tables have the places that were asked for
  pub has_places : (ltb (length (neighbour_places t)) (2 * length network) || ltb (length (class_places t)) (2 * length network + 1)) ≡ false → (2 * length network ≤ length (neighbour_places t)) × (2 * length network < length (class_places t))
  has_places s = let p = or_parts _ _ s in let a = ltb-false (length (neighbour_places t)) (2 * length network) p.0 in let b = ltb-false (length (class_places t)) (2 * length network + 1) p.1 in (a, omega arith)

-- tables whose neighbour and class places are as they were stay clean
pub still_clean : (a b : WorkTables) → neighbour_places b ≡ neighbour_places a → class_places b ≡ class_places a → Clean a → Clean b
still_clean a b n c k = record {
  neighbours = n ∙ k.neighbours ∙ ap (λ v. replicate (length v) blank_neighbour) (sym n);
  classes = c ∙ k.classes ∙ ap (λ v. replicate (length v) blank_class) (sym c);
}

pub clean_blank : (a b : WorkTables) → neighbour_places b ≡ neighbour_places a → class_places b ≡ class_places a → Clean a → Blank a b
clean_blank a b n c k = record { neighbours = n ∙ k.neighbours; classes = c ∙ k.classes }

pub none_placed : (l : List (Item NodeIndex FasNode)) → l ≡ [] → Placed l []
none_placed l e = subst (λ v. Placed v []) (sym e) (record { once = tt; listed = λ x. refl; each = λ i b. absurd (omega arith) })

pub holds_none : (a b : Ordering) → b.touched ≡ 0 → Emptied a.tables b.tables → Blank a.tables b.tables → HoldsNone a b
holds_none a b z e k = record { nodes = ap (order_in (order_places b.tables)) z; entries = e.blank; blank = k; order = e.order }

pub holds_order : (network : List Link) (a b : Ordering) → Granted network a.tables b.tables b.touched → length (entry_places b.tables) ≡ length (entry_places a.tables) → Blank a.tables b.tables → HoldsOrder network a b
holds_order network a b g s k = record {
  nodes = g.order;
  rest = ap (λ v. drop v (order_places b.tables)) (sym g.count) ∙ g.rest ∙ ap (λ v. drop v (order_places a.tables)) g.count;
  long = g.long;
  entries = s;
  blank = k;
}

pub leaves_order : (network : List Link) (a b : Ordering) → verdict network a.tables ≡ fit → HoldsOrder network a b → Leaves (verdict network a.tables) network a b
leaves_order network a b v h = subst (λ w. Leaves w network a b) (sym v) h

pub leaves_none : (network : List Link) (a b : Ordering) → verdict network a.tables ≡ crowded → HoldsNone a b → Leaves (verdict network a.tables) network a b
leaves_none network a b v h = subst (λ w. Leaves w network a b) (sym v) h

-- what ordering a network that fits comes to: a is the ordering before, b the one after, and o the number of nodes, where they have places
abbrev pub Ordered : List Link → WorkTables → WorkTables → Option ℕ → Type 0
Ordered network a b o = MatchOption o ((node_places a < length (touched network)) × Emptied a b) (λ n. (n ≤ node_places a) × Granted network a b n)

pub judged : (network : List Link) (a b : Ordering) (o : Option ℕ) → length network ≤ 16384 → (ltb (length (neighbour_places a.tables)) (2 * length network) || ltb (length (class_places a.tables)) (2 * length network + 1)) ≡ false
    → Ordered network a.tables b.tables o → b.touched ≡ unwrap_or o 0 → length (entry_places b.tables) ≡ length (entry_places a.tables) → Blank a.tables b.tables
    → (ok_or o WorkTablesShort ≡ answer (verdict network a.tables) network) × Leaves (verdict network a.tables) network a b
judged network a b None l s q z e k =
    let v = is_crowded network a.tables l s q.0 in
    (ap (λ w. answer w network) (sym v), subst (λ w. Leaves w network a b) (sym v) (holds_none a b z q.1 k))
judged network a b (Some n) l s q z e k =
    let v = is_fit network a.tables l s (let m = q.0 in let d = q.1.count in omega arith) in (
      ap Ok q.1.count ∙ ap (λ w. answer w network) (sym v),
      subst (λ w. Leaves w network a b) (sym v) (holds_order network a b (subst (Granted network a.tables b.tables) (sym z) q.1) e k),
    )

pub still_fits : (network : List Link) (a b : WorkTables) (o : Option ℕ) → Ordered network a b o → unwrap_or o 0 ≤ length (order_places b)
still_fits network a b None q = omega arith
still_fits network a b (Some n) q = let m = q.0 in let l = q.1.long in omega arith

pub still_placed : (network : List Link) (a b : WorkTables) (o : Option ℕ) → Ordered network a b o → Placed (listing b.nodes.table) (order_in (order_places b) (unwrap_or o 0))
still_placed network a b None q = none_placed (listing b.nodes.table) q.1.none
still_placed network a b (Some n) q = q.1.placed
