-- What holds of bytes that passed the checks.
use Rattle.std.proofs.Common.{◌≡◌, ℕ, zero, suc, ◌+◌, ◌*◌, ◌<◌, ◌≤◌, Bool, true, false, List, [], length, Some, Ok, Err, Result, sym, refl, ap, arith}
use Rattle.std.specs.List.{slice_get}
use Rattle.std.proofs.lemmas.Bool.{ltb-true, leb-true, eqb-true}
use Rattle.fault.specs.declared.Fault.{Fault}
use Rattle.network_file.specs.Checks.{expected, then, size_checked, table_checked, nodes_differ, ends_listed, checked}
use Rattle.network_file.specs.Fields.{field_at, fields_from}
use Rattle.network_file.specs.Layout.{Contents}
use Rattle.network_file.specs.Reading.{Whole, node_count, arc_count, arcs_begin, nodes_of, arcs_of, contents_of, arc_from, arcs_from}

-- both checks of two were granted
pub then_granted : {X : Type 0} (check : Result (Unit {0}) Fault) (next : Result X Fault) (x : X) → then check next ≡ Ok x → (check ≡ Ok tt) × (next ≡ Ok x)
then_granted (Ok granted) next x e = (refl, e)
then_granted (Err fault) next x e = let z : ◌≡◌ {A = ℕ} 0 1 = cc in absurd (omega arith)

pub holds : (test : Bool) (fault : Fault) → expected test fault ≡ Ok tt → test ≡ true
holds true fault e = refl
holds false fault e = let z : ◌≡◌ {A = ℕ} 0 1 = cc in absurd (omega arith)

pub size_facts : (bytes : List ℕ) → size_checked bytes ≡ Ok tt → (length bytes < 65536) × (16 ≤ length bytes)
unfolding size_checked
size_facts bytes e =
    let parts = then_granted _ _ tt e in
    (ltb-true (length bytes) 65536 (holds _ _ parts.0), leb-true 16 (length bytes) (holds _ _ parts.1))

pub record Table (bytes : List ℕ) : Type 0 where
  pub nodes_begin : field_at bytes 0 ≡ 16
  pub node_limit : node_count bytes ≤ 4096
  pub arcs_after : field_at bytes 8 ≡ 16 + 4 * node_count bytes
  pub arc_limit : arc_count bytes ≤ 32768
  pub all : length bytes ≡ 16 + 4 * node_count bytes + 12 * arc_count bytes

pub table_facts : (bytes : List ℕ) → table_checked bytes ≡ Ok tt → Table bytes
unfolding table_checked
table_facts bytes e =
    let a = then_granted _ _ tt e in
    let b = then_granted _ _ tt a.1 in
    let c = then_granted _ _ tt b.1 in
    let d = then_granted _ _ tt c.1 in
    record {
      nodes_begin = eqb-true (field_at bytes 0) 16 (holds _ _ a.0);
      node_limit = leb-true (node_count bytes) 4096 (holds _ _ b.0);
      arcs_after = eqb-true (field_at bytes 8) (16 + 4 * node_count bytes) (holds _ _ c.0);
      arc_limit = leb-true (arc_count bytes) 32768 (holds _ _ d.0);
      all = eqb-true (length bytes) (16 + 4 * node_count bytes + 12 * arc_count bytes) (holds _ _ d.1);
    }

pub record Granted (bytes : List ℕ) (contents : Contents) : Type 0 where
  pub size : size_checked bytes ≡ Ok tt
  pub table : table_checked bytes ≡ Ok tt
  pub nodes : nodes_differ [] 16 (nodes_of bytes) ≡ Ok tt
  pub ends : ends_listed (nodes_of bytes) (arcs_begin bytes) (arcs_of bytes) ≡ Ok tt
  pub are : contents_of bytes ≡ contents

pub granted : (bytes : List ℕ) (contents : Contents) → checked bytes ≡ Ok contents → Granted bytes contents
unfolding checked
granted bytes contents e =
    let a = then_granted _ _ contents e in
    let b = then_granted _ _ contents a.1 in
    let c = then_granted _ _ contents b.1 in
    let d = then_granted _ _ contents c.1 in
    let same : contents_of bytes ≡ contents = cc d.1 in
    record { size = a.0; table = b.0; nodes = c.0; ends = d.0; are = same }

pub whole : (bytes : List ℕ) → size_checked bytes ≡ Ok tt → table_checked bytes ≡ Ok tt → Whole bytes
whole bytes size table = record { all = (table_facts bytes table).all; small = (size_facts bytes size).0 }

pub length_fields : (bytes : List ℕ) (at count : ℕ) → length (fields_from bytes at count) ≡ count
length_fields bytes at zero = refl
length_fields bytes at (suc count) = ap suc (length_fields bytes (at + 4) count)

pub length_arcs : (bytes : List ℕ) (at count : ℕ) → length (arcs_from bytes at count) ≡ count
length_arcs bytes at zero = refl
length_arcs bytes at (suc count) = ap suc (length_arcs bytes (at + 12) count)

pub length_nodes_of : (bytes : List ℕ) → node_count bytes ≡ length (nodes_of bytes)
unfolding nodes_of
length_nodes_of bytes = sym (length_fields bytes 16 (node_count bytes))

pub length_arcs_of : (bytes : List ℕ) → arc_count bytes ≡ length (arcs_of bytes)
unfolding arcs_of
length_arcs_of bytes = sym (length_arcs bytes (arcs_begin bytes) (arc_count bytes))

-- the records fill a file after its contents table
pub sized : (bytes : List ℕ) → Whole bytes → length bytes ≡ 16 + 4 * length (nodes_of bytes) + 12 * length (arcs_of bytes)
sized bytes whole = omega (arith, whole.all, length_nodes_of bytes, length_arcs_of bytes)

-- the record at a position
nth_field : (bytes : List ℕ) (at count k : ℕ) → k < count → slice_get (fields_from bytes at count) k ≡ Some (field_at bytes (at + 4 * k))
nth_field bytes at zero k h = absurd (omega arith)
nth_field bytes at (suc count) zero h = let e : at + 4 * 0 ≡ at = omega arith in rw e
nth_field bytes at (suc count) (suc k) h =
    let e : at + 4 * suc k ≡ at + 4 + 4 * k = omega arith in
    rw e (nth_field bytes (at + 4) count k (omega arith))

nth_arc : (bytes : List ℕ) (at count k : ℕ) → k < count → slice_get (arcs_from bytes at count) k ≡ Some (arc_from bytes (at + 12 * k))
nth_arc bytes at zero k h = absurd (omega arith)
nth_arc bytes at (suc count) zero h = let e : at + 12 * 0 ≡ at = omega arith in rw e
nth_arc bytes at (suc count) (suc k) h =
    let e : at + 12 * suc k ≡ at + 12 + 12 * k = omega arith in
    rw e (nth_arc bytes (at + 12) count k (omega arith))

pub node_at : (bytes : List ℕ) (k : ℕ) → k < node_count bytes → slice_get (nodes_of bytes) k ≡ Some (field_at bytes (16 + 4 * k))
unfolding nodes_of
node_at bytes k h = nth_field bytes 16 (node_count bytes) k h

pub arc_at : (bytes : List ℕ) (k : ℕ) → k < arc_count bytes → slice_get (arcs_of bytes) k ≡ Some (arc_from bytes (arcs_begin bytes + 12 * k))
unfolding arcs_of
arc_at bytes k h = nth_arc bytes (arcs_begin bytes) (arc_count bytes) k h
