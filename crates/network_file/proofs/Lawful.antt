-- The laws of the check: the files that it grants are the layouts of allowed contents.
use Rattle.std.proofs.Common.{◌≡◌, ℕ, zero, suc, ◌+◌, ◌*◌, ◌^◌, ◌<◌, List, [], ◌∷◌, ◌++◌, length, take, drop, Ok, sym, refl, ap, ◌∙◌, subst, arith, length-append}
use Rattle.std.specs.List.{flat_map, AllByRecursion}
use Rattle.std.proofs.ByRecursion.{All-append}
use Rattle.std.proofs.lemmas.List.{append-nil, take_at, drop_at, drop_all}
use Rattle.std.proofs.lemmas.Bool.{lt-ltb, le-leb, eq-eqb}
use Rattle.network_file.specs.Checks.{size_checked, table_checked, checked}
use Rattle.network_file.specs.Fields.{field_bytes, field_at, fields_from}
use Rattle.network_file.specs.Laws.{Allowed, Bytes, Laws}
use Rattle.network_file.specs.Layout.{Contents, arc_fields, fields_of, laid_out}
use Rattle.network_file.specs.Reading.{node_count, arc_count, arcs_begin, arcs_from, nodes_of, arcs_of, contents_of}
use Rattle.network_file.specs.declared.arc.FileArc.{FileArc}
use Rattle.network_file.proofs.Granted.{Table, granted, size_facts, table_facts, length_fields, length_arcs, length_nodes_of, length_arcs_of}
use Rattle.network_file.proofs.Layouts.{field_small, laid_out_again, fields_append, arc_fields_read, fields_laid, length_laid, length_arc_fields}
use Rattle.network_file.proofs.Refusals.{first_repeated, first_unlisted}
use Rattle.network_file.proofs.Members.{differ_granted, granted_differ, listed_granted, granted_listed}

-- the fields that the contents of a granted file have are the fields of its bytes
fields_read : (b : List ℕ) → Table b → fields_of (contents_of b) ≡ fields_from b 0 (4 + (node_count b + 3 * arc_count b))
unfolding nodes_of arcs_of
fields_read b table =
    let n = sym (length_fields b 16 (node_count b)) in
    let m = sym (length_arcs b (arcs_begin b) (arc_count b)) in
    let count : 4 + (node_count b + 3 * arc_count b) ≡ suc (suc (suc (suc (node_count b + 3 * arc_count b)))) = omega arith in
    let parts = fields_append b 16 (node_count b) (3 * arc_count b) in
    let arcs = arc_fields_read b (arcs_begin b) (arc_count b) in
    let tail : fields_from b 16 (node_count b + 3 * arc_count b) ≡ fields_from b 16 (node_count b) ++ flat_map arc_fields (arcs_from b (arcs_begin b) (arc_count b)) =
    parts ∙ ap (λ l. fields_from b 16 (node_count b) ++ l) arcs in
    rw (count, tail, ← n, ← m, table.nodes_begin, table.arcs_after)

all_fields_small : (b : List ℕ) (at count : ℕ) → AllByRecursion (λ x. x < 2 ^ 32) (fields_from b at count)
all_fields_small b at zero = tt
all_fields_small b at (suc count) = (field_small b at, all_fields_small b (at + 4) count)

all_arcs_small : (b : List ℕ) (at count : ℕ) → AllByRecursion (λ (a : FileArc). (a.source < 2 ^ 32) × (a.target < 2 ^ 32) × (a.weight < 2 ^ 32)) (arcs_from b at count)
all_arcs_small b at zero = tt
all_arcs_small b at (suc count) = ((field_small b at, field_small b (at + 4), field_small b (at + 8)), all_arcs_small b (at + 12) count)

laid_of : (b : List ℕ) → Bytes b → Table b → b ≡ laid_out (contents_of b)
unfolding laid_out
laid_of b small table =
    let count = 4 + (node_count b + 3 * arc_count b) in
    let again = laid_out_again b 0 count small (omega (arith, table.all)) in
    let none = drop_all (0 + 4 * count) b (omega (arith, table.all)) in
    let whole : flat_map field_bytes (fields_from b 0 count) ≡ b = sym (append-nil _) ∙ (rw none at again) in
    sym (ap (flat_map field_bytes) (fields_read b table) ∙ whole)

-- what reads is what its contents lay out, and they are allowed
lays_out_again : (b : List ℕ) → Bytes b → (contents : Contents) → checked b ≡ Ok contents → (b ≡ laid_out contents) × Allowed contents
unfolding nodes_of arcs_of
lays_out_again b small contents e =
    let g = granted b contents e in
    let table = table_facts b g.table in
    let size = size_facts b g.size in
    let laid = laid_of b small table in
    let allowed : Allowed (contents_of b) =
    record {
      node_numbers = all_fields_small b 16 (node_count b);
      arc_numbers = all_arcs_small b (arcs_begin b) (arc_count b);
      nodes_differ = granted_differ [] 16 (nodes_of b) (λ i j before within same. absurd (omega arith)) g.nodes;
      ends_listed = granted_listed (nodes_of b) (arcs_begin b) (arcs_of b) g.ends;
      node_limit = omega (arith, table.node_limit, length_nodes_of b);
      arc_limit = omega (arith, table.arc_limit, length_arcs_of b);
      size_limit = subst (λ l. length l < 65536) laid size.0;
    } in
    subst (λ c. (b ≡ laid_out c) × Allowed c) g.are (laid, allowed)

-- arcs with the same fields are the same
same_arcs : (xs ys : List FileArc) → flat_map arc_fields xs ≡ flat_map arc_fields ys → xs ≡ ys
same_arcs [] [] e = refl
same_arcs [] (y ∷ ys) e = let z : ◌≡◌ {A = ℕ} 0 1 = cc in absurd (omega arith)
same_arcs (x ∷ xs) [] e = let z : ◌≡◌ {A = ℕ} 0 1 = cc in absurd (omega arith)
same_arcs (x ∷ xs) (y ∷ ys) e =
    let source : x.source ≡ y.source = cc in
    let target : x.target ≡ y.target = cc in
    let weight : x.weight ≡ y.weight = cc in
    let rest : flat_map arc_fields xs ≡ flat_map arc_fields ys = cc in
    let same : x ≡ y = λ i. record { source = source i; target = target i; weight = weight i } in
    let later = same_arcs xs ys rest in
    cc

arc_fields_small : (arcs : List FileArc) → AllByRecursion (λ (a : FileArc). (a.source < 2 ^ 32) × (a.target < 2 ^ 32) × (a.weight < 2 ^ 32)) arcs → AllByRecursion (λ x. x < 2 ^ 32) (flat_map arc_fields arcs)
arc_fields_small [] small = tt
arc_fields_small (arc ∷ arcs) small = (small.0.0, (small.0.1, (small.0.2, arc_fields_small arcs small.1)))

module _ (contents : Contents) (allowed : Allowed contents) where
  n : ℕ
  n = length contents.nodes

  m : ℕ
  m = length contents.arcs

  bytes : List ℕ
  bytes = laid_out contents

  all_small : AllByRecursion (λ x. x < 2 ^ 32) (fields_of contents)
  all_small = (
    omega arith,
    (
      omega (arith, allowed.node_limit),
      (
        omega (arith, allowed.node_limit),
        (
          omega (arith, allowed.arc_limit),
          All-append (λ x. x < 2 ^ 32) contents.nodes (flat_map arc_fields contents.arcs) allowed.node_numbers (arc_fields_small contents.arcs allowed.arc_numbers),
        ),
      ),
    ),
  )

  length_records : length (contents.nodes ++ flat_map arc_fields contents.arcs) ≡ n + 3 * m
  unfolding n m
  length_records = omega (arith, length-append contents.nodes (flat_map arc_fields contents.arcs), length_arc_fields contents.arcs)

  length_bytes : length bytes ≡ 16 + 4 * n + 12 * m
  unfolding bytes laid_out
  length_bytes = omega (arith, length_laid (fields_of contents), length_records)

  all_read : field_at bytes 0 ∷ field_at bytes 4 ∷ field_at bytes 8 ∷ field_at bytes 12 ∷ fields_from bytes 16 (n + 3 * m) ≡ fields_of contents
  unfolding bytes laid_out
  all_read = let again = fields_laid [] (fields_of contents) all_small in rw length_records at again

  nodes_begin : field_at bytes 0 ≡ 16
  nodes_begin = cc all_read

  nodes_counted : field_at bytes 4 ≡ n
  unfolding n
  nodes_counted = cc all_read

  arcs_after : field_at bytes 8 ≡ 16 + 4 * n
  unfolding n
  arcs_after = cc all_read

  arcs_counted : field_at bytes 12 ≡ m
  unfolding m
  arcs_counted = cc all_read

  records : fields_from bytes 16 n ++ fields_from bytes (16 + 4 * n) (3 * m) ≡ contents.nodes ++ flat_map arc_fields contents.arcs
  records = let tail : fields_from bytes 16 (n + 3 * m) ≡ contents.nodes ++ flat_map arc_fields contents.arcs = cc all_read in sym (fields_append bytes 16 n (3 * m)) ∙ tail

  nodes_read : nodes_of bytes ≡ contents.nodes
  unfolding nodes_of n
  nodes_read =
      let first = take_at (fields_from bytes 16 n) (fields_from bytes (16 + 4 * n) (3 * m)) n (length_fields bytes 16 n) in
      let second = take_at contents.nodes (flat_map arc_fields contents.arcs) n refl in
      rw nodes_counted (sym first ∙ (ap (take n) records ∙ second))

  arcs_read : arcs_of bytes ≡ contents.arcs
  unfolding arcs_of n
  arcs_read =
      let first = drop_at (fields_from bytes 16 n) (fields_from bytes (16 + 4 * n) (3 * m)) n (length_fields bytes 16 n) in
      let second = drop_at contents.nodes (flat_map arc_fields contents.arcs) n refl in
      let fields : fields_from bytes (16 + 4 * n) (3 * m) ≡ flat_map arc_fields contents.arcs = sym first ∙ (ap (drop n) records ∙ second) in
      rw (nodes_counted, arcs_counted) (same_arcs _ _ (sym (arc_fields_read bytes (16 + 4 * n) m) ∙ fields))

  size_granted : size_checked bytes ≡ Ok tt
  unfolding size_checked bytes
  size_granted =
      let less = lt-ltb (length bytes) 65536 allowed.size_limit in
      let some = le-leb 16 (length bytes) (omega (arith, length_bytes)) in
      rw (less, some)

  table_granted : table_checked bytes ≡ Ok tt
  unfolding table_checked n m
  table_granted =
      let nodes = le-leb n 4096 allowed.node_limit in
      let arcs = le-leb m 32768 allowed.arc_limit in
      let second = eq-eqb (16 + 4 * n) (16 + 4 * n) refl in
      let all = eq-eqb (length bytes) (16 + 4 * n + 12 * m) length_bytes in
      rw (nodes_begin, nodes_counted, arcs_after, arcs_counted) (rw (nodes, second, arcs, all))

  reads : checked bytes ≡ Ok contents
  unfolding checked
  reads =
      let differ = differ_granted [] 16 contents.nodes allowed.nodes_differ in
      let listed = listed_granted contents.nodes (arcs_begin bytes) contents.arcs allowed.ends_listed in
      rw (size_granted, table_granted, nodes_read, arcs_read) (rw (differ, listed))

pub laws : (b : List ℕ) → Bytes b → Laws b
unfolding bytes
laws b small =
    record {
      reads_back = λ contents allowed e. rw e (reads contents allowed);
      lays_out_again = lays_out_again b small;
      alone = λ other contents small' e e'. (lays_out_again other small' contents e').0 ∙ sym (lays_out_again b small contents e).0;
      repeated = first_repeated b;
      unlisted = first_unlisted b;
    }
