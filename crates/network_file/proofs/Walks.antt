-- The numbers and the arcs of a part of a file, one after another.
use Rattle.std.proofs.Common.{◌≡◌, ℕ, zero, suc, ◌+◌, ◌-◌, ◌*◌, ◌/◌, ◌%◌, ◌<◌, ◌≤◌, ◌||◌, eqb, List, [], ◌∷◌, length, get_or, take, drop, sym, refl, ap, ◌∙◌, arith, length-drop}
use Rattle.std.specs.Int.{from_le_bytes, w32}
use Rattle.std.specs.List.{flat_map, list_any, slice_range}
use Rattle.std.specs.Simd.{first_chunks}
use Rattle.std.proofs.lemmas.List.{get_or-drop, get_or-take, length-take-le, take_all}
use Rattle.network_file.specs.Checks.{has}
use Rattle.network_file.specs.Fields.{byte_at, field_at, fields_from}
use Rattle.network_file.specs.Laws.{Bytes}
use Rattle.network_file.specs.Layout.{arc_fields}
use Rattle.network_file.specs.Reading.{Whole, node_count, arc_count, arcs_begin, nodes_of, arcs_of, arcs_from, numbers_in, arcs_in}
use Rattle.network_file.specs.declared.arc.FileArc.{FileArc}
use Rattle.network_file.proofs.Layouts.{arc_fields_read}

byte_drop : (b : List ℕ) (k i : ℕ) → byte_at (drop k b) i ≡ byte_at b (k + i)
unfolding byte_at
byte_drop b k i = ap (λ x. x % 256) (get_or-drop k b i 0)

field_drop : (b : List ℕ) (k at : ℕ) → field_at (drop k b) at ≡ field_at b (k + at)
unfolding field_at
field_drop b k at =
    let e : k + (at + 1) ≡ k + at + 1 = omega arith in
    let f : k + (at + 2) ≡ k + at + 2 = omega arith in
    let g : k + (at + 3) ≡ k + at + 3 = omega arith in
    rw (byte_drop b k at, byte_drop b k (at + 1), byte_drop b k (at + 2), byte_drop b k (at + 3), e, f, g)

pub fields_drop : (b : List ℕ) (k at count : ℕ) → fields_from (drop k b) at count ≡ fields_from b (k + at) count
fields_drop b k at zero = refl
fields_drop b k at (suc count) =
    let e : k + (at + 4) ≡ k + at + 4 = omega arith in
    let first = field_drop b k at in
    let others = fields_drop b k (at + 4) count in
    rw (first, others, e)

byte_take : (b : List ℕ) (n i : ℕ) → i < n → byte_at (take n b) i ≡ byte_at b i
unfolding byte_at
byte_take b n i h = ap (λ x. x % 256) (get_or-take n b i 0 h)

field_take : (b : List ℕ) (n at : ℕ) → at + 4 ≤ n → field_at (take n b) at ≡ field_at b at
unfolding field_at
field_take b n at h = rw (byte_take b n at (omega arith), byte_take b n (at + 1) (omega arith), byte_take b n (at + 2) (omega arith), byte_take b n (at + 3) (omega arith))

pub fields_take : (b : List ℕ) (n at count : ℕ) → at + 4 * count ≤ n → fields_from (take n b) at count ≡ fields_from b at count
fields_take b n at zero h = refl
fields_take b n at (suc count) h =
    let first = field_take b n at (omega arith) in
    let others = fields_take b n (at + 4) count (omega arith) in
    rw (first, others)

-- the field that some of the bytes begin with
pub field_part : (b : List ℕ) (at : ℕ) → at ≤ length b → 4 ≤ length (slice_range b at (length b)) → (at + 4 ≤ length b) × (field_at (slice_range b at (length b)) 0 ≡ field_at b at)
field_part b at start long =
    let all = take_all (length b - at) (drop at b) (omega (arith, length-drop at b)) in
    let e : at + 0 ≡ at = omega arith in
    (omega (arith, ap length all, length-drop at b), rw all (field_drop b at 0 ∙ ap (field_at b) e))

-- the first of some numbers, and the others
pub numbers_next : (b : List ℕ) → 4 ≤ length b → numbers_in b ≡ field_at b 0 ∷ numbers_in (drop 4 b)
unfolding numbers_in
numbers_next b room =
    let n : length b / 4 ≡ suc (length (drop 4 b) / 4) = omega (arith, length-drop 4 b) in
    rw n (ap (λ l. field_at b 0 ∷ l) (sym (fields_drop b 4 0 (length (drop 4 b) / 4))))

pub numbers_over : (b : List ℕ) → length b < 4 → numbers_in b ≡ []
unfolding numbers_in
numbers_over b few = let n : length b / 4 ≡ 0 = omega arith in rw n

-- the number of the first four bytes
pub first_field : (b field : List ℕ) (n : ℕ) → Bytes b → field ≡ take 4 b → n ≡ from_le_bytes w32 field → n ≡ field_at b 0
unfolding byte_at field_at
first_field b field n small is read =
    let p : get_or field 0 0 ≡ get_or b 0 0 = rw is (get_or-take 4 b 0 0 (omega arith)) in
    let q : get_or field 1 0 ≡ get_or b 1 0 = rw is (get_or-take 4 b 1 0 (omega arith)) in
    let r : get_or field 2 0 ≡ get_or b 2 0 = rw is (get_or-take 4 b 2 0 (omega arith)) in
    let s : get_or field 3 0 ≡ get_or b 3 0 = rw is (get_or-take 4 b 3 0 (omega arith)) in
    omega (arith, small 0, small 1, small 2, small 3)

fields_front : (b : List ℕ) (at all count : ℕ) → count ≤ all → fields_from b at count ≡ take count (fields_from b at all)
fields_front b at all zero h = refl
fields_front b at zero (suc count) h = absurd (omega arith)
fields_front b at (suc all) (suc count) h = ap (λ l. field_at b at ∷ l) (fields_front b (at + 4) all count (omega arith))

-- the numbers of the first node records are the first nodes
pub numbers_nodes : (b : List ℕ) (n count : ℕ) → n ≡ 4 * count → count ≤ node_count b → 16 + n ≤ length b → numbers_in (take n (drop 16 b)) ≡ take count (nodes_of b)
unfolding numbers_in nodes_of
numbers_nodes b n count is few room =
    let long = length-take-le n (drop 16 b) (omega (arith, length-drop 16 b)) in
    let whole : length (take n (drop 16 b)) / 4 ≡ count = omega arith in
    rw whole (fields_take (drop 16 b) n 0 count (omega arith) ∙ (fields_drop b 16 0 count ∙ fields_front b 16 (node_count b) count few))

arcs_of_numbers : (arcs : List FileArc) → arcs_in (flat_map arc_fields arcs) ≡ arcs
arcs_of_numbers [] = refl
arcs_of_numbers (arc ∷ arcs) = ap (λ l. arc ∷ l) (arcs_of_numbers arcs)

-- the numbers of the arc records are the arcs
pub numbers_arcs : (b : List ℕ) (n k : ℕ) → n ≡ arcs_begin b → k ≡ length b - n → Whole b → arcs_in (numbers_in (take k (drop n b))) ≡ arcs_of b
unfolding numbers_in arcs_of
numbers_arcs b n k is all whole =
    let rest = take_all k (drop n b) (omega (arith, length-drop n b)) in
    let count : length (drop n b) / 4 ≡ 3 * arc_count b = omega (arith, length-drop n b, whole.all) in
    let from : n + 0 ≡ arcs_begin b = omega arith in
    rw (rest, count) (ap arcs_in (fields_drop b n 0 (3 * arc_count b) ∙ rw from (arc_fields_read b (arcs_begin b) (arc_count b))) ∙ arcs_of_numbers (arcs_from b (arcs_begin b) (arc_count b)))

-- a number is read from a chunk of four bytes where it is among the fields
chunks_have : (b : List ℕ) (count x : ℕ) → Bytes b → list_any (λ y. eqb (from_le_bytes w32 y) x) (first_chunks 4 count b) ≡ has (fields_from b 0 count) x
chunks_have b zero x small = refl
chunks_have b (suc count) x small =
    let here = first_field b (take 4 b) _ small refl refl in
    let there = chunks_have (drop 4 b) count x (λ i. rw (get_or-drop 4 b i 0) (small (4 + i))) in
    rw (here, there) (ap (λ l. eqb (field_at b 0) x || has l x) (fields_drop b 4 0 count))

-- a search of all the chunks is one of the whole fields
pub searched : (b : List ℕ) (fields : List (List ℕ)) (x : ℕ) → Bytes b → fields ≡ first_chunks 4 (length b / 4) b → list_any (λ y. eqb (from_le_bytes w32 y) x) fields ≡ has (numbers_in b) x
unfolding numbers_in
searched b fields x small are = rw are (chunks_have b (length b / 4) x small)
