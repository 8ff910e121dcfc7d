-- Fields laid out and read again.
use Rattle.std.proofs.Common.{◌≡◌, ℕ, zero, suc, ◌+◌, ◌-◌, ◌*◌, ◌/◌, ◌%◌, ◌^◌, ◌<◌, ◌≤◌, List, [], ◌∷◌, ◌++◌, length, get_or, drop, Ok, sym, refl, ap, ◌∙◌, append_assoc, arith, length-append}
use Rattle.std.proofs.lemmas.Bool.Decides.{nat_tests}
use native.Mathlib.Nat.{div-div-eq-div-mul, div-add-mod, mod-mod}
use Rattle.std.specs.List.{flat_map, AllByRecursion}
use Rattle.std.proofs.lemmas.List.{drop_more, get_or-append_right}
use Rattle.network_file.specs.Fields.{field_bytes, byte_at, field_at, field_read, fields_from}
use Rattle.network_file.specs.Laws.{Bytes}
use Rattle.network_file.specs.Layout.{arc_fields}
use Rattle.network_file.specs.Reading.{arcs_from}
use Rattle.network_file.specs.declared.arc.FileArc.{FileArc}

pub byte_small : (b : List ℕ) (i : ℕ) → byte_at b i < 256
unfolding byte_at
byte_small b i = omega arith

pub field_small : (b : List ℕ) (at : ℕ) → field_at b at < 2 ^ 32
unfolding field_at
field_small b at = omega (arith, byte_small b at, byte_small b (at + 1), byte_small b (at + 2), byte_small b (at + 3))

byte_is : (b : List ℕ) (i : ℕ) → Bytes b → byte_at b i ≡ get_or b i 0
unfolding byte_at
byte_is b i small = omega (arith, small i)

-- the bytes of a field that was read
bytes_again : (x y z w : ℕ) → x < 256 → y < 256 → z < 256 → w < 256 → field_bytes (x + y * 256 + z * 65536 + w * 16777216) ≡ x ∷ y ∷ z ∷ w ∷ []
unfolding field_bytes
bytes_again x y z w hx hy hz hw =
    let n = x + y * 256 + z * 65536 + w * 16777216 in
    let q : n / 256 ≡ y + z * 256 + w * 65536 = omega arith in
    let r : n / 65536 ≡ z + w * 256 = omega arith in
    let s : n / 16777216 ≡ w = omega arith in
    let a : n % 256 ≡ x = omega arith in
    let b : n / 256 % 256 ≡ y = rw q (omega arith) in
    let c : n / 65536 % 256 ≡ z = rw r (omega arith) in
    let d : n / 16777216 % 256 ≡ w = rw s (omega arith) in
    cc

four_digits : (n a A b B c C : ℕ) → 256 * A + a ≡ n → 256 * B + b ≡ A → 256 * C + c ≡ B → a + b * 256 + c * 65536 + C * 16777216 ≡ n
four_digits n a A b B c C p q r = omega arith

-- the field of bytes that were laid out
field_again : (n : ℕ) → n < 2 ^ 32 → n % 256 + n / 256 % 256 * 256 + n / 65536 % 256 * 65536 + n / 16777216 % 256 * 16777216 ≡ n
field_again n h =
    let q : n / 65536 ≡ n / 256 / 256 = sym (div-div-eq-div-mul n 256 256) in
    let r : n / 16777216 ≡ n / 256 / 256 / 256 = sym (div-div-eq-div-mul n 65536 256) ∙ ap (λ m. m / 256) q in
    let s : n / 256 / 256 / 256 % 256 ≡ n / 256 / 256 / 256 = let small : n / 16777216 < 256 = omega arith in omega (arith, rw r at small) in
    rw (q, r, s) (four_digits n (n % 256) (n / 256) (n / 256 % 256) (n / 256 / 256) (n / 256 / 256 % 256) (n / 256 / 256 / 256) (div-add-mod n 256) (div-add-mod (n / 256) 256) (div-add-mod (n / 256 / 256) 256))

drop_four : (b : List ℕ) (at : ℕ) → at + 4 ≤ length b → drop at b ≡ get_or b at 0 ∷ get_or b (at + 1) 0 ∷ get_or b (at + 2) 0 ∷ get_or b (at + 3) 0 ∷ drop (at + 4) b
drop_four b at room =
    let p = drop_more b at 0 (omega arith) in
    let q = drop_more b (at + 1) 0 (omega arith) in
    let r = drop_more b (at + 2) 0 (omega arith) in
    let s = drop_more b (at + 3) 0 (omega arith) in
    let e : at + 1 + 1 ≡ at + 2 = omega arith in
    let f : at + 2 + 1 ≡ at + 3 = omega arith in
    let g : at + 3 + 1 ≡ at + 4 = omega arith in
    p ∙ ap (λ l. get_or b at 0 ∷ l) (q ∙ ap (λ l. get_or b (at + 1) 0 ∷ l) (rw e (r ∙ ap (λ l. get_or b (at + 2) 0 ∷ l) (rw f (s ∙ rw g)))))

-- fields that were read lay out the bytes that they were read from
pub laid_out_again : (b : List ℕ) (at count : ℕ) → Bytes b → at + 4 * count ≤ length b → flat_map field_bytes (fields_from b at count) ++ drop (at + 4 * count) b ≡ drop at b
unfolding field_at
laid_out_again b at zero small room = let e : at + 4 * 0 ≡ at = omega arith in rw e
laid_out_again b at (suc count) small room =
    let four = bytes_again (byte_at b at) (byte_at b (at + 1)) (byte_at b (at + 2)) (byte_at b (at + 3)) (byte_small b at) (byte_small b (at + 1)) (byte_small b (at + 2)) (byte_small b (at + 3)) in
    let rest = laid_out_again b (at + 4) count small (omega arith) in
    let e : at + 4 * suc count ≡ at + 4 + 4 * count = omega arith in
    rw (e, four) (rw (byte_is b at small, byte_is b (at + 1) small, byte_is b (at + 2) small, byte_is b (at + 3) small) (ap (λ l. get_or b at 0 ∷ get_or b (at + 1) 0 ∷ get_or b (at + 2) 0 ∷ get_or b (at + 3) 0 ∷ l) rest ∙ sym (drop_four b at (omega arith))))

-- fields in two parts
pub fields_append : (b : List ℕ) (at first second : ℕ) → fields_from b at (first + second) ≡ fields_from b at first ++ fields_from b (at + 4 * first) second
fields_append b at zero second =
    let e : 0 + second ≡ second = omega arith in
    let f : at + 4 * 0 ≡ at = omega arith in
    rw (e, f)
fields_append b at (suc first) second =
    let e : suc first + second ≡ suc (first + second) = omega arith in
    let f : at + 4 * suc first ≡ at + 4 + 4 * first = omega arith in
    rw (e, f) (ap (λ l. field_at b at ∷ l) (fields_append b (at + 4) first second))

-- the fields of arcs that were read
pub arc_fields_read : (b : List ℕ) (at count : ℕ) → fields_from b at (3 * count) ≡ flat_map arc_fields (arcs_from b at count)
arc_fields_read b at zero = refl
arc_fields_read b at (suc count) =
    let e : 3 * suc count ≡ suc (suc (suc (3 * count))) = omega arith in
    let f : at + 4 + 4 ≡ at + 8 = omega arith in
    let g : at + 8 + 4 ≡ at + 12 = omega arith in
    rw (e, f, g) (ap (λ l. field_at b at ∷ field_at b (at + 4) ∷ field_at b (at + 8) ∷ l) (arc_fields_read b (at + 12) count))

-- a field that was laid out after other bytes
field_laid : (before rest : List ℕ) (n : ℕ) → n < 2 ^ 32 → field_at (before ++ (field_bytes n ++ rest)) (length before) ≡ n
unfolding byte_at field_at field_bytes
field_laid before rest n h =
    let l = field_bytes n ++ rest in
    let p = get_or-append_right before l (length before) (length before) 0 refl (omega arith) in
    let q = get_or-append_right before l (length before) (length before + 1) 0 refl (omega arith) in
    let r = get_or-append_right before l (length before) (length before + 2) 0 refl (omega arith) in
    let s = get_or-append_right before l (length before) (length before + 3) 0 refl (omega arith) in
    let e : length before - length before ≡ 0 = omega arith in
    let f : length before + 1 - length before ≡ 1 = omega arith in
    let g : length before + 2 - length before ≡ 2 = omega arith in
    let k : length before + 3 - length before ≡ 3 = omega arith in
    rw (p, q, r, s, e, f, g, k) (rw (mod-mod (n) 256, mod-mod (n / 256) 256, mod-mod (n / 65536) 256, mod-mod (n / 16777216) 256) (field_again n h))

-- fields that were laid out after other bytes are read again
pub fields_laid : (before fields : List ℕ) → AllByRecursion (λ n. n < 2 ^ 32) fields → fields_from (before ++ flat_map field_bytes fields) (length before) (length fields) ≡ fields
unfolding field_bytes
fields_laid before [] small = refl
fields_laid before (n ∷ fields) small =
    let here = field_laid before (flat_map field_bytes fields) n small.0 in
    let moved = append_assoc before (field_bytes n) (flat_map field_bytes fields) in
    let four : length (before ++ field_bytes n) ≡ length before + 4 = length-append before (field_bytes n) in
    let later = fields_laid (before ++ field_bytes n) fields small.1 in
    let later' : fields_from (before ++ (field_bytes n ++ flat_map field_bytes fields)) (length before + 4) (length fields) ≡ fields = rw (moved, four) at later in
    cc

pub length_laid : (fields : List ℕ) → length (flat_map field_bytes fields) ≡ 4 * length fields
unfolding field_bytes
length_laid [] = refl
length_laid (n ∷ fields) = omega (arith, length-append (field_bytes n) (flat_map field_bytes fields), length_laid fields)

pub length_arc_fields : (arcs : List FileArc) → length (flat_map arc_fields arcs) ≡ 3 * length arcs
length_arc_fields [] = refl
length_arc_fields (arc ∷ arcs) = omega (arith, length_arc_fields arcs)

-- a field that a file answers is what stands there
pub read_is : (bytes : List ℕ) (at x : ℕ) → field_read bytes at ≡ Ok x → x ≡ field_at bytes at
read_is bytes at x e = grind (arith, nat_tests)
