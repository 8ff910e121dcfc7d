-- Bytes put into an output, one piece after another.
use Rattle.std.proofs.Common.{◌≡◌, ℕ, ◌+◌, ◌^◌, ◌<◌, ◌≤◌, true, cond, List, ◌++◌, length, take, drop, Some, None, Option, sym, refl, ap, ◌∙◌, zero-add, arith, length-append}
use lib.Seq.{paste}
use borrow.Rule.Slice.PartMut.{put_mid}
use Rattle.std.proofs.lemmas.List.Edits.{paste_all, paste-paste, length-paste}
use Rattle.std.proofs.lemmas.List.{take_at}
use Rattle.std.proofs.lemmas.Slice.{put_mid-paste}
use Rattle.std.proofs.lemmas.Bool.{le-leb}
use Rattle.decimal.specs.Digits.{digits}
use Rattle.decimal.specs.Outputs.{fits_at, put_at}
use Rattle.decimal.proofs.Writing.{at_most_ten}

-- where the bytes fit, they are pasted in
put_pastes : (out : List ℕ) (at : ℕ) (bytes : List ℕ) → at + length bytes ≤ length out → put_at out at bytes ≡ paste out at bytes (length bytes)
put_pastes out at bytes room =
    let e = le-leb (at + length bytes) (length out) room in
    rw e (sym (paste_all out at bytes (length bytes) refl))

pub length_put : (out : List ℕ) (at : ℕ) (bytes : List ℕ) → at + length bytes ≤ length out → length (put_at out at bytes) ≡ length out
length_put out at bytes room = ap length (put_pastes out at bytes room) ∙ length-paste out at bytes (length bytes) room (omega arith)

-- one piece put right after another
pub put_put : (out : List ℕ) (at : ℕ) (first second : List ℕ) → at + (length first + length second) ≤ length out → put_at (put_at out at first) (at + length first) second ≡ put_at out at (first ++ second)
put_put out at first second room =
    let l = length_put out at first (omega arith) in
    let a = put_pastes (put_at out at first) (at + length first) second (omega arith) in
    let b = put_pastes out at first (omega arith) in
    let n = length-append first second in
    let d = put_pastes out at (first ++ second) (omega arith) in
    let p = paste-paste out at first second (length first) (length second) refl refl (omega arith) in
    a ∙ (ap (λ o. paste o (at + length first) second (length second)) b ∙ (p ∙ (ap (paste out at (first ++ second)) (sym n) ∙ sym d)))

-- the next piece of a line that begins at the output's start
pub put_next : (out before : List ℕ) (at : ℕ) (line piece : List ℕ) → length line + length piece ≤ length out → at ≡ length line → before ≡ put_at out 0 line → put_at before at piece ≡ put_at out 0 (line ++ piece)
put_next out before at line piece room here was =
    ap (λ n. put_at before n piece) (here ∙ sym (zero-add (length line)))
    ∙ (ap (λ o. put_at o (0 + length line) piece) was ∙ put_put out 0 line piece (omega arith))

-- a part of the output that was overwritten with the bytes
pub overwritten : (out : List ℕ) (at k : ℕ) (part bytes : List ℕ) → at + length bytes ≤ length out → k ≡ length bytes → part ≡ bytes → put_mid at k out part ≡ put_at out at bytes
overwritten out at k part bytes room all same = put_mid-paste at k out part bytes (length bytes) same (sym all) refl ∙ sym (put_pastes out at bytes room)

-- the bytes from the start of a line are what was put there
pub take_put : (out bytes : List ℕ) (n : ℕ) → length bytes ≤ length out → n ≡ length bytes → take n (put_at out 0 bytes) ≡ bytes
take_put out bytes n room all =
    let e = le-leb (0 + length bytes) (length out) (omega arith) in
    rw e (take_at bytes (drop (0 + length bytes) out) n (sym all))

-- ten bytes are room for every number of 32 bits
pub ten_suffice : (line : List ℕ) (at n : ℕ) (r : Option ℕ) → n < 2 ^ 32 → at + 10 ≤ length line → r ≡ cond (fits_at line at (digits n)) (Some (length (digits n))) None → r ≡ Some (length (digits n))
ten_suffice line at n r small room is =
    let ten = at_most_ten n small in
    let fit : fits_at line at (digits n) ≡ true = le-leb (at + length (digits n)) (length line) (omega arith) in
    rw fit at is
