-- Junctions by their numbers, and a number of rounds.
use Rattle.std.proofs.Common.{◌≡◌, ℕ, zero, suc, ◌+◌, ◌-◌, ◌^◌, ◌<◌, ◌≤◌, ◌%◌, ◌==◌, cond, List, [], ◌∷◌, Some, None, Option, Bool, true, false, Bor, is_some, is_err, Result, sym, refl, ap, ◌∙◌, arith}
use mathlib.Core.HLevel.{is_prop→PathP}
use native.Mathlib.Bridge.{le_prop}
use Rattle.std.proofs.Math.Nat.{mod-eq_of_lt}
use Rattle.std.specs.Bool.{then_some}
use Rattle.std.specs.Option.{option_and_then}
use Rattle.fault.specs.declared.Fault.{Fault}
use Rattle.graphmap.specs.Capacity.{capacity_answer}
use Rattle.edit_lines.specs.declared.words.LineWords.{LineWords}
use Rattle.keys.specs.declared.junction.Junction.{Junction}
use Rattle.edit_records.specs.Reading.{Words, texts, texts_in_line, left, left_in_line, left_by, times, junction, number_at}
use Rattle.edit_records.specs.Showing.{counted, after_list}

alike : (x y : Junction) → x.value ≡ y.value → x ≡ y
alike x y e = λ i. record { value = e i; small = is_prop→PathP (λ j. e j < 2 ^ 32) (λ j. le_prop) x.small y.small i }

pub junction_is : (j : Junction) (n : ℕ) → j.value ≡ n → j ≡ junction n
unfolding junction
junction_is j n e = alike j (junction n) (sym (mod-eq_of_lt j.small) ∙ ap (λ k. k % 2 ^ 32) e)

-- a round is left, and none is
pub one_left : {X : Type 0} (f : X → Option X) (n i : ℕ) (x : X) → i < n → times (n - i) f x ≡ option_and_then (times (n - (i + 1)) f) (f x)
one_left f n i x lt = let k : n - i ≡ suc (n - (i + 1)) = omega arith in rw k refl

pub none_left : {X : Type 0} (f : X → Option X) (n i : ℕ) (x : X) → n ≤ i → times (n - i) f x ≡ Some x
none_left f n i x le = let k : n - i ≡ 0 = omega arith in rw k refl

-- ---- as many as a number says
module _ {X : Type 0} (f : X → Words → Option Words) where
  pub begun : (xs ys : List X) (n : ℕ) (words rest : Words) → Some (n, rest) ≡ number_at words → ys ≡ xs → counted f n ys rest ≡ after_list f xs words
  begun xs ys n words rest h e = ap (λ zs. counted f n zs rest) e ∙ ap (option_and_then (λ r. counted f r.0 xs r.1)) h

  pub ended : (n : ℕ) (xs : List X) (words : Words) (all : Option Words) → xs ≡ [] → counted f n xs words ≡ all → cond (n == 0) (Some words) None ≡ all
  ended n xs words all e h = sym (ap (λ zs. counted f n zs words) e) ∙ h

  pub too_many : (n : ℕ) (x : X) (ys xs : List X) (words : Words) (all : Option Words) → n < 1 → xs ≡ x ∷ ys → counted f n xs words ≡ all → all ≡ None
  too_many zero x ys xs words all lt e h = sym h ∙ ap (λ zs. counted f zero zs words) e
  too_many (suc n) x ys xs words all lt e h = absurd (omega arith)

  pub not_shown : (n : ℕ) (x : X) (ys xs : List X) (words : Words) (all : Option Words) → 1 ≤ n → xs ≡ x ∷ ys → f x words ≡ None → counted f n xs words ≡ all → all ≡ None
  not_shown zero x ys xs words all lt e none h = absurd (omega arith)
  not_shown (suc n) x ys xs words all lt e none h = sym h ∙ ap (λ zs. counted f (suc n) zs words) e ∙ ap (option_and_then (counted f n ys)) none

pub left_by_if : {W : Type 0} (words : W → Words) (b : Bool) (rest : W) → left_by words (then_some b rest) ≡ cond b (Some (words rest)) None
left_by_if words true rest = refl
left_by_if words false rest = refl

pub some_left_by : {W : Type 0} (words : W → Words) (rest : Option W) → is_some rest ≡ is_some (left_by words rest)
some_left_by words None = refl
some_left_by words (Some rest) = refl

-- of lent texts
pub left_if : (b : Bool) (rest : Bor (List (Bor (List ℕ)))) → left (then_some b rest) ≡ cond b (Some (texts rest.now)) None
left_if = left_by_if (λ rest. texts rest.now)

pub some_left : (rest : Option (Bor (List (Bor (List ℕ))))) → is_some rest ≡ is_some (left rest)
some_left = some_left_by (λ rest. texts rest.now)

-- of the words of a line
pub left_if_in_line : (b : Bool) (rest : LineWords) → left_in_line (then_some b rest) ≡ cond b (Some (texts_in_line rest)) None
left_if_in_line = left_by_if texts_in_line

pub some_left_in_line : (rest : Option LineWords) → is_some rest ≡ is_some (left_in_line rest)
some_left_in_line = some_left_by texts_in_line

-- places that were taken fit
pub taken : {M : Type 0} (fit : Bool) (answer : Result (Unit {0}) Fault) (built before after : M) → answer ≡ capacity_answer fit → is_err answer ≡ false → after ≡ cond fit built before → after ≡ built
taken true answer built before after a e h = h
taken false answer built before after a e h = absurd (cc)
