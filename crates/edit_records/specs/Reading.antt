-- Reading a record word by word: each reader takes the words that are left, and answers what it read and the words after it.
use Rattle.std.specs.Prelude.{ℕ, ◌^◌, ◌%◌, zero, suc, cond, List, [], ◌∷◌, ◌++◌, ◌&&◌, map, Some, None, Option, nat_lt, codes}
use Rattle.std.specs.Borrow.{Bor}
use Rattle.std.specs.Option.{option_map, option_and_then}
use Rattle.std.specs.Str.{all_ascii_digits}
use Rattle.std.specs.Str.Parse.{digits_value}
use Rattle.std.proofs.Math.Nat.{mod-lt}
use Rattle.std.proofs.Common.{lit<}
use Rattle.keys.specs.declared.junction.Junction.{Junction}
use Rattle.map_model.specs.declared.Edit.{Edit}
use Rattle.map_model.specs.declared.Edit.TheVariants.{AddNode, AddEdge, RemoveNode, RemoveEdge}
use Rattle.edit_lines.specs.Reading.{same}
use Rattle.edit_lines.specs.Words.{words_left}
use Rattle.edit_lines.specs.declared.words.LineWords.{LineWords}

abbrev pub Words : Type 0
Words = List (List ℕ)

-- the words that lent texts have
abbrev pub texts : List (Bor (List ℕ)) → Words
texts words = map (λ word. word.now) words

-- what was read, and the words after it
abbrev pub read : {X : Type 0} → Option (X × Bor (List (Bor (List ℕ)))) → Option (X × Words)
read = option_map (λ r. (r.0, texts r.1.now))

-- the words that are left, where what stood before them was as it should be
abbrev pub left : Option (Bor (List (Bor (List ℕ)))) → Option Words
left = option_map (λ rest. texts rest.now)

-- ---- the same of the words of a line
-- the words of a line that are still to be read
abbrev pub texts_in_line : LineWords → Words
texts_in_line words = words_left words

abbrev pub read_in_line : {X : Type 0} → Option (X × LineWords) → Option (X × Words)
read_in_line = option_map (λ r. (r.0, texts_in_line r.1))

abbrev pub left_in_line : Option LineWords → Option Words
left_in_line = option_map texts_in_line

-- ---- the same of anything that has words, which `words` gives
abbrev pub read_by : {W X : Type 0} → (W → Words) → Option (X × W) → Option (X × Words)
read_by words = option_map (λ r. (r.0, words r.1))

abbrev pub left_by : {W : Type 0} → (W → Words) → Option W → Option Words
left_by words = option_map words

-- ---- what the words mean
-- f is done n times, as long as it answers
abbrev pub times : {X : Type 0} → ℕ → (X → Option X) → X → Option X
times zero f x = Some x
times (suc n) f x = option_and_then (times n f) (f x)

-- the junction of a number below 2 ^ 32
unfoldable pub junction : ℕ → Junction
junction n = record { value = n % 2 ^ 32; small = mod-lt n (lit< tt) }

-- the number below 2 ^ 32 that digits write, however many; no digits write 0
abbrev pub recorded_number : List ℕ → Option ℕ
recorded_number word = cond (all_ascii_digits word && nat_lt (digits_value 10 word) (2 ^ 32)) (Some (digits_value 10 word)) None

abbrev pub number_at : Words → Option (ℕ × Words)
number_at [] = None
number_at (word ∷ words) = option_map (λ n. (n, words)) (recorded_number word)

abbrev pub junction_at : Words → Option (Junction × Words)
junction_at words = option_map (λ r. (junction r.0, r.1)) (number_at words)

-- the edit of a verb whose first junction has been read
abbrev pub edit_from : List ℕ → Junction → Words → Option (Edit Junction ℕ × Words)
edit_from verb a words =
    cond (same verb (codes "n")) (Some (AddNode a, words))
    (cond (same verb (codes "r")) (Some (RemoveNode a, words))
    (cond (same verb (codes "x")) (option_map (λ b. (RemoveEdge a b.0, b.1)) (junction_at words))
    (cond (same verb (codes "a")) (option_and_then (λ b. option_map (λ w. (AddEdge a b.0 w.0, w.1)) (number_at b.1)) (junction_at words))
    None)))

-- an edit: n A, r A, x A B, or a A B and a weight
abbrev pub edit_at : Words → Option (Edit Junction ℕ × Words)
edit_at [] = None
edit_at (verb ∷ words) = option_and_then (λ a. edit_from verb a.0 a.1) (junction_at words)

-- one edit more
abbrev pub one_more : List (Edit Junction ℕ) × Words → Option (List (Edit Junction ℕ) × Words)
one_more so_far = option_map (λ r. (so_far.0 ++ r.0 ∷ [], r.1)) (edit_at so_far.1)

-- a count, and so many edits
abbrev pub edits_at : Words → Option (List (Edit Junction ℕ) × Words)
edits_at words = option_and_then (λ r. times r.0 one_more ([], r.1)) (number_at words)
