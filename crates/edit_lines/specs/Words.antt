-- The words of a line: they stand one space apart.
use Rattle.std.specs.Prelude.{ℕ, ◌==◌, List, []}
use Rattle.std.specs.List.{slice_split}
use Rattle.std.specs.Option.{option_map_or}
use Rattle.edit_lines.specs.declared.words.LineWords.{LineWords}

abbrev pub words_in : List ℕ → List (List ℕ)
words_in line = slice_split (λ byte. byte == 32) line

-- the words that are still to be read
abbrev pub words_left : LineWords → List (List ℕ)
words_left words = option_map_or (λ rest. words_in rest.now) words.rest []
