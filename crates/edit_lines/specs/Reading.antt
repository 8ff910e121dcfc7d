-- What a line of words means.
use Rattle.std.specs.Prelude.{ℕ, ◌^◌, Bool, cond, ◌&&◌, List, [], ◌∷◌, length, Some, None, Option, nat_eq, nat_le, nat_lt, codes}
use Rattle.std.specs.Option.{option_and_then}
use Rattle.std.specs.Cmp.Lexicographic.{pointwise}
use Rattle.std.specs.Str.{all_ascii_digits}
use Rattle.std.specs.Str.Parse.{digits_value}
use Rattle.keys.specs.declared.junction.Junction.{Junction}
use Rattle.map_model.specs.declared.Edit.{Edit}
use Rattle.map_model.specs.declared.Edit.TheVariants.{AddNode, AddEdge, RemoveNode, RemoveEdge}

-- 1 to 10 digits write a number below 2 ^ 32
abbrev pub is_number : List ℕ → Bool
is_number w = all_ascii_digits w && nat_lt 0 (length w) && nat_le (length w) 10 && nat_lt (digits_value 10 w) (2 ^ 32)

abbrev pub number_in : List ℕ → Option ℕ
number_in w = cond (is_number w) (Some (digits_value 10 w)) None

-- an edit with each junction as its number
abbrev pub by_number : Edit Junction ℕ → Edit ℕ ℕ
by_number (AddNode n) = AddNode n.value
by_number (AddEdge a b w) = AddEdge a.value b.value w
by_number (RemoveNode n) = RemoveNode n.value
by_number (RemoveEdge a b) = RemoveEdge a.value b.value

-- whether two words are the same
abbrev pub same : List ℕ → List ℕ → Bool
same = pointwise nat_eq

-- the edit of one node that a verb and a number mean
abbrev pub node_edit : List ℕ → ℕ → Option (Edit ℕ ℕ)
node_edit verb n = cond (same verb (codes "node")) (Some (AddNode n)) (cond (same verb (codes "remove-node")) (Some (RemoveNode n)) None)

abbrev pub ends_edit : List ℕ → ℕ → ℕ → Option (Edit ℕ ℕ)
ends_edit verb a b = cond (same verb (codes "remove-arc")) (Some (RemoveEdge a b)) None

abbrev pub arc_edit : List ℕ → ℕ → ℕ → ℕ → Option (Edit ℕ ℕ)
arc_edit verb a b w = cond (same verb (codes "arc")) (Some (AddEdge a b w)) None

-- the edit that words mean: its verb, and as many numbers as it has
abbrev pub edit_in : List (List ℕ) → Option (Edit ℕ ℕ)
edit_in [] = None
edit_in (verb ∷ []) = None
edit_in (verb ∷ a ∷ []) = option_and_then (node_edit verb) (number_in a)
edit_in (verb ∷ a ∷ b ∷ []) = option_and_then (λ x. option_and_then (ends_edit verb x) (number_in b)) (number_in a)
edit_in (verb ∷ a ∷ b ∷ w ∷ []) = option_and_then (λ x. option_and_then (λ y. option_and_then (arc_edit verb x y) (number_in w)) (number_in b)) (number_in a)
edit_in (verb ∷ a ∷ b ∷ w ∷ v ∷ vs) = None
