-- Whether the words that are left show what a run answered, and what its map then shows: each takes them, and answers the words after.
use Rattle.std.specs.Prelude.{ℕ, ◌==◌, zero, suc, cond, true, false, List, [], ◌∷◌, Some, None, Ok, Err, Option, codes}
use Rattle.std.specs.Option.{option_and_then}
use Rattle.fault.specs.Faults.{number_of}
use Rattle.keys.specs.declared.junction.Junction.{Junction}
use Rattle.network.specs.declared.direction.CompactDirection.{CompactDirection}
use Rattle.network.specs.declared.direction.CompactDirection.TheVariants.{Outgoing, Incoming}
use Rattle.map_model.specs.declared.Answer.{Answer}
use Rattle.map_model.specs.declared.Answer.TheVariants.{NodeAdded, EdgeAdded, NodeRemoved, EdgeRemoved}
use Rattle.map_model.specs.Model.{Model}
use Rattle.map_model.specs.Shown.{nodes_shown, edges_shown, all_edges_shown}
use Rattle.edit_lines.specs.Reading.{same}
use Rattle.replay.specs.declared.step.Step.{Step}
use Rattle.edit_records.specs.Reading.{Words, times, number_at}

-- after this word
abbrev pub after : List ℕ → Words → Option Words
after word [] = None
after word (w ∷ words) = cond (same w word) (Some words) None

abbrev pub after_heading : List ℕ → Words → Option Words
after_heading word words = option_and_then (after word) (after (codes "|") words)

abbrev pub after_number : ℕ → Words → Option Words
after_number n words = option_and_then (λ r. cond (r.0 == n) (Some r.1) None) (number_at words)

-- ---- what an edit answered
abbrev pub after_weight : ℕ → Words → Option Words
after_weight weight words = option_and_then (after_number weight) (after (codes "w") words)

-- f2 where no place for a node was left, f3 where none for an arc was
abbrev pub after_refusal : ℕ → Words → Option Words
after_refusal number words = cond (number == 2) (after (codes "f2") words) (cond (number == 3) (after (codes "f3") words) None)

abbrev pub after_answer : Answer Junction ℕ → Words → Option Words
after_answer (NodeAdded (Ok n)) words = after (codes "g") words
after_answer (NodeAdded (Err fault)) words = after_refusal (number_of fault) words
after_answer (EdgeAdded (Ok None)) words = after (codes "new") words
after_answer (EdgeAdded (Ok (Some old))) words = after_weight old words
after_answer (EdgeAdded (Err fault)) words = after_refusal (number_of fault) words
after_answer (NodeRemoved true) words = after (codes "gone") words
after_answer (NodeRemoved false) words = after (codes "absent") words
after_answer (EdgeRemoved (Some old)) words = after_weight old words
after_answer (EdgeRemoved None) words = after (codes "absent") words

-- nothing stands for an edit that was not made
abbrev pub after_answered : Option (Answer Junction ℕ) → Words → Option Words
after_answered None words = Some words
after_answered (Some answer) words = after_answer answer words

abbrev pub after_steps : List (Step Junction ℕ) → Words → Option Words
after_steps [] words = Some words
after_steps (step ∷ steps) words = option_and_then (after_steps steps) (after_answered step.answer words)

abbrev pub after_answers : List (Step Junction ℕ) → Words → Option Words
after_answers steps words = option_and_then (after_steps steps) (after_heading (codes "answers") words)

-- ---- what the map shows
-- after as many as the number says, which is that of the list, each shown by f
abbrev pub counted : {X : Type 0} → (X → Words → Option Words) → ℕ → List X → Words → Option Words
counted f n [] words = cond (n == 0) (Some words) None
counted f zero (x ∷ xs) words = None
counted f (suc n) (x ∷ xs) words = option_and_then (counted f n xs) (f x words)

abbrev pub after_list : {X : Type 0} → (X → Words → Option Words) → List X → Words → Option Words
after_list f xs words = option_and_then (λ r. counted f r.0 xs r.1) (number_at words)

-- the numbers of its ends, and its weight
abbrev pub after_edge : Junction × Junction × ℕ → Words → Option Words
after_edge edge words = option_and_then (after_number edge.2) (option_and_then (after_number edge.1.value) (after_number edge.0.value words))

abbrev pub after_edges : Model Junction ℕ → Junction → CompactDirection → Words → Option Words
after_edges m n d words = after_list after_edge (edges_shown (λ j. j.value) m n d) words

-- the links of a node are passed over, for its edges show them: each is the number of the other end, and a word
abbrev pub after_word : Words → Option Words
after_word [] = None
after_word (w ∷ words) = Some words

abbrev pub after_link : Words → Option Words
after_link words = option_and_then (λ r. after_word r.1) (number_at words)

abbrev pub after_links : Words → Option Words
after_links words = option_and_then (λ r. times r.0 after_link r.1) (number_at words)

-- a node: its number, its links, and its edges out and in
abbrev pub after_node : Model Junction ℕ → Junction → Words → Option Words
after_node m n words =
    option_and_then (after_edges m n Incoming) (option_and_then (after_edges m n Outgoing) (option_and_then after_links (after_number n.value words)))

abbrev pub after_nodes : Model Junction ℕ → Words → Option Words
after_nodes m words = option_and_then (after_list (after_node m) (nodes_shown m)) (after_heading (codes "nodes") words)

abbrev pub after_arcs : Model Junction ℕ → Words → Option Words
after_arcs m words = option_and_then (after_list after_edge (all_edges_shown m)) (after_heading (codes "arcs") words)

abbrev pub after_map : Model Junction ℕ → Words → Option Words
after_map m words = option_and_then (after_arcs m) (after_nodes m words)
