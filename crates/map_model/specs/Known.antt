-- Known answers: lists of edits from a map just built, what each edit answers, and the arcs that all edges show in the end.
use Rattle.std.specs.Prelude.{◌≡◌, ℕ, true, false, List, [], ◌∷◌, Some, None, Ok, Err}
use Rattle.fault.specs.declared.Fault.TheVariants.{NodesFull, ArcsFull}
use Rattle.map_model.specs.declared.Edit.{Edit}
use Rattle.map_model.specs.declared.Edit.TheVariants.{AddNode, AddEdge, RemoveNode, RemoveEdge}
use Rattle.map_model.specs.declared.Answer.{Answer}
use Rattle.map_model.specs.declared.Answer.TheVariants.{NodeAdded, EdgeAdded, NodeRemoved, EdgeRemoved}
use Rattle.map_model.specs.Lists.{All}
use Rattle.map_model.specs.Model.{built, run, answers}
use Rattle.map_model.specs.Shown.{all_edges_shown}

-- keys are numbers, each its own index
abbrev own_index : ℕ → ℕ
own_index n = n

pub record Known : Type 0 where
  pub node_places : ℕ
  pub arc_places : ℕ
  pub edits : List (Edit ℕ ℕ)
  pub answered : List (Answer ℕ ℕ)
  pub left : List (ℕ × ℕ × ℕ)

pub record Stands (k : Known) : Type 0 where
  pub answered : answers own_index (built k.node_places k.arc_places) k.edits ≡ k.answered
  pub left : all_edges_shown (run own_index (built k.node_places k.arc_places) k.edits) ≡ k.left

-- a weight is replaced, and the old one answered
abbrev replaced : Known
replaced = record {
  node_places = 2;
  arc_places = 1;
  edits = AddEdge 1 2 5 ∷ AddEdge 1 2 9 ∷ [];
  answered = EdgeAdded (Ok None) ∷ EdgeAdded (Ok (Some 5)) ∷ [];
  left = (1, 2, 9) ∷ [];
}

-- the last arc comes in the place of a removed one
abbrev filled : Known
filled = record {
  node_places = 3;
  arc_places = 3;
  edits = AddEdge 1 2 60 ∷ AddEdge 2 3 70 ∷ AddEdge 3 1 80 ∷ RemoveEdge 1 2 ∷ [];
  answered = EdgeAdded (Ok None) ∷ EdgeAdded (Ok None) ∷ EdgeAdded (Ok None) ∷ EdgeRemoved (Some 60) ∷ [];
  left = (3, 1, 80) ∷ (2, 3, 70) ∷ [];
}

-- freed places serve again
abbrev freed : Known
freed = record {
  node_places = 2;
  arc_places = 2;
  edits = AddEdge 1 2 60 ∷ AddEdge 2 2 70 ∷ AddEdge 2 3 80 ∷ RemoveNode 1 ∷ AddEdge 2 3 80 ∷ [];
  answered = EdgeAdded (Ok None) ∷ EdgeAdded (Ok None) ∷ EdgeAdded (Err NodesFull) ∷ NodeRemoved true ∷ EdgeAdded (Ok None) ∷ [];
  left = (2, 2, 70) ∷ (2, 3, 80) ∷ [];
}

-- missing node places come before missing arc places, a loop has one key, and finding nothing is no refusal
abbrev refused_first : Known
refused_first = record {
  node_places = 1;
  arc_places = 0;
  edits = AddEdge 1 2 60 ∷ AddEdge 1 1 70 ∷ AddNode 1 ∷ AddNode 2 ∷ AddNode 1 ∷ RemoveEdge 1 1 ∷ RemoveNode 2 ∷ [];
  answered = EdgeAdded (Err NodesFull) ∷ EdgeAdded (Err ArcsFull) ∷ NodeAdded (Ok 1) ∷ NodeAdded (Err NodesFull) ∷ NodeAdded (Ok 1) ∷ EdgeRemoved None ∷ NodeRemoved false ∷ [];
  left = [];
}

abbrev pub known_answers : List Known
known_answers = replaced ∷ filled ∷ freed ∷ refused_first ∷ []

abbrev pub KnownAnswersStand : Type 0
KnownAnswersStand = All Stands known_answers
