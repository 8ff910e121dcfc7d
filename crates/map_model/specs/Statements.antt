-- What all edges show after any list of edits.
use Rattle.std.specs.Prelude.{◌≡◌, ℕ, cond, ◌⊎◌, ◌↔◌, List, [], ◌∷◌, ◌++◌, ◌≢◌}
use mathlib.Core.List.{Memᴰ}
use Rattle.map_model.specs.declared.Edit.{Edit}
use Rattle.map_model.specs.declared.Edit.TheVariants.{AddNode, AddEdge, RemoveNode, RemoveEdge}
use Rattle.map_model.specs.declared.Answer.{Answer}
use Rattle.map_model.specs.Lists.{All}
use Rattle.map_model.specs.Answers.{granted}
use Rattle.map_model.specs.Model.{built, run, answers}
use Rattle.map_model.specs.Shown.{all_edges_shown}

-- the edits that were granted, by their answers
abbrev pub granted_edits : {N E : Type 0} → List (Edit N E) → List (Answer N E) → List (Edit N E)
granted_edits [] rs = []
granted_edits (e ∷ es) [] = []
granted_edits (e ∷ es) (r ∷ rs) = cond (granted r) (e ∷ granted_edits es rs) (granted_edits es rs)

-- the edits that concern the arc from a to b: those that add it, remove it, or remove an end of it
abbrev pub Concerns : {N E : Type 0} → N → N → Edit N E → Type 0
Concerns a b (AddNode n) = ⊥
Concerns a b (AddEdge x y w) = (x ≡ a) × (y ≡ b)
Concerns a b (RemoveNode n) = (n ≡ a) ⊎ (n ≡ b)
Concerns a b (RemoveEdge x y) = (x ≡ a) × (y ≡ b)

-- the arc from a to b was added with the weight w, and nothing that concerns it comes later
pub record AddedLast {N E : Type 0} (a b : N) (w : E) (history : List (Edit N E)) : Type 0 where
  pub earlier : List (Edit N E)
  pub later : List (Edit N E)
  pub split : history ≡ earlier ++ AddEdge a b w ∷ later
  pub unconcerned : All (λ e. Concerns a b e → ⊥) later

-- no two arcs have the same ends
abbrev pub EndsDiffer : {N E : Type 0} → List (N × N × E) → Type 0
EndsDiffer [] = Unit {0}
EndsDiffer (x ∷ l) = All (λ y. x.0 ≡ y.0 → x.1 ≢ y.1) l × EndsDiffer l

-- an arc is shown exactly if it was added and neither it nor an end of it was removed later, with the weight that it was given last;
-- and it is shown once
pub record ShowsWhatWasGrantedLast {N E : Type 0} (shown : List (N × N × E)) (history : List (Edit N E)) : Type 0 where
  pub exactly : (a b : N) (w : E) → Memᴰ (a, b, w) shown ↔ AddedLast a b w history
  pub once : EndsDiffer shown

-- for every index that tells keys apart, every number of places and every list of edits
abbrev pub AllEdgesShowWhatWasGrantedLast : Type 0 → Type 0 → Type 0
AllEdgesShowWhatWasGrantedLast N E =
    (ix : N → ℕ) → ((x y : N) → ix x ≡ ix y → x ≡ y) → (nodes arcs : ℕ) (es : List (Edit N E))
    → ShowsWhatWasGrantedLast (all_edges_shown (run ix (built nodes arcs) es)) (granted_edits es (answers ix (built nodes arcs) es))
