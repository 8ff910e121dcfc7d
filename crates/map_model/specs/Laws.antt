-- What a map's questions and cursors have to do with its nodes and arcs, and what every run of edits keeps.
use Rattle.std.specs.Prelude.{◌≡◌, ℕ, true, ◌↔◌, List, [], ◌∷◌, map, ◌≢◌}
use mathlib.Core.List.{Memᴰ}
use Rattle.network.specs.declared.direction.CompactDirection.{CompactDirection}
use Rattle.network.specs.declared.direction.CompactDirection.TheVariants.{Outgoing, Incoming}
use Rattle.map_model.specs.declared.Edit.{Edit}
use Rattle.map_model.specs.Lists.{All}
use Rattle.map_model.specs.Model.{Model, built, run}
use Rattle.map_model.specs.Shown.{contains_edge, nodes_shown, all_edges_shown, neighbors_shown, edges_shown}
use Rattle.map_model.specs.Sound.{Sound, Placed, Stored}
use Rattle.map_model.specs.Statements.{EndsDiffer}

-- the end of an arc that a direction looks from, and the other end
abbrev pub near : {N E : Type 0} → CompactDirection → N × N × E → N
near Outgoing t = t.0
near Incoming t = t.1

abbrev pub far : {N E : Type 0} → CompactDirection → N × N × E → N
far Outgoing t = t.1
far Incoming t = t.0

abbrev pub KeysDiffer : {N : Type 0} → List N → Type 0
KeysDiffer [] = Unit {0}
KeysDiffer (x ∷ l) = All (λ y. x ≢ y) l × KeysDiffer l

pub record QuestionsAgree {N E : Type 0} (ix : N → ℕ) (m : Model N E) : Type 0 where
  -- each node is shown once, and both ends of an arc are nodes
  pub nodes_once : KeysDiffer (nodes_shown m)
  pub ends : (a b : N) (w : E) → Memᴰ (a, b, w) (all_edges_shown m) → Memᴰ a (nodes_shown m) × Memᴰ b (nodes_shown m)
  -- an edge is contained exactly if all edges show it
  pub contains : (a b : N) → (contains_edge ix m a b ≡ true) ↔ ((w : E) × Memᴰ (a, b, w) (all_edges_shown m))
  -- a node's edges in a direction are exactly the arcs that begin, or end, there, each shown once
  pub edges : (a : N) (d : CompactDirection) (t : N × N × E) → Memᴰ t (edges_shown ix m a d) ↔ ((near d t ≡ a) × Memᴰ t (all_edges_shown m))
  pub edges_once : (a : N) (d : CompactDirection) → EndsDiffer (edges_shown ix m a d)
  -- its neighbors are their other ends, in the same sequence
  pub neighbors : (a : N) (d : CompactDirection) → neighbors_shown ix m a d ≡ map (far d) (edges_shown ix m a d)

abbrev pub QuestionsAgreeAfterEveryRun : Type 0 → Type 0 → Type 0
QuestionsAgreeAfterEveryRun N E =
    (ix : N → ℕ) → ((x y : N) → ix x ≡ ix y → x ≡ y) → (nodes arcs : ℕ) (es : List (Edit N E)) → QuestionsAgree ix (run ix (built nodes arcs) es)

-- nodes and arcs stand once and have places, the links of a node are its arcs, and each stored index is that of the key beside it
pub record Kept {N E : Type 0} (ix : N → ℕ) (m : Model N E) : Type 0 where
  pub sound : Sound m
  pub placed : Placed m
  pub stored : Stored ix m

abbrev pub EveryRunKeepsTheMap : Type 0 → Type 0 → Type 0
EveryRunKeepsTheMap N E = (ix : N → ℕ) (nodes arcs : ℕ) (es : List (Edit N E)) → Kept ix (run ix (built nodes arcs) es)
