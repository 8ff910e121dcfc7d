-- A run: a map just built, a list of edits made on it, and the order of what it then shows. What is promised of every run.
use Rattle.std.specs.Prelude.{◌≡◌, ℕ, List, Result}
use Rattle.fault.specs.declared.Fault.{Fault}
use Rattle.map_model.specs.Model.{Model, built, run, answers}
use Rattle.map_model.specs.Shown.{all_edges_shown}
use Rattle.map_model.specs.Statements.{granted_edits, ShowsWhatWasGrantedLast, AllEdgesShowWhatWasGrantedLast}
use Rattle.network.specs.Network.{Link}
use Rattle.network.specs.Sources.{links}
use Rattle.graphmap.specs.Sources.{arcs_shown}
use Rattle.greedy_order.specs.Part3Order.{greedy_order}
use Rattle.greedy_order.specs.Part4Promises.{Promises, TheOrderKeepsThePromises}
use Rattle.feedback_arc_set.specs.declared.ordering.Ordering.{Ordering}
use Rattle.feedback_arc_set.specs.Verdicts.{Leaves, answer, verdict}
use Rattle.replay.specs.declared.step.Step.{Step}
use Rattle.replay.specs.Steps.{edits_of, recorded}

-- the network of a map: the arcs that all edges show, each as the indices of its ends
abbrev pub network_of : {N E : Type 0} → (N → ℕ) → Model N E → List Link
network_of ix m = links ix (arcs_shown m)

-- the promises, for every node key and weight: after any list of edits all edges show exactly what was granted last;
-- and for every list of arcs, whatever source they come from, the order keeps its promises: every loop is held, every
-- closed walk has a held arc, no arc is held exactly when the network has no closed walk, at most half of the arcs other
-- than loops are held, and without loops and opposite arcs touched nodes plus six times held arcs is at most three times arcs
pub record AllPromises (N E : Type 0) : Type 0 where
  pub all_edges_show_what_was_granted_last : AllEdgesShowWhatWasGrantedLast N E
  pub the_order_keeps_the_promises : TheOrderKeepsThePromises

-- one run: from a map with so many places, the edits of the steps before; the map, the steps, the ordering and its answer after
pub record Ran {N E : Type 0} (ix : N → ℕ) (nodes arcs : ℕ) (before after : List (Step N E)) (m : Model N E) (o o' : Ordering) (r : Result ℕ Fault) : Type 0 where
  pub map : m ≡ run ix (built nodes arcs) (edits_of before)
  pub steps : after ≡ recorded (edits_of before) (answers ix (built nodes arcs) (edits_of before))
  pub shows : ShowsWhatWasGrantedLast (all_edges_shown m) (granted_edits (edits_of before) (answers ix (built nodes arcs) (edits_of before)))
  pub answer_is : r ≡ answer (verdict (network_of ix m) o.tables) (network_of ix m)
  pub leaves : Leaves (verdict (network_of ix m) o.tables) (network_of ix m) o o'
  pub keeps : Promises (network_of ix m) (greedy_order (network_of ix m))
