-- The arcs of a source that an order can place, and those that it holds.
use Rattle.std.specs.Prelude.{ℕ, ◌+◌, max, Bool, cond, not, ◌&&◌, List, [], ◌∷◌, drop, Some, None, Ok, Err, Option, Result}
use Rattle.std.specs.Borrow.{Bor}
use Rattle.fault.specs.declared.Fault.{Fault}
use Rattle.fault.specs.declared.Fault.TheVariants.{EndUnplaced}
use Rattle.network.specs.declared.arc.Arc.{Arc}
use Rattle.network.specs.Counting.{has}
use Rattle.network.specs.Network.{Link}
use Rattle.network.specs.Places.{held}
use Rattle.feedback_arc_set.specs.declared.ordering.Ordering.{Ordering}
use Rattle.feedback_arc_set.specs.declared.held.HeldArc.{HeldArc}
use Rattle.feedback_arc_set.specs.declared.held.HeldArcs.{HeldArcs}

-- both ends of an arc have a place in the order
abbrev pub both_placed : List ℕ → Link → Bool
both_placed order a = has order a.0 && has order a.1

-- both ends have a place, and the order holds the arc
abbrev pub placed_and_held : List ℕ → Link → Bool
placed_and_held order a = both_placed order a && held order a

-- an arc without its weight, its ends as indices
abbrev pub link : {N E : Type 0} → (N → ℕ) → Arc N E → Link
link index a = (index a.source, index a.target)

-- an arc of a source by its ends' indices: an end has no place; both have one and the arc is held
abbrev pub unplaced : {N E : Type 0} → (N → ℕ) → List ℕ → Arc N E → Bool
unplaced index order a = not (both_placed order (link index a))

abbrev pub shows : {N E : Type 0} → (N → ℕ) → List ℕ → Arc N E → Bool
shows index order a = placed_and_held order (link index a)

-- the first item of a list that passes a test, behind its position, where the first of the list has the position p
abbrev pub first_from : {X : Type 0} → (X → Bool) → ℕ → List X → Option (ℕ × X)
first_from test p [] = None
first_from test p (x ∷ xs) = cond (test x) (Some (p, x)) (first_from test (p + 1) xs)

-- the first of some arcs that has an end without a place
abbrev pub first_unplaced : {N E : Type 0} → (N → ℕ) → List ℕ → List (Arc N E) → Option (ℕ × Arc N E)
first_unplaced index order arcs = first_from (unplaced index order) 0 arcs

-- the first of some arcs that has both places and is held, from the position p on
abbrev pub first_held : {N E : Type 0} → (N → ℕ) → List ℕ → ℕ → List (Arc N E) → Option (ℕ × Arc N E)
first_held index order p arcs = first_from (shows index order) p (drop p arcs)

-- the refusal with the position of an arc that cannot be placed, else a cursor of the ordering at the first arc
abbrev pub opened : {X : Type 0} → Bor Ordering → Option (ℕ × X) → Result HeldArcs Fault
opened o (Some q) = Err (EndUnplaced q.0)
opened o None = Ok (record { ordering = o; position = 0 })

-- a held arc as the cursor shows it
abbrev pub shown : {N E : Type 0} → Option (ℕ × Arc N E) → Option (HeldArc N E)
shown (Some q) = Some (record { position = q.0; arc = q.1 })
shown None = None

-- where a cursor that stood at the position p then stands: after the arc that it showed, or past the last of n arcs
abbrev pub position_after : {X : Type 0} → Option (ℕ × X) → ℕ → ℕ → ℕ
position_after (Some q) p n = q.0 + 1
position_after None p n = max p n
