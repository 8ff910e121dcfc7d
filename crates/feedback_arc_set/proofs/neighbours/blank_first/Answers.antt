use Rattle.std.proofs.Common.{◌≡◌, ℕ, zero, suc, ◌++◌, ◌<◌, length, List, [], ◌∷◌, take, drop, replicate, refl, ap, ◌∙◌, ⊎_elim, arith}
use Rattle.std.proofs.lemmas.List.{get_or_past}
use Rattle.std.proofs.lemmas.Bool.{cases_lt}
use Rattle.feedback_arc_set.specs.declared.places.NeighbourPlace.{NeighbourPlace}
use Rattle.feedback_arc_set.specs.Nodes.{BlankFrom, blank_neighbour}
use Rattle.feedback_arc_set.proofs.Reading.{all_blank}
use Rattle.feedback_arc_set.proofs.neighbours.blank_first.Goals as goal

blanked : (ps : List NeighbourPlace) (n : ℕ) → BlankFrom ps n → replicate (length (take n ps)) blank_neighbour ++ drop n ps ≡ replicate (length ps) blank_neighbour
blanked [] zero h = refl
blanked [] (suc n) h = refl
blanked (p ∷ ps) zero h = all_blank (p ∷ ps) _ blank_neighbour refl (λ k. h k (omega arith))
blanked (p ∷ ps) (suc n) h = ap (λ l. blank_neighbour ∷ l) (blanked ps n (λ k l. h (suc k) (omega arith)))

pub returns : goal.returns
returns c = λ h.
    let n = c.min-count.ensures in
    ap (λ l. l ++ drop c.min-count.result c.args.places.now) (c.fill.ensures.after (λ y e. e) ∙ ap (replicate (length (take c.min-count.result c.args.places.now))) c.blank.ensures)
    ∙ blanked c.args.places.now c.min-count.result (λ k l. ⊎_elim (λ (b : k < c.args.count). get_or_past c.args.places.now k blank_neighbour (omega arith)) (h k) (cases_lt k c.args.count))
