-- A run of a list and then of another, and the places, which no edit changes.
use Rattle.std.proofs.Common.{◌≡◌, ℕ, ◌+◌, Bool, true, false, cond, ◌||◌, ltb, leb, List, [], ◌∷◌, ◌++◌, length, Some, None, Option, refl, ap, ◌∙◌, arith}
use Rattle.map_model.specs.declared.Edit.{Edit}
use Rattle.map_model.specs.declared.Edit.TheVariants.{AddNode, AddEdge, RemoveNode, RemoveEdge}
use Rattle.map_model.specs.Lists.{has}
use Rattle.map_model.specs.Model.{Model, named, weight_at, new_keys, edge_put_at, edited, run, answers}

-- the places of one map are those of another
pub record SamePlaces {N E : Type 0} (m m' : Model N E) : Type 0 where
  pub nodes : m'.node_places ≡ m.node_places
  pub arcs : m'.arc_places ≡ m.arc_places

module _ {N E : Type 0} where
  -- one of two maps that have the places of m, by a test
  cond_places : {R : Type 0} (m : Model N E) (b : Bool) (x y : R × Model N E) → SamePlaces m x.1 → SamePlaces m y.1 → SamePlaces m (cond b x y).1
  cond_places m true x y p q = p
  cond_places m false x y p q = q

  same : (m : Model N E) → SamePlaces m m
  same m = record { nodes = refl; arcs = refl }

  put_places : (m : Model N E) (a b : N) (i j : ℕ) (w : E) (o : Option E) → SamePlaces m (edge_put_at m a i b j w o).1
  put_places m a b i j w (Some old) = record { nodes = refl; arcs = refl }
  put_places m a b i j w None =
      cond_places m (leb (length m.nodes + new_keys i j m.nodes) m.node_places) _ _
      (cond_places m (ltb (length m.arcs) m.arc_places) _ _ (record { nodes = refl; arcs = refl }) (same m)) (same m)

  pub places_edited : (ix : N → ℕ) (m : Model N E) (e : Edit N E) → SamePlaces m (edited ix m e).1
  places_edited ix m (AddNode n) = cond_places m (has (named (ix n)) m.nodes || ltb (length m.nodes) m.node_places) _ _ (record { nodes = refl; arcs = refl }) (same m)
  places_edited ix m (AddEdge a b w) = put_places m a b (ix a) (ix b) w (weight_at (ix a) (ix b) m.arcs)
  places_edited ix m (RemoveNode n) = cond_places m (has (named (ix n)) m.nodes) _ _ (record { nodes = refl; arcs = refl }) (same m)
  places_edited ix m (RemoveEdge a b) = record { nodes = refl; arcs = refl }

  pub places_run : (ix : N → ℕ) (m : Model N E) (es : List (Edit N E)) → SamePlaces m (run ix m es)
  places_run ix m [] = same m
  places_run ix m (e ∷ es) =
      let p = places_edited ix m e in
      let q = places_run ix (edited ix m e).1 es in
      record { nodes = q.nodes ∙ p.nodes; arcs = q.arcs ∙ p.arcs }

  pub run_append : (ix : N → ℕ) (m : Model N E) (es fs : List (Edit N E)) → run ix m (es ++ fs) ≡ run ix (run ix m es) fs
  run_append ix m [] fs = refl
  run_append ix m (e ∷ es) fs = run_append ix (edited ix m e).1 es fs

  pub answers_append : (ix : N → ℕ) (m : Model N E) (es fs : List (Edit N E)) → answers ix m (es ++ fs) ≡ answers ix m es ++ answers ix (run ix m es) fs
  answers_append ix m [] fs = refl
  answers_append ix m (e ∷ es) fs = ap (λ t. (edited ix m e).0 ∷ t) (answers_append ix (edited ix m e).1 es fs)

  pub length_answers : (ix : N → ℕ) (m : Model N E) (es : List (Edit N E)) → length (answers ix m es) ≡ length es
  length_answers ix m [] = refl
  length_answers ix m (e ∷ es) = let ih = length_answers ix (edited ix m e).1 es in omega arith
