-- What a graph map holds after a call.
use Rattle.std.proofs.Common.{◌≡◌, ◌+◌, ◌^◌, ◌<◌, ◌≤◌, ap, arith}
use mathlib.Core.Logic.{∥∥₁_map, ∥∥₁_elim}
use native.Mathlib.Bridge.{le_prop}
use base.Stored.{Coded, Coded-set}
use Rattle.map_model.specs.Model.{Model}
use Rattle.map_layout.specs.Layout.{State, model}
use Rattle.map_layout.specs.Edits.{Good}
use Rattle.map_layout.proofs.Codes.{coded_model}
use Rattle.map_layout.proofs.Editing.{Edited}
use Rattle.graphmap.specs.declared.tables.Tables.{Tables}
use Rattle.graphmap.specs.States.{state}

module _ {N E : Type 0} (st : State N E) (good : ∥ Good st ∥₁) where
  -- the facts of the struct, in their sequence
  pub kept : (t : Tables N E) (m : Model N E) → st.arc_places ≤ 16384 → m.arc_places ≡ st.arc_places → (Good st → Edited (state t) m)
      → ((state t).arc_places ≤ 16384) × ∥ Good (state t) ∥₁
  kept t m few same done =
      (∥∥₁_elim good le_prop (λ k. let e = ap (λ (z : Model N E). z.arc_places) (done k).shown in omega arith), ∥∥₁_map good (λ k. (done k).good))

  pub shows : (st' : State N E) (m : Model N E) → Coded N → Coded E → (Good st → Edited st' m) → model st' ≡ m
  shows st' m n e done = ∥∥₁_elim good (Coded-set (coded_model n e) (model st') m) (λ k. (done k).shown)

  -- a fresh place fits
  pub fits : st.arc_places ≤ 16384 → st.fresh + 2 < 2 ^ 32
  fits few = ∥∥₁_elim good le_prop (λ k. let e = k.rep.enough in omega arith)
