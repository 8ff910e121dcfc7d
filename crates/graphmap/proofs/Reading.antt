-- What stands at a position of a list that was made from another one.
use Rattle.std.proofs.Common.{◌≡◌, ℕ, inl, inr, ◌+◌, ◌^◌, ◌<◌, true, cond, is_some, List, map, length, Some, None, Ok, Err, Option, Result, MatchOption, sym, ap, ◌∙◌, arith, rules}
use mathlib.Core.List.{map-map}
use Rattle.std.proofs.lemmas.List.{length-map}
use Rattle.std.proofs.lemmas.Bool.{true≢false}
use Rattle.std.proofs.lemmas.Option.{slice_get-map, slice_get_cases}
use Rattle.std.specs.Iterator.{YieldsFirst, MakesProgress, item_count}
use Rattle.std.specs.Prelude.{⊤}
use Rattle.std.specs.Option.{option_map, IsSomeAnd}
use Rattle.std.specs.Result.{MatchResult, IsOkAnd, IsErrAnd, is_ok}
use Rattle.std.specs.List.{slice_get}
use Rattle.map_model.specs.Model.{Node, Model}
use Rattle.map_model.specs.Shown.{all_edges_shown, triple}
use Rattle.graphmap.specs.Sources.{shown_arc, arcs_shown}

pub nth_map_twice : {X Y Z : Type 0} (h : Y → Z) (f : X → Y) (l : List X) (i : ℕ) → slice_get (map h (map f l)) i ≡ option_map (λ x. h (f x)) (slice_get l i)
nth_map_twice h f l i = ap (λ z. slice_get z i) (map-map h f l) ∙ slice_get-map (λ x. h (f x)) l i

-- an iterator that gives what is left, first to last, makes progress
pub progress : {S A : Type 0} (rest : S → List A) (s : S) (r : Option A) (t : S) → YieldsFirst rest s r t → MakesProgress (λ _. ⊤) (item_count rest) s r t
progress rest s None t h = search rules
progress rest s (Some x) t h = let shorter = ap length h in search rules

-- what `map` makes of an option, by a closure that computes f
pub mapped : {X Y : Type 0} (f : X → Y) (o : Option X) (r : Option Y) {R : X → Y → Type 0} → MatchOption o (r ≡ None) (λ x. IsSomeAnd r (R x)) → ((x : X) (y : Y) → R x y → y ≡ f x) → r ≡ option_map f o
mapped f None r e k = e
mapped f (Some x) (Some y) e k = ap Some (k x y e)
mapped f (Some x) None e k = absurd e

-- what `map` and then `map_err` make of an answer, by closures that give y and f
pub mapped_both : {X Y E F : Type 0} (y : Y) (f : F) (o : Result X E) (m : Result Y E) (r : Result Y F) {P : X → Y → Type 0} {Q : E → F → Type 0}
    → MatchResult o (λ x. IsOkAnd m (P x)) (λ e. m ≡ Err e) → ((x : X) (z : Y) → P x z → z ≡ y) → MatchResult m (λ z. r ≡ Ok z) (λ e. IsErrAnd r (Q e)) → ((e : E) (z : F) → Q e z → z ≡ f)
    → r ≡ cond (is_ok o) (Ok y) (Err f)
mapped_both y f (Ok x) (Ok z) r h k l n = l ∙ ap Ok (k x z h)
mapped_both y f (Ok x) (Err e) r h k l n = absurd h
mapped_both y f (Err e) (Ok z) r h k l n = absurd (let q : ◌≡◌ {A = ℕ} 0 1 = cc in omega arith)
mapped_both y f (Err e) (Err d) (Err z) h k l n = ap Err (n d z l)
mapped_both y f (Err e) (Err d) (Ok z) h k l n = absurd l

-- a position at which something stands in a short list
pub position_fits : {X Y : Type 0} (f : X → Y) (l : List X) (i : ℕ) (r : Option Y) → r ≡ option_map f (slice_get l i) → length l < 2 ^ 32 → is_some r ≡ true → i + 1 < 2 ^ 32
position_fits f l i r e h s = elim (slice_get_cases l i).1 [
  | inl w ↦ (let k = w.1 in omega arith)
  | inr w ↦ absurd (let n : r ≡ None = e ∙ ap (option_map f) w.1 in true≢false (sym s ∙ ap is_some n))
]

abbrev pub shown_key : {N : Type 0} → Node N → N
shown_key x = x.key

module _ {N E : Type 0} (m : Model N E) where
  pub many_arcs_shown : length (arcs_shown m) ≡ length m.arcs
  many_arcs_shown = length-map (all_edges_shown m) shown_arc ∙ length-map m.arcs triple

  pub arc_shown_at : (i : ℕ) → slice_get (arcs_shown m) i ≡ option_map shown_arc (slice_get (all_edges_shown m) i)
  arc_shown_at i = slice_get-map shown_arc (all_edges_shown m) i
