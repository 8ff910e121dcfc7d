-- One edit more of a list.
use Rattle.std.proofs.Common.{◌≡◌, ℕ, ◌+◌, ◌<◌, ◌≤◌, List, [], ◌∷◌, ◌++◌, length, get_or, take, drop, set, Some, sym, refl, ap, ◌∙◌, append_assoc, append-nil, arith}
use Rattle.std.proofs.lemmas.List.{drop_more, drop-set-lt, take_more_set, take_all, drop_all, drop-drop, length-set, get_or-drop}
use Rattle.map_model.specs.declared.Answer.{Answer}
use Rattle.map_model.specs.Model.{Model, edited, run, answers}
use Rattle.replay.specs.declared.step.Step.{Step}
use Rattle.replay.specs.Steps.{edits_of, recorded}

abbrev pub replayed : {N E : Type 0} → (N → ℕ) → Model N E → List (Step N E) → List (Step N E)
replayed ix m ss = recorded (edits_of ss) (answers ix m (edits_of ss))

-- the first i edits of s₀ were made on m₀, which led to m, and the list is now s
pub record Going {N E : Type 0} (ix : N → ℕ) (m₀ : Model N E) (s₀ : List (Step N E)) (m : Model N E) (s : List (Step N E)) (i : ℕ) : Type 0 where
  pub long : length s ≡ length s₀
  pub left : drop i s ≡ drop i s₀
  pub maps : run ix m (edits_of (drop i s₀)) ≡ run ix m₀ (edits_of s₀)
  pub steps : take i s ++ replayed ix m (drop i s₀) ≡ replayed ix m₀ s₀

module _ {N E : Type 0} (ix : N → ℕ) (m₀ : Model N E) (s₀ : List (Step N E)) where
  pub going_none : Going ix m₀ s₀ m₀ s₀ 0
  going_none = record { long = refl; left = refl; maps = refl; steps = refl }

  -- what stands at i is still the step that was given
  pub going_at : (m : Model N E) (s : List (Step N E)) (i : ℕ) (d : Step N E) → Going ix m₀ s₀ m s i → get_or s i d ≡ get_or s₀ i d
  going_at m s i d g =
      let a : get_or (drop i s) 0 d ≡ get_or s (i + 0) d = get_or-drop i s 0 d in
      let b : get_or (drop i s₀) 0 d ≡ get_or s₀ (i + 0) d = get_or-drop i s₀ 0 d in
      let c = ap (λ l. get_or l 0 d) g.left in
      let z : i + 0 ≡ i = omega arith in
      ap (λ k. get_or s k d) (sym z) ∙ sym a ∙ c ∙ b ∙ ap (λ k. get_or s₀ k d) z

  pub going_more : (m m' : Model N E) (s : List (Step N E)) (i : ℕ) (x d : Step N E) (r : Answer N E) → i < length s₀ → Going ix m₀ s₀ m s i
      → x ≡ get_or s₀ i d → r ≡ (edited ix m x.edit).0 → m' ≡ (edited ix m x.edit).1
      → Going ix m₀ s₀ m' (set s i (record { edit = x.edit; answer = Some r })) (i + 1)
  going_more m m' s i x d r h g e er em =
      let y : Step N E = record { edit = x.edit; answer = Some r } in
      let lt : i < length s = omega (arith, g.long) in
      let up : i < i + 1 = omega arith in
      let c : drop i s₀ ≡ x ∷ drop (i + 1) s₀ = drop_more s₀ i d h ∙ ap (λ v. v ∷ drop (i + 1) s₀) (sym e) in
      let one : drop 1 (drop i s) ≡ drop (i + 1) s = drop-drop 1 i s in
      let two : drop 1 (drop i s₀) ≡ drop (i + 1) s₀ = drop-drop 1 i s₀ in
      let t : take (i + 1) (set s i y) ≡ take i s ++ y ∷ [] = take_more_set s i y lt in
      let rest : replayed ix m (x ∷ drop (i + 1) s₀) ≡ y ∷ replayed ix m' (drop (i + 1) s₀) =
      ap (λ v. record { edit = x.edit; answer = Some v } ∷ replayed ix (edited ix m x.edit).1 (drop (i + 1) s₀)) (sym er)
      ∙ ap (λ v. y ∷ replayed ix v (drop (i + 1) s₀)) (sym em) in
      record {
        long = length-set s i y ∙ g.long;
        left = drop-set-lt (i + 1) s i y up ∙ sym one ∙ ap (drop 1) g.left ∙ two;
        maps = ap (λ v. run ix v (edits_of (drop (i + 1) s₀))) em ∙ ap (λ l. run ix m (edits_of l)) (sym c) ∙ g.maps;
        steps = ap (λ l. l ++ replayed ix m' (drop (i + 1) s₀)) t ∙ append_assoc (take i s) (y ∷ []) _ ∙ ap (λ l. take i s ++ l) (sym rest)
            ∙ ap (λ l. take i s ++ replayed ix m l) (sym c) ∙ g.steps;
      }

  pub going_all : (m : Model N E) (s : List (Step N E)) (i : ℕ) → length s₀ ≤ i → Going ix m₀ s₀ m s i → (s ≡ replayed ix m₀ s₀) × (m ≡ run ix m₀ (edits_of s₀))
  going_all m s i h g =
      let le : length s ≤ i = omega (arith, g.long) in
      let d : drop i s₀ ≡ [] = drop_all i s₀ h in
      let k : take i s ≡ s = take_all i s le in (
        sym (append-nil s) ∙ ap (λ l. l ++ []) (sym k) ∙ ap (λ l. take i s ++ replayed ix m l) (sym d) ∙ g.steps,
        ap (λ l. run ix m (edits_of l)) (sym d) ∙ g.maps,
      )
