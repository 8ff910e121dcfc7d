-- The checks of the records, as facts on lists: nodes that differ, and ends that are listed.
use Rattle.std.proofs.Common.{◌≡◌, ℕ, ◌+◌, ◌<◌, false, eqb, List, [], ◌∷◌, ◌++◌, length, get_or, Ok, Decides, sym, refl, ◌∙◌, subst, inl, inr, append_assoc, arith, length-append}
use Rattle.std.specs.List.{ContainsAt as Has, AllByRecursion}
use Rattle.std.proofs.lemmas.List.{append-nil, get_or_append_left, get_or_at, get_or_default, length_push}
use Rattle.std.proofs.lemmas.Bool.{cases_Bool, cases_lt, not-true, both_ways}
use Rattle.std.proofs.lemmas.Bool.Decides.{Decides-by_or, Decides-eqb}
use Rattle.network_file.specs.Checks.{has, nodes_differ, ends_listed}
use Rattle.network_file.specs.declared.arc.FileArc.{FileArc}
use Rattle.network_file.proofs.Granted.{then_granted, holds}

pub has_tells : (xs : List ℕ) (x : ℕ) → Decides (has xs x) (Has xs x)
has_tells xs x = Decides-by_or (λ y. eqb y x) (λ y. y ≡ x) (λ l. has l x) (λ y. Decides-eqb y x) refl (λ _ _. refl) xs

abbrev pub Differ : List ℕ → Type 0
Differ xs = (i j : ℕ) → i < j → j < length xs → get_or xs i 0 ≡ get_or xs j 0 → ⊥

-- a node that follows nodes from which it differs is not among them
not_seen : (seen : List ℕ) (x : ℕ) (xs : List ℕ) → Differ (seen ++ x ∷ xs) → has seen x ≡ false
not_seen seen x xs differ =
    elim (cases_Bool (has seen x)) [
      | inl among ↦
          let found = (has_tells seen x).0 among in
          let there = get_or_append_left seen (x ∷ xs) 0 found.0 found.1 in
          let here = get_or_at seen x xs 0 (length seen) refl in
          let len = length-append seen (x ∷ xs) in
          absurd (differ found.0 (length seen) found.1 (omega arith) (there ∙ (found.2 0 ∙ sym here)))
      | inr none ↦ none
    ]

pub differ_granted : (seen : List ℕ) (at : ℕ) (xs : List ℕ) → Differ (seen ++ xs) → nodes_differ seen at xs ≡ Ok tt
differ_granted seen at [] differ = refl
differ_granted seen at (x ∷ xs) differ =
    let new = not_seen seen x xs differ in
    let moved = append_assoc seen (x ∷ []) xs in
    rw new (differ_granted (seen ++ x ∷ []) (at + 4) xs (subst Differ (sym moved) differ))

-- nodes that differ, and one more that is not among them
pub differ_push : (seen : List ℕ) (x : ℕ) → Differ seen → has seen x ≡ false → Differ (seen ++ x ∷ [])
differ_push seen x differ new i j before within same =
    let len = length_push seen x in
    let left = get_or_append_left seen (x ∷ []) 0 i (omega arith) in
    elim (cases_lt j (length seen)) [
      | inl lt ↦ differ i j before lt (sym left ∙ (same ∙ get_or_append_left seen (x ∷ []) 0 j lt))
      | inr ge ↦
          let last : j ≡ length seen = omega arith in
          let here = get_or_at seen x [] 0 j (sym last) in
          let found : Has seen x = (i, omega arith, λ d. get_or_default seen i d 0 (omega arith) ∙ (sym left ∙ (same ∙ here))) in
          both_ways (has seen x) new ((has_tells seen x).1 found)
    ]

pub granted_differ : (seen : List ℕ) (at : ℕ) (xs : List ℕ) → Differ seen → nodes_differ seen at xs ≡ Ok tt → Differ (seen ++ xs)
granted_differ seen at [] differ e = subst Differ (sym (append-nil seen)) differ
granted_differ seen at (x ∷ xs) differ e =
    let parts = then_granted _ _ tt e in
    let new = not-true (has seen x) (holds _ _ parts.0) in
    subst Differ (append_assoc seen (x ∷ []) xs) (granted_differ (seen ++ x ∷ []) (at + 4) xs (differ_push seen x differ new) parts.1)

abbrev pub Listed : List ℕ → List FileArc → Type 0
Listed nodes arcs = AllByRecursion (λ a. Has nodes a.source × Has nodes a.target) arcs

pub listed_granted : (nodes : List ℕ) (at : ℕ) (arcs : List FileArc) → Listed nodes arcs → ends_listed nodes at arcs ≡ Ok tt
listed_granted nodes at [] listed = refl
listed_granted nodes at (arc ∷ arcs) listed =
    let source = (has_tells nodes arc.source).1 listed.0.0 in
    let target = (has_tells nodes arc.target).1 listed.0.1 in
    rw (source, target) (listed_granted nodes (at + 12) arcs listed.1)

pub granted_listed : (nodes : List ℕ) (at : ℕ) (arcs : List FileArc) → ends_listed nodes at arcs ≡ Ok tt → Listed nodes arcs
granted_listed nodes at [] e = tt
granted_listed nodes at (arc ∷ arcs) e =
    let a = then_granted _ _ tt e in
    let b = then_granted _ _ tt a.1 in
    (((has_tells nodes arc.source).0 (holds _ _ a.0), (has_tells nodes arc.target).0 (holds _ _ b.0)), granted_listed nodes (at + 12) arcs b.1)
