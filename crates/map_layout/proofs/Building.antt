-- A map just built.
use Rattle.std.proofs.Common.{◌≡◌, ℕ, suc, ◌*◌, ◌≤◌, List, [], length, None, Option, sym, ap, ◌∙◌, subst, arith}
use Rattle.std.proofs.lemmas.Bool.{false≢true}
use Rattle.linked_list.specs.Places.{Position}
use Rattle.linked_list.specs.Chains.{has, Holds, entries_of}
use Rattle.linked_list.proofs.Linking.{holds_read, holds_none}
use Rattle.map_model.proofs.Running.{sound_built}
use Rattle.map_layout.specs.declared.records.IndexedKey.{IndexedKey}
use Rattle.map_layout.specs.Layout.{of_unused, of_node, Owns, Idle, Lists, Rep}
use Rattle.map_layout.specs.Edits.{Good, empty}

module _ (N E : Type 0) (cs : List (Option (IndexedKey N))) (L : List Position) (n m : ℕ) where
  start_none : (k : ℕ) (s : Option ℕ) → Lists (empty {N = N} {E = E} cs L n m) k s → s ≡ None
  start_none k s (of_unused e f) = f
  start_none k s (of_node x a e f) = absurd a

  none_read : entries_of L None ≡ []
  none_read = holds_read L None [] (holds_none L)

  no_entry : (k p : ℕ) → Owns (Lists (empty {N = N} {E = E} cs L n m)) L k p → ⊥
  no_entry k p o = false≢true (sym (ap (λ z. has z p) (ap (entries_of L) (start_none k o.start o.begins) ∙ none_read)) ∙ o.has_it)

  empty_rep : ((p : ℕ) → Idle L p) → 2 * m ≤ length L → length cs ≡ length L → Rep (empty {N = N} {E = E} cs L n m)
  empty_rep idle room level = record {
    one_item = λ i. omega arith;
    held = record {
      each = λ k s b. subst (λ z. Holds L z (entries_of L z)) (sym (start_none k s b)) (subst (Holds L None) (sym none_read) (holds_none L));
      apart = λ j k s t b c ne x e f. let a = start_none j s b in let z : ◌≡◌ {A = ℕ} 0 1 = cc in omega arith;
    };
    oldest = λ x a. absurd a;
    paired = λ i p o. absurd (no_entry (suc i) p o);
    seated = λ y a. absurd a;
    spare = λ p h. absurd (false≢true (sym (ap (λ z. has z p) none_read) ∙ h));
    idle = λ p h. idle p;
    places = (let e = ap length none_read in omega arith);
    enough = omega arith;
    roomy = room;
    level = level;
  }

  pub empty_good : ((p : ℕ) → Idle L p) → 2 * m ≤ length L → length cs ≡ length L → Good (empty {N = N} {E = E} cs L n m)
  empty_good idle room level = record { rep = empty_rep idle room level; sound = sound_built n m }
