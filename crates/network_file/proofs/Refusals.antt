-- What a refusal for a record tells.
use Rattle.std.proofs.Common.{◌≡◌, ℕ, zero, suc, ◌+◌, ◌*◌, ◌/◌, ◌%◌, ◌<◌, ◌≤◌, Bool, true, false, not, eqb, ltb, leb, ◌⊎◌, List, [], ◌∷◌, ◌++◌, length, get_or, take, Ok, Err, Result, sym, refl, ap, ◌∙◌, subst, inl, inr, append_assoc, arith}
use Rattle.std.specs.List.{ContainsAt as Has}
use Rattle.std.proofs.lemmas.List.{append-nil, length-take-le, get_or-take}
use Rattle.std.proofs.lemmas.Bool.{both_ways, not-true, not-false}
use Rattle.fault.specs.Faults.{number_of}
use Rattle.fault.specs.declared.Fault.{Fault}
use Rattle.fault.specs.declared.Fault.TheVariants.{FileTooLarge, FileLength, FileField, NodeRepeated, EndUnlisted}
use Rattle.network_file.specs.Checks.{expected, then, has, size_checked, table_checked, nodes_differ, ends_listed, checked}
use Rattle.network_file.specs.Fields.{field_at}
use Rattle.network_file.specs.Laws.{FirstRepeated, ends_of, FirstUnlisted}
use Rattle.network_file.specs.Reading.{node_count, arc_count, arcs_begin, nodes_of, arcs_of, contents_of}
use Rattle.network_file.specs.declared.arc.FileArc.{FileArc}
use Rattle.network_file.proofs.Granted.{holds}
use Rattle.network_file.proofs.Members.{Differ, has_tells, differ_push}

-- of two checks the first failed, or it was granted and the second failed
then_failed : {X : Type 0} (check : Result (Unit {0}) Fault) (next : Result X Fault) (fault : Fault) → then check next ≡ Err fault → (check ≡ Err fault) ⊎ ((check ≡ Ok tt) × (next ≡ Err fault))
then_failed (Ok granted) next fault e = inr (refl, e)
then_failed (Err f) next fault e = let same : f ≡ fault = cc in inl (ap Err same)

failed_with : (test : Bool) (fault f : Fault) → expected test fault ≡ Err f → (test ≡ false) × (fault ≡ f)
failed_with true fault f e = let z : ◌≡◌ {A = ℕ} 0 1 = cc in absurd (omega arith)
failed_with false fault f e = (refl, cc)

repeated_at : (seen : List ℕ) (at : ℕ) (xs : List ℕ) (place : ℕ) → Differ seen → nodes_differ seen at xs ≡ Err (NodeRepeated place) → (k : ℕ) × (place ≡ at + 4 * k) × (k < length xs) × Has (seen ++ take k xs) (get_or xs k 0) × Differ (seen ++ take k xs)
repeated_at seen at [] place differ e = let z : ◌≡◌ {A = ℕ} 0 1 = cc in absurd (omega arith)
repeated_at seen at (x ∷ xs) place differ e =
    elim (then_failed (expected (not (has seen x)) (NodeRepeated at)) (nodes_differ (seen ++ x ∷ []) (at + 4) xs) (NodeRepeated place) e) [
      | inl here ↦
          let failed = failed_with (not (has seen x)) (NodeRepeated at) (NodeRepeated place) here in
          let same : at ≡ place = cc failed.1 in
          let there : has seen x ≡ true = not-false (has seen x) failed.0 in
          let none = sym (append-nil seen) in
          (0, omega (arith, same), omega arith, subst (λ l. Has l x) none ((has_tells seen x).0 there), subst Differ none differ)
      | inr later ↦
          let new : has seen x ≡ false = not-true (has seen x) (holds (not (has seen x)) (NodeRepeated at) later.0) in
          let rest = repeated_at (seen ++ x ∷ []) (at + 4) xs place (differ_push seen x differ new) later.1 in
          let moved = append_assoc seen (x ∷ []) (take rest.0 xs) in
          (suc rest.0, omega (arith, rest.1), omega (arith, rest.2), subst (λ l. Has l (get_or xs rest.0 0)) moved rest.3, subst Differ moved rest.4)
    ]

after_one : (nodes : List ℕ) (s : ℕ) (ends : List ℕ) → Has nodes s → (i : ℕ) → i < 1 → Has nodes (get_or (s ∷ ends) i 0)
after_one nodes s ends listed zero less = listed
after_one nodes s ends listed (suc i) less = absurd (omega arith)

after_two : (nodes : List ℕ) (s t : ℕ) (ends : List ℕ) (k : ℕ) → Has nodes s → Has nodes t → ((i : ℕ) → i < k → Has nodes (get_or ends i 0)) → (i : ℕ) → i < suc (suc k) → Has nodes (get_or (s ∷ t ∷ ends) i 0)
after_two nodes s t ends k p q later zero less = p
after_two nodes s t ends k p q later (suc zero) less = q
after_two nodes s t ends k p q later (suc (suc i)) less = later i (omega arith)

unlisted_at : (nodes : List ℕ) (at : ℕ) (arcs : List FileArc) (place : ℕ) → ends_listed nodes at arcs ≡ Err (EndUnlisted place) → (k : ℕ) × (place ≡ at + 12 * (k / 2) + 4 * (k % 2)) × FirstUnlisted nodes (ends_of arcs) k
unlisted_at nodes at [] place e = let z : ◌≡◌ {A = ℕ} 0 1 = cc in absurd (omega arith)
unlisted_at nodes at (arc ∷ arcs) place e =
    elim (then_failed (expected (has nodes arc.source) (EndUnlisted at)) (then (expected (has nodes arc.target) (EndUnlisted (at + 4))) (ends_listed nodes (at + 12) arcs)) (EndUnlisted place) e) [
      | inl source ↦
          let failed = failed_with (has nodes arc.source) (EndUnlisted at) (EndUnlisted place) source in
          let same : at ≡ place = cc failed.1 in (
            0,
            omega (arith, same),
            record {
              within = omega arith;
              unlisted = λ there. both_ways (has nodes arc.source) failed.0 ((has_tells nodes arc.source).1 there);
              first = λ i less. absurd (omega arith);
            },
          )
      | inr later ↦
          let listed = (has_tells nodes arc.source).0 (holds (has nodes arc.source) (EndUnlisted at) later.0) in
          elim (then_failed (expected (has nodes arc.target) (EndUnlisted (at + 4))) (ends_listed nodes (at + 12) arcs) (EndUnlisted place) later.1) [
            | inl target ↦
                let failed = failed_with (has nodes arc.target) (EndUnlisted (at + 4)) (EndUnlisted place) target in
                let same : at + 4 ≡ place = cc failed.1 in (
                  1,
                  omega (arith, same),
                  record {
                    within = omega arith;
                    unlisted = λ there. both_ways (has nodes arc.target) failed.0 ((has_tells nodes arc.target).1 there);
                    first = after_one nodes arc.source (arc.target ∷ ends_of arcs) listed;
                  },
                )
            | inr rest ↦
                let target = (has_tells nodes arc.target).0 (holds (has nodes arc.target) (EndUnlisted (at + 4)) rest.0) in
                let found = unlisted_at nodes (at + 12) arcs place rest.1 in
                let k = found.0 in (
                  suc (suc k),
                  omega (arith, found.1),
                  record {
                    within = omega (arith, found.2.within);
                    unlisted = found.2.unlisted;
                    first = after_two nodes arc.source arc.target (ends_of arcs) k listed target found.2.first;
                  },
                )
          ]
    ]

-- the checks before those of the records have numbers below 10
Low : Result (Unit {0}) Fault → Type 0
Low check = (f : Fault) → check ≡ Err f → number_of f < 10

low_expected : (test : Bool) (fault : Fault) → number_of fault < 10 → Low (expected test fault)
unfolding Low
low_expected test fault low f e = subst (λ g. number_of g < 10) (failed_with test fault f e).1 low

low_then : (check next : Result (Unit {0}) Fault) → Low check → Low next → Low (then check next)
unfolding Low
low_then check next p q f e = elim (then_failed check next f e) [ inl here ↦ p f here | inr later ↦ q f later.1 ]

low_size : (bytes : List ℕ) → Low (size_checked bytes)
unfolding size_checked
low_size bytes = low_then _ _ (low_expected (ltb (length bytes) 65536) FileTooLarge (omega arith)) (low_expected (leb 16 (length bytes)) (FileLength (length bytes)) (omega arith))

low_table : (bytes : List ℕ) → Low (table_checked bytes)
unfolding table_checked
low_table bytes =
    low_then _ _ (low_expected (eqb (field_at bytes 0) 16) (FileField 0) (omega arith))
    (low_then _ _ (low_expected (leb (node_count bytes) 4096) (FileField 4) (omega arith))
    (low_then _ _ (low_expected (eqb (field_at bytes 8) (16 + 4 * node_count bytes)) (FileField 8) (omega arith))
    (low_then _ _ (low_expected (leb (arc_count bytes) 32768) (FileField 12) (omega arith))
    (low_expected (eqb (length bytes) (16 + 4 * node_count bytes + 12 * arc_count bytes)) (FileLength (length bytes)) (omega arith)))))

ten_for_nodes : (seen : List ℕ) (at : ℕ) (xs : List ℕ) (f : Fault) → nodes_differ seen at xs ≡ Err f → number_of f ≡ 10
ten_for_nodes seen at [] f e = let z : ◌≡◌ {A = ℕ} 0 1 = cc in absurd (omega arith)
ten_for_nodes seen at (x ∷ xs) f e =
    elim (then_failed (expected (not (has seen x)) (NodeRepeated at)) (nodes_differ (seen ++ x ∷ []) (at + 4) xs) f e) [
      | inl here ↦ ap number_of (sym (failed_with (not (has seen x)) (NodeRepeated at) f here).1)
      | inr later ↦ ten_for_nodes (seen ++ x ∷ []) (at + 4) xs f later.1
    ]

eleven_for_ends : (nodes : List ℕ) (at : ℕ) (arcs : List FileArc) (f : Fault) → ends_listed nodes at arcs ≡ Err f → number_of f ≡ 11
eleven_for_ends nodes at [] f e = let z : ◌≡◌ {A = ℕ} 0 1 = cc in absurd (omega arith)
eleven_for_ends nodes at (arc ∷ arcs) f e =
    elim (then_failed (expected (has nodes arc.source) (EndUnlisted at)) (then (expected (has nodes arc.target) (EndUnlisted (at + 4))) (ends_listed nodes (at + 12) arcs)) f e) [
      | inl here ↦ ap number_of (sym (failed_with (has nodes arc.source) (EndUnlisted at) f here).1)
      | inr later ↦
          elim (then_failed (expected (has nodes arc.target) (EndUnlisted (at + 4))) (ends_listed nodes (at + 12) arcs) f later.1) [
            | inl there ↦ ap number_of (sym (failed_with (has nodes arc.target) (EndUnlisted (at + 4)) f there).1)
            | inr rest ↦ eleven_for_ends nodes (at + 12) arcs f rest.1
          ]
    ]

-- a fault with a number from 10 on comes from a record
from_records : (bytes : List ℕ) (f : Fault) → 10 ≤ number_of f → checked bytes ≡ Err f → (nodes_differ [] 16 (nodes_of bytes) ≡ Err f) ⊎ (ends_listed (nodes_of bytes) (arcs_begin bytes) (arcs_of bytes) ≡ Err f)
unfolding checked Low
from_records bytes f high e =
    elim (then_failed (size_checked bytes) (then (table_checked bytes) (then (nodes_differ [] 16 (nodes_of bytes)) (then (ends_listed (nodes_of bytes) (arcs_begin bytes) (arcs_of bytes)) (Ok (contents_of bytes))))) f e) [
      | inl size ↦ absurd (omega (arith, low_size bytes f size))
      | inr p ↦
          elim (then_failed (table_checked bytes) (then (nodes_differ [] 16 (nodes_of bytes)) (then (ends_listed (nodes_of bytes) (arcs_begin bytes) (arcs_of bytes)) (Ok (contents_of bytes)))) f p.1) [
            | inl table ↦ absurd (omega (arith, low_table bytes f table))
            | inr q ↦
                elim (then_failed (nodes_differ [] 16 (nodes_of bytes)) (then (ends_listed (nodes_of bytes) (arcs_begin bytes) (arcs_of bytes)) (Ok (contents_of bytes))) f q.1) [
                  | inl nodes ↦ inl nodes
                  | inr r ↦
                      elim (then_failed (ends_listed (nodes_of bytes) (arcs_begin bytes) (arcs_of bytes)) (Ok (contents_of bytes)) f r.1) [
                        | inl ends ↦ inr ends
                        | inr s ↦ let z : ◌≡◌ {A = ℕ} 0 1 = cc s.1 in absurd (omega arith)
                      ]
                ]
          ]
    ]

pub first_repeated : (bytes : List ℕ) (place : ℕ) → checked bytes ≡ Err (NodeRepeated place) → (k : ℕ) × (place ≡ 16 + 4 * k) × FirstRepeated (nodes_of bytes) k
first_repeated bytes place e =
    elim (from_records bytes (NodeRepeated place) (omega arith) e) [
      | inl nodes ↦
          let found = repeated_at [] 16 (nodes_of bytes) place (λ i j before within same. absurd (omega arith)) nodes in
          let k = found.0 in (
            k,
            found.1,
            record {
              within = found.2;
              repeats = found.3;
              first = λ i j before less same.
                  let n = length-take-le k (nodes_of bytes) (omega (arith, found.2)) in
                  found.4 i j before (omega (arith, n)) (get_or-take k (nodes_of bytes) i 0 (omega arith) ∙ (same ∙ sym (get_or-take k (nodes_of bytes) j 0 less)));
            },
          )
      | inr ends ↦ absurd (omega (arith, eleven_for_ends (nodes_of bytes) (arcs_begin bytes) (arcs_of bytes) (NodeRepeated place) ends))
    ]

pub first_unlisted : (bytes : List ℕ) (place : ℕ) → checked bytes ≡ Err (EndUnlisted place) → (k : ℕ) × (place ≡ arcs_begin bytes + 12 * (k / 2) + 4 * (k % 2)) × FirstUnlisted (nodes_of bytes) (ends_of (arcs_of bytes)) k
first_unlisted bytes place e =
    elim (from_records bytes (EndUnlisted place) (omega arith) e) [
      | inl nodes ↦ absurd (omega (arith, ten_for_nodes [] 16 (nodes_of bytes) (EndUnlisted place) nodes))
      | inr ends ↦ unlisted_at (nodes_of bytes) (arcs_begin bytes) (arcs_of bytes) place ends
    ]
