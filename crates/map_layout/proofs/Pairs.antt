-- The number of an arc says its two ends; the places of its two links are next to each other.
use Rattle.std.proofs.Common.{◌≡◌, ℕ, ◌+◌, ◌-◌, ◌/◌, ◌%◌, ◌^◌, ◌<◌, ◌&&◌, eqb, ◌≢◌, sym, ◌∙◌, ⊎_elim, arith}
use Rattle.std.proofs.lemmas.Bool.{cases_eq, eq-eqb, ne_eqb, and_from, and_left, and_right, cond-true, cond-false}
use Rattle.keys.specs.Numbers.{pair_number}
use Rattle.network.specs.declared.direction.CompactDirection.TheVariants.{Outgoing, Incoming}
use Rattle.map_model.specs.Model.{between}
use Rattle.map_layout.specs.Layout.{partner, direction_at, ArcItem, arc_in, numbered}

pub pair_test : (n i j : ℕ) → j < 2 ^ 32 → (eqb (n / 2 ^ 32) i && eqb (n % 2 ^ 32) j) ≡ eqb n (pair_number i j)
pair_test n i j h =
    ⊎_elim
    (λ (e : n ≡ pair_number i j).
    and_from (eqb (n / 2 ^ 32) i) (eqb (n % 2 ^ 32) j) (eq-eqb (n / 2 ^ 32) i (omega arith)) (eq-eqb (n % 2 ^ 32) j (omega arith)) ∙ sym (eq-eqb n (pair_number i j) e))
    (λ (e : n ≢ pair_number i j).
    ⊎_elim
    (λ (a : n / 2 ^ 32 ≡ i). and_right (eqb (n / 2 ^ 32) i) (eqb (n % 2 ^ 32) j) (ne_eqb (n % 2 ^ 32) j (λ b. e (omega arith))))
    (λ (a : n / 2 ^ 32 ≢ i). and_left (eqb (n / 2 ^ 32) i) (eqb (n % 2 ^ 32) j) (ne_eqb (n / 2 ^ 32) i a))
    (cases_eq (n / 2 ^ 32) i)
    ∙ sym (ne_eqb n (pair_number i j) e))
    (cases_eq n (pair_number i j))

-- an arc is looked for by its number
pub between_number : {N E : Type 0} (i j : ℕ) → j < 2 ^ 32 → (y : ArcItem N E) → between i j (arc_in y) ≡ numbered (pair_number i j) y
between_number i j h y = pair_test y.number i j h

pub pair_source : (i j : ℕ) → j < 2 ^ 32 → pair_number i j / 2 ^ 32 ≡ i
pair_source i j h = omega arith

pub pair_target : (i j : ℕ) → j < 2 ^ 32 → pair_number i j % 2 ^ 32 ≡ j
pair_target i j h = omega arith

-- ---- places
pub partner_even : (p : ℕ) → p % 2 ≡ 0 → partner p ≡ p + 1
partner_even p e = cond-true (eqb (p % 2) 0) (p + 1) (p - 1) (eq-eqb (p % 2) 0 e)

pub partner_odd : (p : ℕ) → p % 2 ≢ 0 → partner p ≡ p - 1
partner_odd p e = cond-false (eqb (p % 2) 0) (p + 1) (p - 1) (ne_eqb (p % 2) 0 e)

pub even_out : (p : ℕ) → p % 2 ≡ 0 → direction_at p ≡ Outgoing
even_out p e = cond-true (eqb (p % 2) 0) Outgoing Incoming (eq-eqb (p % 2) 0 e)

pub odd_in : (p : ℕ) → p % 2 ≢ 0 → direction_at p ≡ Incoming
odd_in p e = cond-false (eqb (p % 2) 0) Outgoing Incoming (ne_eqb (p % 2) 0 e)
