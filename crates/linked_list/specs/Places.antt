-- The parts of a position, and what one write changes.
use Rattle.std.specs.Prelude.{◌≡◌, ℕ, Bool, false, List, Some, None, Option, ◌==◌, slice_index_or, slice_set}
use Rattle.std.specs.Option.{is_some, option_map}
use Rattle.linked_list.specs.declared.position.LinkedListPosition.{LinkedListPosition}

-- where an entry stands; None in no list
abbrev pub Position : Type 0
Position = Option LinkedListPosition

-- in a list, after p and before n
abbrev pub enlisted : Option ℕ → Option ℕ → Position
enlisted p n = Some (record { prev = p; next = n })

-- whether the entry is in a list
abbrev pub is_in : Position → Bool
is_in p = is_some p

abbrev pub prev_of : Position → Option ℕ
prev_of None = None
prev_of (Some p) = p.prev

abbrev pub next_of : Position → Option ℕ
next_of None = None
next_of (Some p) = p.next

-- a position with another prev; one in no list stays so
abbrev pub with_prev : Position → Option ℕ → Position
with_prev p q = option_map (λ v. record { prev = q; next = v.next }) p

abbrev pub with_next : Position → Option ℕ → Position
with_next p q = option_map (λ v. record { prev = v.prev; next = q }) p

-- whether it is i that is named
abbrev pub names : Option ℕ → ℕ → Bool
names None i = false
names (Some h) i = h == i

-- the position at i; out of range in no list
abbrev pub at : List Position → ℕ → Position
at L i = slice_index_or L i None

-- a change that R tells of leaves what f gives
abbrev pub Computes : (LinkedListPosition → LinkedListPosition → Type 0) → (LinkedListPosition → LinkedListPosition) → Type 0
Computes R f = (p q : LinkedListPosition) → R p q → q ≡ f p

-- L where the entry that is named, if it is in a list, stands as f gives
abbrev pub changed : (LinkedListPosition → LinkedListPosition) → List Position → Option ℕ → List Position
changed f L None = L
changed f L (Some i) = slice_set L i (option_map f (at L i))

-- L where the entry that is named has another prev
abbrev pub prev_set : List Position → Option ℕ → Option ℕ → List Position
prev_set L o q = changed (λ p. record { prev = q; next = p.next }) L o

abbrev pub next_set : List Position → Option ℕ → Option ℕ → List Position
next_set L o q = changed (λ p. record { prev = p.prev; next = q }) L o
