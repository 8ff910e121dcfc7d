-- The calls of a table as changes of the list of its items.
use Rattle.std.specs.Prelude.{◌≡◌, ℕ, zero, suc, Bool, cond, List, [], ◌∷◌, length, take, Some, None, Ok, Err, Option, Result, ◌==◌, nat_lt, slice_index_or, slice_set}
use Rattle.std.specs.List.{slice_get}
use Rattle.keyed_table.specs.declared.slots.Item.{Item}
use Rattle.keyed_table.specs.declared.slots.Full.{Full}

-- no two items have one number
abbrev pub Different : {K V : Type 0} → List (Item K V) → Type 0
Different {K} {V} l = (i j : ℕ) (x y : Item K V) → slice_get l i ≡ Some x → slice_get l j ≡ Some y → x.number ≡ y.number → i ≡ j

-- the position of the first item with the number k, or the length of the list
abbrev pub place : {K V : Type 0} → ℕ → List (Item K V) → ℕ
place k [] = 0
place k (p ∷ ps) = cond (p.number == k) 0 (suc (place k ps))

-- whether an item has the number k
abbrev pub has : {K V : Type 0} → ℕ → List (Item K V) → Bool
has k l = nat_lt (place k l) (length l)

-- the position of the number k, if it is there
abbrev pub found : {K V : Type 0} → ℕ → List (Item K V) → Option ℕ
found k l = cond (has k l) (Some (place k l)) None

-- the value at the number k
abbrev pub value_at : {K V : Type 0} → ℕ → List (Item K V) → Option V
value_at k [] = None
value_at k (p ∷ ps) = cond (p.number == k) (Some p.value) (value_at k ps)

-- an item with another value
abbrev pub with_value : {K V : Type 0} → V → Item K V → Item K V
with_value v p = record { number = p.number; key = p.key; value = v }

-- the list with the value v at the number k: in its item where there is one, which keeps its key, else in a new item at the end
abbrev pub written : {K V : Type 0} → ℕ → K → V → List (Item K V) → List (Item K V)
written k key v [] = record { number = k; key = key; value = v } ∷ []
written k key v (p ∷ ps) = cond (p.number == k) (with_value v p ∷ ps) (p ∷ written k key v ps)

-- by whether a value is there: it is answered or replaced; else by whether there is room
abbrev pub answered : {V : Type 0} → Option V → Bool → Result (Option V) Full
answered (Some v) b = Ok (Some v)
answered None b = cond b (Ok None) (Err (record {}))

abbrev pub left : {V X : Type 0} → Option V → Bool → X → X → X
left (Some v) b new old = new
left None b new old = cond b new old

-- what an insertion at the number k answers where there is room for r items: the old value, none where the item is new, full where that has no room
abbrev pub insert_answer : {K V : Type 0} → ℕ → ℕ → List (Item K V) → Result (Option V) Full
insert_answer r k l = answered (value_at k l) (nat_lt (length l) r)

-- what an insertion leaves
abbrev pub inserted : {K V : Type 0} → ℕ → ℕ → K → V → List (Item K V) → List (Item K V)
inserted r k key v l = left (value_at k l) (nat_lt (length l) r) (written k key v l) l

-- the list with the value v at the position i, if it has one
abbrev pub changed_at : {K V : Type 0} → ℕ → V → List (Item K V) → List (Item K V)
changed_at i v [] = []
changed_at zero v (p ∷ ps) = with_value v p ∷ ps
changed_at (suc i) v (p ∷ ps) = p ∷ changed_at i v ps

-- the list with the position i filled by the last item, which goes from the end
abbrev pub swapped_out : {X : Type 0} → ℕ → List X → List X
swapped_out i [] = []
swapped_out i (x ∷ xs) = take (length xs) (slice_set (x ∷ xs) i (slice_index_or (x ∷ xs) (length xs) x))

-- the list without the number k
abbrev pub without : {K V : Type 0} → ℕ → List (Item K V) → List (Item K V)
without k l = cond (has k l) (swapped_out (place k l) l) l
