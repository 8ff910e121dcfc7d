-- How the slots hold the items, and the chains of the buckets.
use Rattle.std.specs.Prelude.{is_some, ◌≡◌, ℕ, zero, suc, ◌-◌, ◌*◌, ◌/◌, ◌^◌, ◌<◌, ◌≤◌, min, Bool, false, cond, List, [], ◌∷◌, map, length, take, Some, None, Option, ◌==◌, ◌≢◌, nat_le, nat_lt, slice_index, slice_index_or, slice_set}
use Rattle.std.specs.Option.{option_map}
use Rattle.keys.specs.Numbers.{mixed}
use Rattle.keyed_table.specs.Listing.{with_value}
use Rattle.keyed_table.specs.declared.slots.Item.{Item}
use Rattle.keyed_table.specs.declared.slots.Slot.{Slot}

-- how many items n slots can hold: one for each, and below 2 ^ 32
abbrev pub room_of : ℕ → ℕ
room_of n = min n 4294967295

-- the bucket of the number k among those of n slots
abbrev pub bucket : ℕ → ℕ → ℕ
bucket n k = mixed k * room_of n / 2 ^ 32

-- a slot that holds nothing
abbrev pub blank_slot : {K V : Type 0} → Slot K V
blank_slot = record { item = None; head = None; next = None }

-- a link as a number, so that links compare as positions do: one more than the position that it leads to; 0 where it leads nowhere
abbrev pub height : Option ℕ → ℕ
height None = 0
height (Some p) = suc p

-- one more than the last position below p that f sends to b, or 0
abbrev pub last : (ℕ → ℕ) → ℕ → ℕ → ℕ
last f b zero = 0
last f b (suc p) = cond (f p == b) (suc p) (last f b p)

-- what the slots hold, the heads of the buckets, and the links of the chains: each is one more than a position, or 0
abbrev pub items : {K V : Type 0} → List (Slot K V) → List (Option (Item K V))
items = map (λ s. s.item)

abbrev pub heads : {K V : Type 0} → List (Slot K V) → List ℕ
heads = map (λ s. height s.head)

abbrev pub nexts : {K V : Type 0} → List (Slot K V) → List ℕ
nexts = map (λ s. height s.next)

-- the bucket of what a slot holds, among m; m where it holds nothing
abbrev pub home : {K V : Type 0} → ℕ → Option (Item K V) → ℕ
home m None = m
home m (Some e) = bucket m e.number

-- the bucket of what stands at a position
abbrev pub homes : {K V : Type 0} → List (Option (Item K V)) → ℕ → ℕ
homes es i = home (length es) (slice_index_or es i None)

-- a bucket's head is the last position in it
abbrev pub Headed : {K V : Type 0} → List (Option (Item K V)) → List ℕ → Type 0
Headed es hs = (b : ℕ) → b < length es → slice_index hs b ≡ last (homes es) b (length es)

-- after a position comes the last one before it in its bucket
abbrev pub Threaded : {K V : Type 0} → List (Option (Item K V)) → List ℕ → Type 0
Threaded es ns = (i : ℕ) → homes es i < length es → slice_index ns i ≡ last (homes es) (homes es i) i

-- the heads and the links are those of the items
abbrev pub Linked : {K V : Type 0} → List (Option (Item K V)) → List ℕ → List ℕ → Type 0
Linked es hs ns = Headed es hs × Threaded es ns

-- the number of what a slot holds
abbrev pub number_of : {K V : Type 0} → Option (Item K V) → ℕ
number_of None = 0
number_of (Some e) = e.number

-- exactly the first n slots hold an item
abbrev pub Filled : {K V : Type 0} → List (Option (Item K V)) → ℕ → Type 0
Filled es n = (i : ℕ) → is_some (slice_index_or es i None) ≡ nat_lt i n

abbrev pub numbers : {K V : Type 0} → List (Option (Item K V)) → ℕ → ℕ
numbers es i = number_of (slice_index_or es i None)

-- no number of the first n positions stands at an earlier one
abbrev pub Apart : {K V : Type 0} → List (Option (Item K V)) → ℕ → Type 0
Apart es n = (j : ℕ) → j < n → last (numbers es) (numbers es j) j ≡ 0

-- a link from the position i as it is followed: not upwards
abbrev pub falling : ℕ → ℕ → ℕ
falling i next = cond (nat_le next i) next 0

-- what a link says that is written above a gap: at q = 0 the head of the bucket b, else the link after the position q - 1
abbrev pub heads_to : ℕ → ℕ → ℕ → List ℕ → List ℕ
heads_to b q x hs = cond (q == 0) (slice_set hs b x) hs

abbrev pub nexts_to : ℕ → ℕ → List ℕ → List ℕ
nexts_to q x ns = cond (q == 0) ns (slice_set ns (q - 1) x)

-- in the bucket b, x leads on below e, and q is one more than the first position from e on, or 0
pub record Above (f : ℕ → ℕ) (b e m q x : ℕ) : Type 0 where
  pub low : x ≤ e
  pub here : (y : ℕ) → x ≡ suc y → f y ≡ b
  pub near : (j : ℕ) → x ≤ j → j < e → f j ≢ b
  pub over : (j : ℕ) → e ≤ j → j < m → f j ≡ b → (p : ℕ) × (q ≡ suc p) × (p ≤ j)
  pub at : (p : ℕ) → q ≡ suc p → (e ≤ p) × (p < m) × (f p ≡ b)

-- the chains of the slots are those of their items
abbrev pub Chains : {K V : Type 0} → List (Slot K V) → Type 0
Chains s = Linked (items s) (heads s) (nexts s)

-- whether a slot holds the number k
abbrev pub holds_number : {K V : Type 0} → ℕ → Option (Item K V) → Bool
holds_number k None = false
holds_number k (Some e) = e.number == k

-- what stands in a list of options
abbrev pub somes : {X : Type 0} → List (Option X) → List X
somes [] = []
somes (None ∷ l) = somes l
somes (Some x ∷ l) = x ∷ somes l

-- the value in a slot, and the slot with another value
abbrev pub value_in : {K V : Type 0} → Option (Item K V) → Option V
value_in = option_map (λ e. e.value)

abbrev pub revalued : {K V : Type 0} → V → Option (Item K V) → Option (Item K V)
revalued v = option_map (with_value v)

-- the items of the first n slots
abbrev pub listed : {K V : Type 0} → List (Slot K V) → ℕ → List (Item K V)
listed s n = somes (take n (items s))

-- the slots keep a list of n items: there is room for n, exactly the first n slots hold one, their numbers differ, and the chains are theirs
abbrev pub Kept : {K V : Type 0} → List (Slot K V) → ℕ → Type 0
Kept s n = (n ≤ room_of (length s)) × Filled (items s) n × Apart (items s) n × Headed (items s) (heads s) × Threaded (items s) (nexts s)

-- what stands at j once the last of the first m + 1 items has filled the gap at i
abbrev pub filled_gap : {K V : Type 0} → List (Option (Item K V)) → ℕ → ℕ → ℕ → Option (Item K V)
filled_gap es i m j = cond (nat_lt j m) (slice_index_or es (cond (j == i) m j) None) None
