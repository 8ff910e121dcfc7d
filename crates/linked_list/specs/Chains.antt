-- Lists of indices: what a start and the positions stand for, and what the calls do.
use Rattle.std.specs.Prelude.{◌≡◌, ℕ, zero, suc, Bool, true, false, cond, not, ◌&&◌, ◌||◌, List, [], ◌∷◌, ◌++◌, length, Some, None, Option, ◌==◌, ◌≢◌, nat_lt, slice_set}
use Rattle.std.specs.Option.{is_none}
use Rattle.linked_list.specs.Places.{Position, enlisted, is_in, prev_of, next_of, names, at, prev_set, next_set}

-- ---- lists of indices
-- whether i is in l
abbrev pub has : List ℕ → ℕ → Bool
has [] i = false
has (x ∷ l) i = x == i || has l i

abbrev pub first : List ℕ → Option ℕ
first [] = None
first (x ∷ l) = Some x

abbrev pub rest : List ℕ → List ℕ
rest [] = []
rest (x ∷ l) = l

-- the last of l, or p where l is empty
abbrev pub last_from : Option ℕ → List ℕ → Option ℕ
last_from p [] = p
last_from p (x ∷ l) = last_from (Some x) l

abbrev pub last : List ℕ → Option ℕ
last l = last_from None l

-- l with the list mid in the place of i
abbrev pub spliced : ℕ → List ℕ → List ℕ → List ℕ
spliced i mid [] = []
spliced i mid (x ∷ l) = cond (x == i) (mid ++ l) (x ∷ spliced i mid l)

abbrev pub without : ℕ → List ℕ → List ℕ
without i l = spliced i [] l

-- l with j in the place of i
abbrev pub replaced : ℕ → ℕ → List ℕ → List ℕ
replaced i j l = spliced i (j ∷ []) l

-- i leaves, and the first of l comes in its place
abbrev pub swap_removed : ℕ → List ℕ → List ℕ
swap_removed i [] = []
swap_removed i (f ∷ l) = cond (f == i) l (replaced i f l)

-- ---- what a start and the positions L stand for
-- the entries of l, which differ, are linked in this order, after p
abbrev pub Chain : List Position → Option ℕ → List ℕ → Type 0
Chain L p [] = Unit {0}
Chain L p (i ∷ l) = (at L i ≡ enlisted p (first l)) × (has l i ≡ false) × Chain L (Some i) l

-- start and L stand for the list l
pub record Holds (L : List Position) (start : Option ℕ) (l : List ℕ) : Type 0 where
  pub starts : start ≡ first l
  pub linked : Chain L None l

-- the two starts are not of one list: no entry is named by both
abbrev pub Other : Option ℕ → Option ℕ → Type 0
Other a b = (h : ℕ) → a ≡ Some h → b ≢ Some h

-- the list that start and L stand for, read off; of at most n entries
abbrev pub walk : ℕ → List Position → Option ℕ → List ℕ
walk zero L start = []
walk (suc n) L None = []
walk (suc n) L (Some i) = i ∷ walk n L (next_of (at L i))

abbrev pub entries_of : List Position → Option ℕ → List ℕ
entries_of L start = walk (length L) L start

-- ---- when a call is granted, and the positions and the start after it
-- whether what stands before i leads to it: the start where there is no prev, and else the entry that prev names
abbrev pub leads_to : List Position → Option ℕ → Option ℕ → ℕ → Bool
leads_to L start None i = names start i
leads_to L start (Some p) i = not (names start i) && names (next_of (at L p)) i

-- whether the entry that next names, if any, has i before it
abbrev pub points_back : List Position → Option ℕ → ℕ → Bool
points_back L None i = true
points_back L (Some n) i = names (prev_of (at L n)) i

-- i is in a list, and its neighbours say so too
abbrev pub can_remove : List Position → Option ℕ → ℕ → Bool
can_remove L start i = is_in (at L i) && (leads_to L start (prev_of (at L i)) i && points_back L (next_of (at L i)) i)

-- nothing stands before the entry that start names, if any
abbrev pub is_front : List Position → Option ℕ → Bool
is_front L None = true
is_front L (Some h) = is_in (at L h) && is_none (prev_of (at L h))

-- i is there, in no list, and start is the start of a list
abbrev pub can_push : List Position → Option ℕ → ℕ → Bool
can_push L start i = nat_lt i (length L) && (not (is_in (at L i)) && is_front L start)

abbrev pub after_push : List Position → Option ℕ → ℕ → List Position
after_push L start i = slice_set (prev_set L start (Some i)) i (enlisted None start)

-- the entries that stood around p have x after them and y before them
abbrev pub relinked : List Position → Position → Option ℕ → Option ℕ → List Position
relinked L p x y = prev_set (next_set L (prev_of p) x) (next_of p) y

-- the neighbours of i become each other's
abbrev pub after_remove : List Position → ℕ → List Position
after_remove L i = slice_set (relinked L (at L i) (next_of (at L i)) (prev_of (at L i))) i None

-- j stands where i stood
abbrev pub after_replace : List Position → ℕ → ℕ → List Position
after_replace L i j = slice_set (slice_set (relinked L (at L i) (Some j) (Some j)) j (at L i)) i None

-- the start, once x stands where i stood
abbrev pub moved : Option ℕ → ℕ → Option ℕ → Option ℕ
moved start i x = cond (names start i) x start

abbrev pub start_after_remove : List Position → Option ℕ → ℕ → Option ℕ
start_after_remove L start i = moved start i (next_of (at L i))

abbrev pub can_pop : List Position → Option ℕ → Bool
can_pop L None = false
can_pop L (Some f) = can_remove L (Some f) f

abbrev pub after_pop : List Position → Option ℕ → List Position
after_pop L None = L
after_pop L (Some f) = after_remove L f

abbrev pub start_after_pop : List Position → Option ℕ → Option ℕ
start_after_pop L None = None
start_after_pop L (Some f) = next_of (at L f)

abbrev pub can_swap : List Position → Option ℕ → ℕ → Bool
can_swap L start i = can_pop L start && can_remove L start i

-- the front is taken out, and put where i stands unless it is i
abbrev pub after_swap : List Position → Option ℕ → ℕ → List Position
after_swap L None i = L
after_swap L (Some f) i = cond (f == i) (after_remove L f) (after_replace (after_remove L f) i f)

abbrev pub start_after_swap : List Position → Option ℕ → ℕ → Option ℕ
start_after_swap L None i = None
start_after_swap L (Some f) i = cond (f == i) (next_of (at L f)) (moved (next_of (at L f)) i (Some f))
