-- What a call does to the lists of a container: L the positions before it and M after it.
use Rattle.std.specs.Prelude.{◌≡◌, ℕ, ◌<◌, ◌≤◌, true, false, List, length, Option, ◌≢◌}
use Rattle.linked_list.specs.Places.{Position, is_in, at}
use Rattle.linked_list.specs.Chains.{has, Holds, Other, entries_of}

-- the list at start, whatever it is, becomes f of it, at begin
abbrev pub Becomes : (List ℕ → List ℕ) → List Position → Option ℕ → List Position → Option ℕ → Type 0
Becomes f L start M begin = (l : List ℕ) → Holds L start l → Holds M begin (f l)

-- every other list is as it was
abbrev pub OthersStay : List Position → Option ℕ → List Position → Type 0
OthersStay L start M = (s : Option ℕ) (m : List ℕ) → Holds L s m → Other s start → Holds M s m

-- every other list becomes f of it, with the same start
abbrev pub OthersBecome : (List ℕ → List ℕ) → List Position → Option ℕ → List Position → Type 0
OthersBecome f L start M = (s : Option ℕ) (m : List ℕ) → Holds L s m → Other s start → Holds M s (f m)

-- if i is in the list at start, every other list is as it was
abbrev pub OthersStayIfListed : ℕ → List Position → Option ℕ → List Position → Type 0
OthersStayIfListed i L start M = (l : List ℕ) → Holds L start l → has l i ≡ true → OthersStay L start M

-- whether an entry other than i is in a list is as it was
abbrev pub StatusStays : ℕ → List Position → List Position → Type 0
StatusStays i L M = (j : ℕ) → (j ≢ i) → is_in (at M j) ≡ is_in (at L j)

-- ---- what holds of lists in any container
-- A list has no more entries than the container.
abbrev pub NoLongerThanContainer : Type 0
NoLongerThanContainer = (L : List Position) (s : Option ℕ) (l : List ℕ) → Holds L s l → length l ≤ length L

-- The entries of a list are in the container, and in a list.
abbrev pub EntriesAreThere : Type 0
EntriesAreThere = (L : List Position) (s : Option ℕ) (l : List ℕ) (i : ℕ) → Holds L s l → has l i ≡ true → (i < length L) × (is_in (at L i) ≡ true)

-- Two lists with different starts have no entry in common.
abbrev pub ListsAreApart : Type 0
ListsAreApart = (L : List Position) (s t : Option ℕ) (l m : List ℕ) → Holds L s l → Holds L t m → Other t s → (i : ℕ) → has l i ≡ true → has m i ≡ false

-- A start and the positions stand for one list at most: the one that is read off.
abbrev pub ListsAreRead : Type 0
ListsAreRead = (L : List Position) (s : Option ℕ) (l : List ℕ) → Holds L s l → entries_of L s ≡ l
