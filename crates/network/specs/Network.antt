-- Networks: lists of arcs. An arc leads from one node, its source, to one node, its target.
-- Where weights do not matter, a node is its index, and an arc is a pair of indices.
use Rattle.std.specs.Prelude.{◌≡◌, ℕ, ◌+◌, ◌≤◌, Bool, true, false, cond, not, ◌&&◌, ◌||◌, List, [], ◌∷◌, ◌++◌, ◌==◌, nat_le}
use Rattle.network.specs.Counting.{count, has, EachOnce}

-- an arc without its weight: its source is .0, its target .1
abbrev pub Link : Type 0
Link = ℕ × ℕ

-- a loop comes back to the node that it leaves
abbrev pub loop : Link → Bool
loop a = a.0 == a.1

-- how many loops a network has
abbrev pub loops : List Link → ℕ
loops arcs = count loop arcs

-- b leads back from the target of a to its source, which is another node
abbrev pub opposite : Link → Link → Bool
opposite a b = a.0 == b.1 && a.1 == b.0 && not (loop a)

-- how many arcs run from x to y
unfoldable pub from_to : List Link → ℕ → ℕ → ℕ
from_to arcs x y = count (λ a. (a.0 == x) && a.1 == y) arcs

-- a is an arc of the network
abbrev pub IsArcOf : List Link → Link → Type 0
IsArcOf arcs a = 1 ≤ from_to arcs a.0 a.1

abbrev pub NoLoops : List Link → Type 0
NoLoops arcs = loops arcs ≡ 0

abbrev pub NoOppositeArcs : List Link → Type 0
NoOppositeArcs arcs = (a b : Link) → IsArcOf arcs a → IsArcOf arcs b → opposite a b ≡ false

-- a node that is met for the first time goes to the end of the list of nodes met so far
abbrev pub meet : ℕ → List ℕ → List ℕ
meet x met = cond (has met x) met (met ++ (x ∷ []))

-- the arcs are gone through in their sequence: first the source is met, then the target
abbrev pub meet_all : List Link → List ℕ → List ℕ
meet_all [] met = met
meet_all (a ∷ arcs) met = meet_all arcs (meet a.1 (meet a.0 met))

-- the touched nodes, each once, as they are first met; below is said that these are the nodes where arcs begin or end
unfoldable pub touched : List Link → List ℕ
touched arcs = meet_all arcs []

-- how many arcs begin or end at x
abbrev pub ends : List Link → ℕ → ℕ
ends arcs x = count (λ a. (a.0 == x) || a.1 == x) arcs

-- no node is listed twice, and those are listed where an arc begins or ends, and no others
abbrev pub TouchedNodesAreTheEndsOfArcs : Type 0
TouchedNodesAreTheEndsOfArcs = (arcs : List Link) → EachOnce (touched arcs) × ((x : ℕ) → (has (touched arcs) x ≡ true → 1 ≤ ends arcs x) × (1 ≤ ends arcs x → has (touched arcs) x ≡ true))

-- there are arcs both ways between x and y
abbrev pub two_way : List Link → ℕ → ℕ → Bool
two_way arcs x y = nat_le 1 (from_to arcs x y) && nat_le 1 (from_to arcs y x)

-- how many pairs of nodes of a list have arcs both ways: each node is paired with those behind it
abbrev pub pairs_among : List Link → List ℕ → ℕ
pairs_among arcs [] = 0
pairs_among arcs (x ∷ xs) = count (two_way arcs x) xs + pairs_among arcs xs

-- the two-way pairs of a network: unordered pairs of different nodes with arcs both ways
abbrev pub two_way_pairs : List Link → ℕ
two_way_pairs arcs = pairs_among arcs (touched arcs)
