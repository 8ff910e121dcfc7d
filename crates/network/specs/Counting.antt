-- Counting in lists, and lists of nodes.
use Rattle.std.specs.Prelude.{◌≡◌, ℕ, ◌+◌, Bool, true, false, cond, ◌||◌, List, [], ◌∷◌, ◌==◌}

-- 1 for a test that holds, 0 for one that does not
abbrev pub one : Bool → ℕ
one true = 1
one false = 0

-- the sum of f over a list
abbrev pub total : {X : Type 0} → (X → ℕ) → List X → ℕ
total f [] = 0
total f (x ∷ xs) = f x + total f xs

-- how many items of a list pass a test; an item that stands twice counts twice
abbrev pub count : {X : Type 0} → (X → Bool) → List X → ℕ
count test xs = total (λ x. one (test x)) xs

-- the items of a list that pass a test, in the list's sequence
abbrev pub keep : {X : Type 0} → (X → Bool) → List X → List X
keep test [] = []
keep test (x ∷ xs) = cond (test x) (x ∷ keep test xs) (keep test xs)

-- whether the node x stands in a list
abbrev pub has : List ℕ → ℕ → Bool
has [] x = false
has (y ∷ ys) x = y == x || has ys x

-- a list with the node x left out
abbrev pub without : ℕ → List ℕ → List ℕ
without x [] = []
without x (y ∷ ys) = cond (y == x) (without x ys) (y ∷ without x ys)

-- no node stands twice
abbrev pub EachOnce : List ℕ → Type 0
EachOnce [] = Unit {0}
EachOnce (x ∷ xs) = (has xs x ≡ false) × EachOnce xs
