-- Lists that are searched by a test, and from which one is taken out.
use Rattle.std.specs.Prelude.{ℕ, ◌+◌, Bool, true, false, cond, ◌||◌, List, [], ◌∷◌, Some, None, Option}

abbrev pub one : Bool → ℕ
one true = 1
one false = 0

-- how many pass
abbrev pub count : {X : Type 0} → (X → Bool) → List X → ℕ
count p [] = 0
count p (x ∷ l) = one (p x) + count p l

-- whether one passes
abbrev pub has : {X : Type 0} → (X → Bool) → List X → Bool
has p [] = false
has p (x ∷ l) = p x || has p l

-- the first that passes
abbrev pub found : {X : Type 0} → (X → Bool) → List X → Option X
found p [] = None
found p (x ∷ l) = cond (p x) (Some x) (found p l)

abbrev pub last : {X : Type 0} → X → List X → X
last x [] = x
last x (y ∷ l) = last y l

abbrev pub front : {X : Type 0} → X → List X → List X
front x [] = []
front x (y ∷ l) = x ∷ front y l

-- the last one comes first
abbrev pub moved : {X : Type 0} → List X → List X
moved [] = []
moved (x ∷ l) = last x l ∷ front x l

-- the first that passes goes, and the last one comes in its place
abbrev pub taken : {X : Type 0} → (X → Bool) → List X → List X
taken p [] = []
taken p (x ∷ l) = cond (p x) (moved l) (x ∷ taken p l)

-- the first that passes is changed
abbrev pub changed : {X : Type 0} → (X → Bool) → (X → X) → List X → List X
changed p f [] = []
changed p f (x ∷ l) = cond (p x) (f x ∷ l) (x ∷ changed p f l)

-- those that pass
abbrev pub kept : {X : Type 0} → (X → Bool) → List X → List X
kept p [] = []
kept p (x ∷ l) = cond (p x) (x ∷ kept p l) (kept p l)

-- what is there
abbrev pub present : {X : Type 0} → List (Option X) → List X
present [] = []
present (None ∷ l) = present l
present (Some x ∷ l) = x ∷ present l

-- each one is so
abbrev pub All : {X : Type 0} → (X → Type 0) → List X → Type 0
All P [] = Unit {0}
All P (x ∷ l) = P x × All P l
