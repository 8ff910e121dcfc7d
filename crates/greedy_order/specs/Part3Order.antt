-- The same steps with every tie decided, as petgraph decides them: one order for each list of arcs.
-- The untaken nodes stand in one list, the one that was moved last at the front.
-- A class of nodes is that list filtered, so it keeps that sequence.
use Rattle.std.specs.Prelude.{ℕ, zero, suc, ◌+◌, Bool, cond, not, ◌&&◌, List, [], ◌∷◌, ◌++◌, reverse, length, ◌==◌, nat_lt}
use Rattle.network.specs.Counting.{count, keep, has, without}
use Rattle.network.specs.Network.{Link, touched}
use Rattle.greedy_order.specs.Part1Degrees.{out_degree, in_degree}

-- 1. Neighbours. The out neighbours of x are the targets of the arcs that leave it, its in neighbours the sources of those that reach it, both in the sequence of the arcs.
-- A loop makes x a neighbour of itself, on both sides.

abbrev pub out_neighbours : List Link → ℕ → List ℕ
out_neighbours [] x = []
out_neighbours (a ∷ arcs) x = cond (a.0 == x) (a.1 ∷ out_neighbours arcs x) (out_neighbours arcs x)

abbrev pub in_neighbours : List Link → ℕ → List ℕ
in_neighbours [] x = []
in_neighbours (a ∷ arcs) x = cond (a.1 == x) (a.0 ∷ in_neighbours arcs x) (in_neighbours arcs x)

-- 2. Classes. The sinks, which no arc leaves, are one class. Of the other nodes those that no arc reaches are the source nodes, a class too.
-- Each remaining node is in the class of its difference: out-degree minus in-degree, which may be negative.

abbrev pub is_sink : List Link → List ℕ → ℕ → Bool
is_sink arcs untaken x = out_degree arcs untaken x == 0

abbrev pub is_source : List Link → List ℕ → ℕ → Bool
is_source arcs untaken x = not (is_sink arcs untaken x) && in_degree arcs untaken x == 0

abbrev pub has_difference : List Link → List ℕ → ℕ → Bool
has_difference arcs untaken x = not (is_sink arcs untaken x) && not (in_degree arcs untaken x == 0)

-- x's difference is below y's: out x − in x < out y − in y, as sums, which need no sign
abbrev pub below : List Link → List ℕ → ℕ → ℕ → Bool
below arcs untaken x y = nat_lt (out_degree arcs untaken x + in_degree arcs untaken y) (out_degree arcs untaken y + in_degree arcs untaken x)

-- x is in the highest class that is not empty: no untaken node has a higher difference
abbrev pub is_highest : List Link → List ℕ → ℕ → Bool
is_highest arcs untaken x = has_difference arcs untaken x && count (λ y. has_difference arcs untaken y && below arcs untaken x y) untaken == 0

abbrev pub sinks : List Link → List ℕ → List ℕ
sinks arcs untaken = keep (is_sink arcs untaken) untaken

abbrev pub source_nodes : List Link → List ℕ → List ℕ
source_nodes arcs untaken = keep (is_source arcs untaken) untaken

abbrev pub highest_class : List Link → List ℕ → List ℕ
highest_class arcs untaken = keep (is_highest arcs untaken) untaken

-- 3. Taking a node x. Its out neighbours move, one after the other, then its in neighbours: each has lost an arc and comes to the front of the class that it is now in, which may be the one it was in.
-- A neighbour that is no longer untaken stays out. Degrees are counted among untaken nodes, so what is left to say is who moves.

abbrev pub to_front : ℕ → List ℕ → List ℕ
to_front y untaken = cond (has untaken y) (y ∷ without y untaken) untaken

abbrev pub all_to_front : List ℕ → List ℕ → List ℕ
all_to_front [] untaken = untaken
all_to_front (y ∷ ys) untaken = all_to_front ys (to_front y untaken)

unfoldable pub after_taking : List Link → ℕ → List ℕ → List ℕ
after_taking arcs x untaken = all_to_front (in_neighbours arcs x) (all_to_front (out_neighbours arcs x) (without x untaken))

-- 4. How far the order has come: what is untaken, the head half, to which a node is added at the back, and the tail half, to which one is added at the front.

pub record Progress : Type 0 where
  pub untaken : List ℕ
  pub head : List ℕ
  pub tail : List ℕ

abbrev pub to_head : List Link → ℕ → Progress → Progress
to_head arcs x p = record { untaken = after_taking arcs x p.untaken; head = p.head ++ (x ∷ []); tail = p.tail }

abbrev pub to_tail : List Link → ℕ → Progress → Progress
to_tail arcs x p = record { untaken = after_taking arcs x p.untaken; head = p.head; tail = x ∷ p.tail }

-- the front of a class is taken; an empty class gives nothing
abbrev pub take_front : (ℕ → Progress → Progress) → List ℕ → Progress → Progress
take_front take [] p = p
take_front take (x ∷ class) p = take x p

-- 5. A round empties the class of sinks into the tail half, then the class of source nodes into the head half, and ends with one node for the head half: the front of the highest class that is not empty.
-- A taking changes the classes, so each is made anew after it. As many takings as there are untaken nodes are enough; an empty class gives none.

abbrev pub take_sinks : List Link → ℕ → Progress → Progress
take_sinks arcs zero p = p
take_sinks arcs (suc n) p = take_sinks arcs n (take_front (to_tail arcs) (sinks arcs p.untaken) p)

abbrev pub take_sources : List Link → ℕ → Progress → Progress
take_sources arcs zero p = p
take_sources arcs (suc n) p = take_sources arcs n (take_front (to_head arcs) (source_nodes arcs p.untaken) p)

abbrev pub all_sinks : List Link → Progress → Progress
all_sinks arcs p = take_sinks arcs (length p.untaken) p

abbrev pub all_sources : List Link → Progress → Progress
all_sources arcs p = take_sources arcs (length p.untaken) p

abbrev pub one_highest : List Link → Progress → Progress
one_highest arcs p = take_front (to_head arcs) (highest_class arcs p.untaken) p

abbrev pub round : List Link → Progress → Progress
round arcs p = one_highest arcs (all_sources arcs (all_sinks arcs p))

-- 6. Rounds follow one another until nothing is left to take. Each round before that takes a node, and one after it changes nothing: as many rounds as nodes are enough.

abbrev pub rounds : List Link → ℕ → Progress → Progress
rounds arcs zero p = p
rounds arcs (suc n) p = rounds arcs n (round arcs p)

-- 7. At the start the nodes are put in as the arcs first show them, each at the front: the one that was shown last stands first.

abbrev pub start : List Link → Progress
start arcs = record { untaken = reverse (touched arcs); head = []; tail = [] }

-- 8. The two halves, one behind the other, are the order.

abbrev pub joined : Progress → List ℕ
joined p = p.head ++ p.tail

unfoldable pub greedy_order : List Link → List ℕ
greedy_order arcs = joined (rounds arcs (length (touched arcs)) (start arcs))
