-- Orders that are known: five networks, the order of each and the arcs that it holds.
use Rattle.std.specs.Prelude.{◌≡◌, ℕ, List, [], ◌∷◌, map}
use Rattle.network.specs.Network.{Link}
use Rattle.network.specs.Places.{held_arcs}
use Rattle.greedy_order.specs.Part3Order.{greedy_order}

pub record Known : Type 0 where
  pub arcs : List Link
  pub order : List ℕ
  pub holds : List Link

-- a corridor with a way back from 30 to 10
abbrev corridor : Known
corridor = record {
  arcs = (10, 20) ∷ (20, 30) ∷ (30, 10) ∷ (30, 40) ∷ (50, 10) ∷ [];
  order = 50 ∷ 10 ∷ 20 ∷ 30 ∷ 40 ∷ [];
  holds = (30, 10) ∷ [];
}

abbrev there_and_back : Known
there_and_back = record { arcs = (1, 2) ∷ (2, 1) ∷ []; order = 2 ∷ 1 ∷ []; holds = (1, 2) ∷ [] }

abbrev ring : Known
ring = record { arcs = (1, 2) ∷ (2, 3) ∷ (3, 1) ∷ []; order = 3 ∷ 1 ∷ 2 ∷ []; holds = (2, 3) ∷ [] }

abbrev single_loop : Known
single_loop = record { arcs = (7, 7) ∷ []; order = 7 ∷ []; holds = (7, 7) ∷ [] }

abbrev no_arcs : Known
no_arcs = record { arcs = []; order = []; holds = [] }

abbrev pub known_orders : List Known
known_orders = corridor ∷ there_and_back ∷ ring ∷ single_loop ∷ no_arcs ∷ []

-- what the definitions make of a row's arcs
abbrev pub computed : Known → Known
computed known = record { arcs = known.arcs; order = greedy_order known.arcs; holds = held_arcs (greedy_order known.arcs) known.arcs }

-- the definitions compute the table
abbrev pub KnownOrders : Type 0
KnownOrders = map computed known_orders ≡ known_orders
