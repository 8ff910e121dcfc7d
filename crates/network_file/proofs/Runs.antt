-- Records one after another, and the loops that go through them.
use Rattle.std.proofs.Common.{◌≡◌, ℕ, suc, ◌+◌, ◌*◌, ◌<◌, true, false, List, [], ◌∷◌, ◌++◌, length, take, drop, sym, ap, ◌∙◌, arith, length-drop}
use Rattle.std.proofs.lemmas.List.{drop_more, take_more}
use Rattle.network_file.specs.Checks.{has, nodes_differ, ends_listed}
use Rattle.network_file.specs.declared.arc.FileArc.{FileArc}

-- the records from position k on begin with x, and others follow
pub record Turn {X : Type 0} (xs : List X) (k : ℕ) (x : X) (others : List X) : Type 0 where
  pub within : k < length xs
  pub here : drop k xs ≡ x ∷ drop (k + 1) xs
  pub seen : take (k + 1) xs ≡ take k xs ++ (x ∷ [])
  pub rest : others ≡ drop (k + 1) xs

pub turn : {X : Type 0} (xs from others : List X) (k : ℕ) (x : X) → from ≡ drop k xs → from ≡ x ∷ others → Turn xs k x others
turn xs from others k x is begins =
    let long : length (drop k xs) ≡ suc (length others) = ap length (sym is ∙ begins) in
    let within : k < length xs = omega (arith, length-drop k xs) in
    let next = drop_more xs k x within in
    let more = take_more xs k x within in
    record { within = within; here = cc; seen = cc; rest = cc }

module _ (nodes others : List ℕ) (k node : ℕ) (here : Turn nodes k node others) (left : nodes_differ (take k nodes) (16 + 4 * k) (drop k nodes) ≡ nodes_differ [] 16 nodes) where
  pub node_new : has (take k nodes) node ≡ false → nodes_differ (take (k + 1) nodes) (16 + 4 * (k + 1)) (drop (k + 1) nodes) ≡ nodes_differ [] 16 nodes
  node_new new =
      let at : 16 + 4 * (k + 1) ≡ 16 + 4 * k + 4 = omega arith in
      rw (here.seen, at) (rw new at (rw here.here at left))

module _ (nodes : List ℕ) (arcs others : List FileArc) (begin k : ℕ) (arc : FileArc) (here : Turn arcs k arc others) (left : ends_listed nodes (begin + 12 * k) (drop k arcs) ≡ ends_listed nodes begin arcs) where
  pub both_listed : has nodes arc.source ≡ true → has nodes arc.target ≡ true → ends_listed nodes (begin + 12 * (k + 1)) (drop (k + 1) arcs) ≡ ends_listed nodes begin arcs
  both_listed source target =
      let at : begin + 12 * (k + 1) ≡ begin + 12 * k + 12 = omega arith in
      rw at (rw (source, target) at (rw here.here at left))
