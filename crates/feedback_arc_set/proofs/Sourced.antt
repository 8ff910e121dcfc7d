-- The arcs of a source by their ends.
use Rattle.std.proofs.Common.{◌≡◌, ℕ, zero, suc, ◌<◌, List, [], ◌∷◌, length, get_or, sym, ap, ◌∙◌, arith}
use Rattle.std.specs.List.{enumerate_from}
use Rattle.std.proofs.lemmas.List.{length-map}
use Rattle.std.proofs.lemmas.List.FromFn.{length-enumerate_from, get_or-enumerate_from}
use Rattle.network.specs.declared.arc.Arc.{Arc}
use Rattle.network.specs.Sources.{links}

link_read : {N E : Type 0} (index : N → ℕ) (arcs : List (Arc N E)) (i : ℕ) (a : Arc N E) → i < length arcs → a ≡ get_or arcs i a → get_or (links index arcs) i (0, 0) ≡ (index a.source, index a.target)
link_read index [] i a l e = absurd (omega arith)
link_read index (b ∷ arcs) zero a l e = ap (λ v. (index v.source, index v.target)) (sym e)
link_read index (b ∷ arcs) (suc i) a l e = link_read index arcs i a (omega arith) e

pub links_long : {N E : Type 0} (index : N → ℕ) (arcs : List (Arc N E)) → length (links index arcs) ≡ length arcs
links_long index arcs = length-map arcs (λ a. (index a.source, index a.target))

-- the arc that comes after n others, with the position that it is counted by
pub arc_counted : {N E : Type 0} (index : N → ℕ) (arcs : List (Arc N E)) (n i : ℕ) (a : Arc N E) → (n < length (enumerate_from 0 arcs)) × ((i, a) ≡ get_or (enumerate_from 0 arcs) n (i, a))
    → (i ≡ n) × (n < length arcs) × (get_or (links index arcs) n (0, 0) ≡ (index a.source, index a.target))
arc_counted index arcs n i a t =
    let k = length-enumerate_from 0 arcs in
    let b = t.0 in
    let l : n < length arcs = omega arith in
    let e : (i, a) ≡ (n, get_or arcs n a) = t.1 ∙ get_or-enumerate_from 0 arcs n (i, a) l ∙ ap (λ k. (k, get_or arcs n a)) (omega arith) in
    (ap (λ p. p.0) e, l, link_read index arcs n a l (ap (λ p. p.1) e))
