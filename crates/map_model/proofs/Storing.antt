-- Every edit stores each key with its own index.
use Rattle.std.proofs.Common.{ℕ, ◌+◌, Bool, true, false, cond, ◌||◌, eqb, ltb, leb, List, [], ◌∷◌, ◌++◌, length, Some, None, Ok, Err, Option, Result, refl}
use Rattle.fault.specs.declared.Fault.{Fault}
use Rattle.fault.specs.declared.Fault.TheVariants.{NodesFull, ArcsFull}
use Rattle.network.specs.declared.direction.CompactDirection.{CompactDirection}
use Rattle.network.specs.declared.direction.CompactDirection.TheVariants.{Outgoing, Incoming}
use Rattle.map_model.specs.declared.Edit.{Edit}
use Rattle.map_model.specs.declared.Edit.TheVariants.{AddNode, AddEdge, RemoveNode, RemoveEdge}
use Rattle.map_model.specs.Lists.{has, last, front, moved, taken, changed, All}
use Rattle.network.specs.Directions.{opposite}
use Rattle.map_model.specs.Model.{Link, Node, Arc, Model, named, links_to, between, links_at, weight_at, joined, linked, both_linked, unlinked, both_unlinked, all_unlinked, weighed, arc_of, all_taken, with_tables, new_keys, node_added, new_edge_added_at, edge_put_at, node_removed, edited, built, run}
use Rattle.map_model.specs.Sound.{LinkStored, NodeStored, ArcStored, Stored}

-- ---- what holds of each one
module _ {X : Type 0} (P : X → Type 0) where
  pub each_push : (l : List X) (x : X) → All P l → P x → All P (l ++ x ∷ [])
  each_push [] x a p = (p, tt)
  each_push (y ∷ l) x a p = (a.0, each_push l x a.1 p)

  each_ends : (x : X) (l : List X) → P x → All P l → P (last x l) × All P (front x l)
  each_ends x [] p a = (p, tt)
  each_ends x (y ∷ l) p a = let ih = each_ends y l a.0 a.1 in (ih.0, (p, ih.1))

  pub each_moved : (l : List X) → All P l → All P (moved l)
  each_moved [] a = a
  each_moved (x ∷ l) a = each_ends x l a.0 a.1

  pub each_taken : (q : X → Bool) (l : List X) → All P l → All P (taken q l)
  each_taken q [] a = a
  each_taken q (x ∷ l) a =
      elim (q x) as (λ b. All P (cond b (moved l) (x ∷ taken q l)))
      [ true ↦ each_moved l a.1 | false ↦ (a.0, each_taken q l a.1) ]

  pub each_changed : (q : X → Bool) (f : X → X) (l : List X) → ((x : X) → P x → P (f x)) → All P l → All P (changed q f l)
  each_changed q f [] h a = a
  each_changed q f (x ∷ l) h a =
      elim (q x) as (λ b. All P (cond b (f x ∷ l) (x ∷ changed q f l)))
      [ true ↦ (h x a.0, a.1) | false ↦ (a.0, each_changed q f l h a.1) ]

-- ---- the nodes
module _ {N : Type 0} (ix : N → ℕ) where
  stored_joined : (k : N) (nodes : List (Node N)) → All (NodeStored ix) nodes → All (NodeStored ix) (joined k (ix k) nodes)
  stored_joined k nodes a =
      elim (has (named (ix k)) nodes) as (λ b. All (NodeStored ix) (cond b nodes (nodes ++ record { key = k; index = ix k; links = [] } ∷ [])))
      [ true ↦ a | false ↦ each_push (NodeStored ix) nodes _ a (record { own = refl; links = tt }) ]

  stored_linked : (k o : N) (d : CompactDirection) (nodes : List (Node N)) → All (NodeStored ix) nodes → All (NodeStored ix) (linked k (ix k) o (ix o) d nodes)
  stored_linked k o d nodes a =
      each_changed (NodeStored ix) (named (ix k)) _ (joined k (ix k) nodes)
      (λ x s. record { own = s.own; links = each_push (LinkStored ix) x.links (record { key = o; index = ix o; direction = d }) s.links refl })
      (stored_joined k nodes a)

  stored_both_linked : (a b : N) (nodes : List (Node N)) → All (NodeStored ix) nodes → All (NodeStored ix) (both_linked a (ix a) b (ix b) nodes)
  stored_both_linked a b nodes s =
      elim (eqb (ix a) (ix b)) as (λ v. All (NodeStored ix) (cond v (linked a (ix a) b (ix b) Outgoing nodes) (linked b (ix b) a (ix a) Incoming (linked a (ix a) b (ix b) Outgoing nodes))))
      [ true ↦ stored_linked a b Outgoing nodes s | false ↦ stored_linked b a Incoming _ (stored_linked a b Outgoing nodes s) ]

  stored_unlinked : (i j : ℕ) (d : CompactDirection) (nodes : List (Node N)) → All (NodeStored ix) nodes → All (NodeStored ix) (unlinked i j d nodes)
  stored_unlinked i j d nodes a =
      each_changed (NodeStored ix) (named i) _ nodes (λ x s. record { own = s.own; links = each_taken (LinkStored ix) (links_to j d) x.links s.links }) a

  stored_both_unlinked : (i j : ℕ) (nodes : List (Node N)) → All (NodeStored ix) nodes → All (NodeStored ix) (both_unlinked i j nodes)
  stored_both_unlinked i j nodes a =
      elim (eqb i j) as (λ v. All (NodeStored ix) (cond v (unlinked i j Outgoing nodes) (unlinked j i Incoming (unlinked i j Outgoing nodes))))
      [ true ↦ stored_unlinked i j Outgoing nodes a | false ↦ stored_unlinked j i Incoming _ (stored_unlinked i j Outgoing nodes a) ]

  stored_all_unlinked : (i : ℕ) (ks : List (Link N)) (nodes : List (Node N)) → All (NodeStored ix) nodes → All (NodeStored ix) (all_unlinked i ks nodes)
  stored_all_unlinked i [] nodes a = a
  stored_all_unlinked i (k ∷ ks) nodes a = stored_all_unlinked i ks _ (stored_unlinked k.index i (opposite k.direction) nodes a)

-- ---- the arcs, and the edits
module _ {N E : Type 0} (ix : N → ℕ) where
  stored_all_taken : (i : ℕ) (ks : List (Link N)) (arcs : List (Arc N E)) → All (ArcStored ix) arcs → All (ArcStored ix) (all_taken i ks arcs)
  stored_all_taken i [] arcs a = a
  stored_all_taken i (k ∷ ks) arcs a = stored_all_taken i ks _ (each_taken (ArcStored ix) (arc_of i k.index k.direction) arcs a)

  stored_node_added : (m : Model N E) (n : N) → Stored ix m → Stored ix (node_added ix m n).1
  stored_node_added m n s =
      elim (has (named (ix n)) m.nodes || ltb (length m.nodes) m.node_places) as (λ b. Stored ix (cond {A = Result N Fault × Model N E} b (Ok n, with_tables m (joined n (ix n) m.nodes) m.arcs) (Err NodesFull, m)).1)
      [ true ↦ record { nodes = stored_joined ix n m.nodes s.nodes; arcs = s.arcs } | false ↦ s ]

  stored_new_edge : (m : Model N E) (a b : N) (w : E) → Stored ix m → Stored ix (new_edge_added_at m a (ix a) b (ix b) w).1
  stored_new_edge m a b w s =
      let laid : Model N E = with_tables m (both_linked a (ix a) b (ix b) m.nodes) (m.arcs ++ record { source = a; source_index = ix a; target = b; target_index = ix b; weight = w } ∷ []) in
      elim (leb (length m.nodes + new_keys (ix a) (ix b) m.nodes) m.node_places) as (λ t. Stored ix (cond {A = Result (Option E) Fault × Model N E} t (cond (ltb (length m.arcs) m.arc_places) (Ok None, laid) (Err ArcsFull, m)) (Err NodesFull, m)).1) [
        | true ↦
            elim (ltb (length m.arcs) m.arc_places) as (λ t. Stored ix (cond {A = Result (Option E) Fault × Model N E} t (Ok None, laid) (Err ArcsFull, m)).1) [
              | true ↦ record { nodes = stored_both_linked ix a b m.nodes s.nodes; arcs = each_push (ArcStored ix) m.arcs _ s.arcs (record { source = refl; target = refl }) }
              | false ↦ s
            ]
        | false ↦ s
      ]

  stored_edge_put : (m : Model N E) (a b : N) (w : E) (o : Option E) → Stored ix m → Stored ix (edge_put_at m a (ix a) b (ix b) w o).1
  stored_edge_put m a b w (Some old) s =
      record { nodes = s.nodes; arcs = each_changed (ArcStored ix) (between (ix a) (ix b)) (weighed w) m.arcs (λ x t. record { source = t.source; target = t.target }) s.arcs }
  stored_edge_put m a b w None s = stored_new_edge m a b w s

  stored_node_removed : (m : Model N E) (n : N) → Stored ix m → Stored ix (node_removed ix m n).1
  stored_node_removed m n s =
      let i = ix n in
      elim (has (named i) m.nodes) as (λ b. Stored ix (cond {A = Bool × Model N E} b (true, with_tables m (all_unlinked i (links_at i m.nodes) (taken (named i) m.nodes)) (all_taken i (links_at i m.nodes) m.arcs)) (false, m)).1) [
        | true ↦ record {
          nodes = stored_all_unlinked ix i (links_at i m.nodes) _ (each_taken (NodeStored ix) (named i) m.nodes s.nodes);
          arcs = stored_all_taken i (links_at i m.nodes) m.arcs s.arcs;
        }
        | false ↦ s
      ]

  -- an edit keeps it
  pub stored_edited : (m : Model N E) (e : Edit N E) → Stored ix m → Stored ix (edited ix m e).1
  stored_edited m (AddNode n) s = stored_node_added m n s
  stored_edited m (AddEdge a b w) s = stored_edge_put m a b w (weight_at (ix a) (ix b) m.arcs) s
  stored_edited m (RemoveNode n) s = stored_node_removed m n s
  stored_edited m (RemoveEdge a b) s =
      record { nodes = stored_both_unlinked ix (ix a) (ix b) m.nodes s.nodes; arcs = each_taken (ArcStored ix) (between (ix a) (ix b)) m.arcs s.arcs }

  pub stored_built : (nodes arcs : ℕ) → Stored ix (built {N = N} {E = E} nodes arcs)
  stored_built nodes arcs = record { nodes = tt; arcs = tt }

  pub stored_run : (m : Model N E) (es : List (Edit N E)) → Stored ix m → Stored ix (run ix m es)
  stored_run m [] s = s
  stored_run m (e ∷ es) s = stored_run (edited ix m e).1 es (stored_edited m e s)
