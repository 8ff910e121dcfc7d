-- What a map shows as text.
use Rattle.std.specs.Prelude.{ℕ, List, [], ◌∷◌, ◌++◌, codes}
use Rattle.std.specs.Fmt.{decimal}
use Rattle.std.specs.List.{flat_map}
use Rattle.keys.specs.declared.junction.Junction.{Junction}
use Rattle.network.specs.declared.direction.CompactDirection.{CompactDirection}
use Rattle.network.specs.declared.direction.CompactDirection.TheVariants.{Outgoing, Incoming}
use Rattle.map_model.specs.Model.{Model}
use Rattle.map_model.specs.Shown.{node_count, edge_count, nodes_shown, edges_shown, all_edges_shown}
use Rattle.edit_lines.specs.Lines.{named}

-- a word, and the ends and the weight of an arc, on a line
abbrev pub arc_line : List ℕ → Junction × Junction × ℕ → List ℕ
arc_line word a = word ++ (codes " " ++ (named a.0 ++ (codes " " ++ (named a.1 ++ (codes " " ++ (decimal a.2 ++ (10 ∷ [])))))))

-- the edges of a node in a direction, each after a word
abbrev pub edges_text : Model Junction ℕ → List ℕ → Junction → CompactDirection → List ℕ
edges_text m word n d = flat_map (arc_line word) (edges_shown (λ j. j.value) m n d)

-- a node, with its edges out and in
abbrev pub node_text : Model Junction ℕ → Junction → List ℕ
node_text m n = codes "node " ++ (named n ++ (10 ∷ (edges_text m (codes "out") n Outgoing ++ edges_text m (codes "in") n Incoming)))

abbrev pub nodes_text : Model Junction ℕ → List ℕ
nodes_text m = flat_map (node_text m) (nodes_shown m)

abbrev pub all_edges_text : Model Junction ℕ → List ℕ
all_edges_text m = flat_map (arc_line (codes "arc")) (all_edges_shown m)

-- the counts, each node with its edges, and all edges
abbrev pub map_text : Model Junction ℕ → List ℕ
map_text m = codes "nodes " ++ (decimal (node_count m) ++ (codes " arcs " ++ (decimal (edge_count m) ++ (10 ∷ (nodes_text m ++ all_edges_text m)))))
