-- The lines of the report, as they are written one after another.
use Rattle.std.proofs.Common.{◌≡◌, ℕ, ◌^◌, ◌<◌, List, [], ◌∷◌, ◌++◌, length, codes, decimal, Result, sym, ap, ◌∙◌, append_assoc}
use Rattle.std.specs.List.{flat_map}
use Rattle.std.proofs.lemmas.List.{append-nil, flat_map_more}
use Rattle.decimal.specs.Digits.{digits}
use Rattle.decimal.proofs.Writing.{same_as_decimal}
use Rattle.fault.specs.declared.Fault.{Fault}
use Rattle.network_file.specs.Layout.{Contents}
use Rattle.network_file.specs.declared.arc.FileArc.{FileArc}
use Rattle.inspect.specs.Report.{counts_line, node_line, arc_line, answer_text, told}

pub counts_told : (contents : Contents) (nodes arcs : ℕ) → nodes < 2 ^ 64 → arcs < 2 ^ 64 → nodes ≡ length contents.nodes → arcs ≡ length contents.arcs → codes "nodes " ++ (decimal nodes ++ (codes " arcs " ++ (decimal arcs ++ (10 ∷ [])))) ≡ counts_line contents
counts_told contents nodes arcs n-fits m-fits n m =
    rw (same_as_decimal nodes n-fits, same_as_decimal arcs m-fits, n, m)
    (ap (λ l. codes "nodes " ++ (digits (length contents.nodes) ++ (codes " arcs " ++ (l ++ (10 ∷ []))))) (sym (append-nil (digits (length contents.arcs)))))

pub node_told : (node : ℕ) → node < 2 ^ 64 → codes "node " ++ (decimal node ++ (10 ∷ [])) ≡ node_line node
node_told node fits = rw (same_as_decimal node fits) (ap (λ l. codes "node " ++ (l ++ (10 ∷ []))) (sym (append-nil (digits node))))

three : (a b c : List ℕ) → a ++ (32 ∷ (b ++ (32 ∷ (c ++ (10 ∷ []))))) ≡ (a ++ (32 ∷ (b ++ (32 ∷ (c ++ []))))) ++ (10 ∷ [])
three a b c =
    let p = append_assoc b (32 ∷ c) (10 ∷ []) in
    let q = append_assoc a (32 ∷ (b ++ (32 ∷ c))) (10 ∷ []) in
    rw (append-nil c) (sym (q ∙ ap (λ l. a ++ (32 ∷ l)) p))

pub arc_told : (arc : FileArc) → arc.source < 2 ^ 64 → arc.target < 2 ^ 64 → arc.weight < 2 ^ 64 → codes "arc " ++ (decimal arc.source ++ (codes " " ++ (decimal arc.target ++ (codes " " ++ (decimal arc.weight ++ (10 ∷ [])))))) ≡ arc_line arc
arc_told arc s t w =
    rw (same_as_decimal arc.source s, same_as_decimal arc.target t, same_as_decimal arc.weight w)
    (ap (λ l. codes "arc " ++ l) (three (digits arc.source) (digits arc.target) (digits arc.weight)))

pub report_told : (count : ℕ) (answer : Result Contents Fault) (text : List ℕ) → count < 2 ^ 64 → text ≡ answer_text answer → (codes "read " ++ (decimal count ++ codes " bytes\n")) ++ text ≡ told count answer
unfolding told
report_told count answer text fits is = rw (same_as_decimal count fits, is) (ap (λ l. codes "read " ++ l) (append_assoc (digits count) (codes " bytes\n") (answer_text answer)))

-- one line more
pub line_more : {X : Type 0} (f : X → List ℕ) (start line : List ℕ) (xs : List X) (x : X) → line ≡ f x → (start ++ flat_map f xs) ++ line ≡ start ++ flat_map f (xs ++ (x ∷ []))
line_more f start line xs x is = ap (λ l. (start ++ flat_map f xs) ++ l) is ∙ flat_map_more f start xs x

-- one item more has come, and the others are still to come
pub one_more : {X : Type 0} (xs rest others all : List X) (x : X) → xs ++ rest ≡ all → rest ≡ x ∷ others → (xs ++ (x ∷ [])) ++ others ≡ all
one_more xs rest others all x is begins = append_assoc xs (x ∷ []) others ∙ (ap (λ l. xs ++ l) (sym begins) ∙ is)
