-- The graph of a trace, in the language of Graphviz.
use Rattle.std.specs.Prelude.{ℕ, ◌+◌, ◌==◌, List, [], ◌∷◌, ◌++◌, cond, flat_map, codes, decimal}
use Rattle.kb_term.specs.Rule.{Rule}
use Rattle.kb_term.specs.Tree.{Tree}
use Rattle.kb_term.specs.declared.origin.Origin.{Origin}
use Rattle.kb_term.specs.declared.origin.Origin.TheVariants.{Input, Rewrite, Overlap}
use Rattle.kb_overlap.specs.Trace.{TraceStep}
use Rattle.kb_text.specs.Names.{Name}
use Rattle.kb_text.specs.Terms.{names_of, term_text}
use Rattle.kb_checker.specs.Answers.{Answer}
use Rattle.kb_export.specs.declared.graph.Node.{Node}
use Rattle.kb_export.specs.declared.graph.Node.TheVariants.{Equation, Step}

-- a byte as it stands between quotes: a quote and a backslash behind a backslash, and an ampersand by its name
abbrev pub escaped_byte : ℕ → List ℕ
escaped_byte b = cond (b == 34) (codes "\\\"") (cond (b == 92) (codes "\\\\") (cond (b == 38) (codes "&amp;") (b ∷ [])))

abbrev pub escaped : List ℕ → List ℕ
escaped bytes = flat_map escaped_byte bytes

-- the name of a node
abbrev pub node_text : Node → List ℕ
node_text (Equation n) = codes "input" ++ decimal n
node_text (Step n) = codes "step" ++ decimal n

-- two terms with a sign between, as they stand between quotes
abbrev pub label_text : List Name → List ℕ → Tree × Tree → List ℕ
label_text names sign e = escaped (term_text names e.0) ++ sign ++ escaped (term_text names e.1)

-- a node with its equation
abbrev pub node_line : List Name → Node → Tree × Tree → List ℕ
node_line names node e = node_text node ++ codes " [label=\"" ++ node_text node ++ codes ": " ++ label_text names (codes " = ") e ++ codes "\"];\n"

abbrev pub arrow_line : Node → Node → List ℕ
arrow_line from to = node_text from ++ codes " -> " ++ node_text to ++ codes ";\n"

-- an arrow from each equation and each step that a step is made of
abbrev pub origin_lines : ℕ → Origin → List ℕ
origin_lines k (Input i) = arrow_line (Equation i) (Step k)
origin_lines k (Rewrite a w p r) = arrow_line (Step a) (Step k) ++ arrow_line (Step r.node) (Step k)
origin_lines k (Overlap a b p) = arrow_line (Step a.node) (Step k) ++ arrow_line (Step b.node) (Step k)

-- the equations, numbered from k
abbrev pub equation_lines : List Name → ℕ → List (Tree × Tree) → List ℕ
equation_lines names k [] = []
equation_lines names k (e ∷ es) = node_line names (Equation k) e ++ equation_lines names (k + 1) es

-- a step, and what it is made of
abbrev pub step_text : List Name → ℕ → TraceStep → List ℕ
step_text names k s = node_line names (Step k) (s.pair.first, s.pair.second) ++ origin_lines k s.origin

-- the steps, numbered from k
abbrev pub step_lines : List Name → ℕ → List TraceStep → List ℕ
step_lines names k [] = []
step_lines names k (s ∷ ss) = step_text names k s ++ step_lines names (k + 1) ss

-- the step that a rule cites is drawn bold, with the rule in place of its equation
abbrev pub rule_line : List Name → Rule × ℕ → List ℕ
rule_line names r = node_text (Step r.1) ++ codes " [style=bold, label=\"" ++ node_text (Step r.1) ++ codes ": " ++ label_text names (codes " -> ") (r.0.left, r.0.right) ++ codes "\"];\n"

-- a node for each equation and each step, the arrows, and what marks the rules
abbrev pub graph_text : Answer → List ℕ
graph_text a = let names = names_of a.problem.signature in
    codes "digraph trace {\nnode [shape=box];\n"
    ++ equation_lines names 1 a.problem.equations ++ step_lines names 1 a.trace ++ flat_map (rule_line names) a.rules
    ++ codes "}\n"
