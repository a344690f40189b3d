-- The text of an answer's rules as a problem.
use Rattle.std.specs.Prelude.{ℕ, ◌+◌, max, List, [], ◌∷◌, ◌++◌, map, flat_map, codes}
use Rattle.std.specs.List.{range_with_len}
use Rattle.kb_term.specs.Rule.{Rule}
use Rattle.kb_term.specs.Signature.{Problem}
use Rattle.kb_term.specs.Tree.{Tree, variables_of}
use Rattle.kb_text.specs.Lines.{line}
use Rattle.kb_text.specs.Names.{Name}
use Rattle.kb_text.specs.Terms.{names_of, variable_text, infix_text}
use Rattle.kb_checker.specs.Answers.{Answer}

-- the sides of the rules, which each cite a step
abbrev pub sides_of : List (Rule × ℕ) → List (Tree × Tree)
sides_of rules = map (λ (r : Rule × ℕ). (r.0.left, r.0.right)) rules

-- the rules of an answer as equations over its signature
abbrev pub rules_problem : Answer → Problem
rules_problem a = record { signature = a.problem.signature; equations = sides_of a.rules }

-- one more than the greatest of the numbers; 0 where there is none
abbrev pub bound_of : List ℕ → ℕ
bound_of [] = 0
bound_of (n ∷ ns) = max (n + 1) (bound_of ns)

-- one more than the greatest variable of the equations
abbrev pub variable_bound_of : List (Tree × Tree) → ℕ
variable_bound_of [] = 0
variable_bound_of (e ∷ es) = max (max (bound_of (variables_of e.0)) (bound_of (variables_of e.1))) (variable_bound_of es)

abbrev pub arrow_line : List Name → Tree × Tree → List ℕ
arrow_line names e = line (infix_text names (codes "->") e.0 e.1)

-- a line of variables, up to the greatest that stands in an equation, and a line for each equation, read from left to right
abbrev pub rules_text : Problem → List ℕ
rules_text p = let names = names_of p.signature in
    codes "(VAR" ++ flat_map (λ n. 32 ∷ variable_text names n) (range_with_len 0 (variable_bound_of p.equations)) ++ codes ")\n"
    ++ codes "(RULES\n" ++ flat_map (arrow_line names) p.equations ++ codes ")\n"
