-- A problem whose completion needs an overlap: f(f(x)) = a.
use Rattle.std.specs.Prelude.{List, [], ◌∷◌}
use Rattle.kb_term.specs.Tree.{Tree, variable, apply_to}
use Rattle.kb_term.specs.Rule.{Rule}
use Rattle.kb_term.specs.Signature.{Signature, Problem}
use Rattle.kb_cert.specs.declared.certificate.Certificate.{Certificate}
use Rattle.kb_cert.specs.declared.certificate.Certificate.TheVariants.{Lpo}
use Rattle.kb_laws.specs.Complete.{problem_of}

-- the symbols f of one argument, number 0, and a, number 1
abbrev pub square_signature : Signature
square_signature = record { name = 102 ∷ []; arity = 1 } ∷ record { name = 97 ∷ []; arity = 0 } ∷ []

-- f(t), and a
abbrev pub f : Tree → Tree
f t = apply_to 0 (t ∷ [])

abbrev pub a : Tree
a = apply_to 1 []

-- f(f(x)) = a
abbrev pub square_problem : Problem
square_problem = problem_of square_signature (f (f (variable 0)), a)

-- the path order with f above a
abbrev pub square_order : Certificate
square_order = Lpo (0 ∷ 1 ∷ [])

-- f(f(x)) -> a and f(a) -> a
abbrev pub square_rules : List Rule
square_rules = record { left = f (f (variable 0)); right = a } ∷ record { left = f a; right = a } ∷ []
