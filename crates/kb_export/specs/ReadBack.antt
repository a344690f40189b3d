-- Texts that are read back as the same equations, whose symbols may have other numbers.
use Rattle.std.specs.Prelude.{◌≡◌, ℕ, List, [], ◌∷◌, ⊤}
use Rattle.kb_term.specs.Signature.{Problem}
use Rattle.kb_term.specs.Tree.{Tree, variable, apply, Trees, no_trees, more_trees}
use Rattle.kb_text.specs.Names.{Name}
use Rattle.kb_text.specs.Problems.{Spells}
use Rattle.kb_text.specs.Terms.{names_of, symbol_text}

-- the same term: its symbols have the same names, and its variables the same numbers
abbrev mutual
  pub IsSameTerm : List Name → Tree → List Name → Tree → Type 0
  IsSameTerm names (variable m) others (variable n) = m ≡ n
  IsSameTerm names (variable m) others (apply g us) = ⊥
  IsSameTerm names (apply f ts) others (variable n) = ⊥
  IsSameTerm names (apply f ts) others (apply g us) = (symbol_text names f ≡ symbol_text others g) × AreSameTerms names ts others us

  pub AreSameTerms : List Name → Trees → List Name → Trees → Type 0
  AreSameTerms names no_trees others no_trees = ⊤
  AreSameTerms names no_trees others (more_trees u us) = ⊥
  AreSameTerms names (more_trees t ts) others no_trees = ⊥
  AreSameTerms names (more_trees t ts) others (more_trees u us) = IsSameTerm names t others u × AreSameTerms names ts others us

-- the same equations, in their order
abbrev pub AreSameEquations : List Name → List (Tree × Tree) → List Name → List (Tree × Tree) → Type 0
AreSameEquations names [] others [] = ⊤
AreSameEquations names [] others (d ∷ ds) = ⊥
AreSameEquations names (e ∷ es) others [] = ⊥
AreSameEquations names (e ∷ es) others (d ∷ ds) = IsSameTerm names e.0 others d.0 × IsSameTerm names e.1 others d.1 × AreSameEquations names es others ds

-- the bytes spell a problem with the same equations
pub record SpellsSame (bytes : List ℕ) (p : Problem) : Type 0 where
  pub problem : Problem
  pub spelled : Spells bytes problem
  pub same : AreSameEquations (names_of p.signature) p.equations (names_of problem.signature) problem.equations
