-- The search for the first redex: subterm by subterm, and rule by rule.
use Rattle.std.specs.Prelude.{ℕ, ◌<◌, ◌≡◌, Bool, true, List, ◌∷◌, ◌++◌, Contains, Option, Some, None, slice_get, Result}
use Rattle.kb_term.specs.Tree.{Tree}
use Rattle.kb_term.specs.Position.{subtree_at, positions_of}
use Rattle.kb_term.specs.Substitution.{Matches, IsVariant}
use Rattle.kb_term.specs.Rule.{Rule}
use Rattle.kb_term.specs.Proving.{RewritesAt}
use Rattle.kb_term.specs.Made.{IsLimitedAnswer}
use Rattle.kb_term.specs.declared.term.Term.{Term}
use Rattle.kb_term.specs.declared.fault.TermFault.{TermFault}
use Rattle.kb_rewrite.specs.NormalForm.{IsFirstRedex, HasNoRedex, IsFound}
use Rattle.kb_rewrite.specs.declared.redex.Redex.{Redex}

-- the rule matches the term u itself; with strict_only, the whole term is no variant of its left side
abbrev pub Applies : Rule → Bool → Tree → Tree → Type 0
Applies rule strict_only whole u = Matches rule.left u × (strict_only ≡ true → ¬ IsVariant whole rule.left)

-- the rule with the number i applies to the term u itself
abbrev pub IsRootRedex : List Rule → Bool → Tree → Tree → ℕ → Type 0
IsRootRedex rules strict_only whole u i = (rule : Rule) × (slice_get rules i ≡ Some rule) × Applies rule strict_only whole u

-- the least number with the property; none where no number has it
abbrev pub IsFirstRule : (ℕ → Type 0) → Option ℕ → Type 0
IsFirstRule P None = (j : ℕ) → ¬ P j
IsFirstRule P (Some i) = P i × ((j : ℕ) → j < i → ¬ P j)

-- no number has the property of a subterm
abbrev pub HasNone : (Tree → ℕ → Type 0) → Tree → Type 0
HasNone P t = (p : List ℕ) (u : Tree) → subtree_at t p ≡ Some u → (j : ℕ) → ¬ P u j

-- at p, the first position in preorder with a subterm of which a number has the property, i is the least such number
pub record IsFirstAt (P : Tree → ℕ → Type 0) (t : Tree) (p : List ℕ) (i : ℕ) : Type 0 where
  pub here : Tree
  pub there : subtree_at t p ≡ Some here
  pub first : IsFirstRule (P here) (Some i)
  pub before : List (List ℕ)
  pub after : List (List ℕ)
  pub in_preorder : positions_of t ≡ before ++ p ∷ after
  pub none_before : (q : List ℕ) → Contains before q → (u : Tree) → subtree_at t q ≡ Some u → (j : ℕ) → ¬ P u j

-- what the redex says: the first one, with the kind of its rule; none where there is none
abbrev pub IsRedexAnswer : List Rule → Bool → Tree → Option Redex → Type 0
IsRedexAnswer rules strict_only t None = HasNoRedex rules strict_only t
IsRedexAnswer rules strict_only t (Some r) =
    IsFirstRedex rules strict_only t r.position r.rule × ((rule : Rule) → slice_get rules r.rule ≡ Some rule → IsFound t rule r.kind)

-- what the step by the rule with the number i at p answers: the result, or the limit that it passes
abbrev pub IsStepAnswer : List Rule → Tree → List ℕ → ℕ → Result Term TermFault → Type 0
IsStepAnswer rules t p i answer = (rule : Rule) → slice_get rules i ≡ Some rule → (v : Tree) × RewritesAt rule p t v × IsLimitedAnswer v answer
