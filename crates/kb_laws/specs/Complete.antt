-- Complete systems: from a run of completion, and of one rule.
use Rattle.std.specs.Prelude.{ℕ, Some, ◌↔◌, ◌≡◌, List, [], ◌∷◌, All, Contains, true}
use Rattle.kb_term.specs.Tree.{Tree}
use Rattle.kb_term.specs.Pair.{Pair, canonical_pair, IsSameEquation}
use Rattle.kb_term.specs.Rule.{Rule, rule_of}
use Rattle.kb_term.specs.Signature.{Signature, Problem, IsWellFormed, IsRuleOver}
use Rattle.kb_term.specs.Proving.{IsTerminating, IsConfluent, IsJoinable, Proves, equations_of}
use Rattle.kb_cert.specs.Family.{IsMember, Orders}
use Rattle.kb_cert.specs.declared.certificate.Certificate.{Certificate}
use Rattle.kb_overlap.specs.Overlap.{IsOverlapList}
use Rattle.kb_laws.specs.Completion.{KbState, IsKbRun}
use Rattle.kb_laws.specs.Overlaps.{OverlapsJoin}
use Rattle.kb_laws.specs.Runs.{ProveSame, IsEquationOver}

-- Rules over the signature that the order orders, terminating and confluent, which prove what the equations of the problem prove:
-- between terms over the signature exactly what is joinable.
pub record IsCompleteSystem (problem : Problem) (order : Certificate) (rules : List Rule) : Type 0 where
  pub over : All (IsRuleOver problem.signature) rules
  pub ordered : Orders order rules
  pub terminating : IsTerminating problem.signature rules
  pub confluent : IsConfluent problem.signature rules
  pub proves_same : ProveSame problem.equations (equations_of rules)
  pub decides : (s t : Tree) → IsWellFormed problem.signature s → IsWellFormed problem.signature t → Proves problem.equations s t ↔ IsJoinable rules s t

-- a state of a run that has no equations, whose constraint rules a member of a family orders, and whose overlaps are joinable
pub record IsCompleteState (problem : Problem) (states : List KbState) (order : Certificate) (state : KbState) : Type 0 where
  pub run : IsKbRun problem states
  pub over : All (IsEquationOver problem.signature) problem.equations
  pub reached : Contains states state
  pub no_equations : state.equations ≡ []
  pub member : IsMember problem.signature order
  pub ordered : Orders order state.constraints
  pub joinable : OverlapsJoin state.rules

-- the rules of a complete state are a complete system for the problem
abbrev pub CompleteStateIsSystem : Problem → List KbState → Certificate → KbState → Type 0
CompleteStateIsSystem problem states order state = IsCompleteState problem states order state → IsCompleteSystem problem order state.rules

-- a rule between terms over the signature that a member of a family orders and that doesn't overlap itself
pub record IsLoneRule (signature : Signature) (order : Certificate) (rule : Rule) : Type 0 where
  pub over : IsEquationOver signature (rule.left, rule.right)
  pub member : IsMember signature order
  pub ordered : Orders order (rule ∷ [])
  pub no_overlap : IsOverlapList rule rule true []

-- the problem of one equation
abbrev pub problem_of : Signature → Tree × Tree → Problem
problem_of signature e = record { signature = signature; equations = e ∷ [] }

-- such a rule that is an equation, up to variants and to the order of sides, is a complete system for that equation
abbrev pub LoneRuleIsSystem : Signature → Certificate → Rule → Tree × Tree → Type 0
LoneRuleIsSystem signature order rule e =
    IsLoneRule signature order rule → IsSameEquation e (rule.left, rule.right) → IsCompleteSystem (problem_of signature e) order (rule ∷ [])

-- so is such a rule that is the canonical pair of an equation in either direction
abbrev pub PairRuleIsSystem : Signature → Certificate → Rule → Tree × Tree → Type 0
PairRuleIsSystem signature order rule e =
    (pair : Pair) (direction : ℕ) → IsLoneRule signature order rule → canonical_pair e.0 e.1 ≡ Some pair → rule ≡ rule_of pair direction
    → IsCompleteSystem (problem_of signature e) order (rule ∷ [])
