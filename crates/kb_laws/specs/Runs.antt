-- What the steps and runs of completion keep.
use Rattle.std.specs.Prelude.{◌↔◌, List, ◌++◌, All, Contains}
use Rattle.kb_term.specs.Tree.{Tree}
use Rattle.kb_term.specs.Rule.{Rule}
use Rattle.kb_term.specs.Signature.{Signature, Problem, IsWellFormed, IsRuleOver}
use Rattle.kb_term.specs.Proving.{Step, Reaches, Proves, equations_of}
use Rattle.kb_cert.specs.Family.{IsOrderable}
use Rattle.kb_laws.specs.Completion.{KbState, KbStep, IsKbRun}

-- the equations of a state, and its rules as equations
abbrev pub all_of : KbState → List (Tree × Tree)
all_of state = state.equations ++ equations_of state.rules

-- both lists of equations prove the same
abbrev pub ProveSame : List (Tree × Tree) → List (Tree × Tree) → Type 0
ProveSame some others = (s t : Tree) → Proves some s t ↔ Proves others s t

-- one or more steps lead from s to t
abbrev pub ReachesByStep : List Rule → Tree → Tree → Type 0
ReachesByStep rules s t = (u : Tree) × Step rules s u × Reaches rules u t

-- each rule of the state is a chain of one or more steps by its constraint rules
abbrev pub IsChained : KbState → Type 0
IsChained state = (rule : Rule) → Contains state.rules rule → ReachesByStep state.constraints rule.left rule.right

-- both sides are terms over the signature
abbrev pub IsEquationOver : Signature → Tree × Tree → Type 0
IsEquationOver signature e = IsWellFormed signature e.0 × IsWellFormed signature e.1

-- the equations are equations, and the rules and constraint rules are rules over the signature
pub record IsStateOver (signature : Signature) (state : KbState) : Type 0 where
  pub equations : All (IsEquationOver signature) state.equations
  pub rules : All (IsRuleOver signature) state.rules
  pub constraints : All (IsRuleOver signature) state.constraints

-- a step keeps what equations and rules together prove
abbrev pub StepKeepsProved : Signature → Type 0
StepKeepsProved signature = (old new : KbState) → KbStep signature old new → ProveSame (all_of old) (all_of new)

-- a step from a state over the signature leads to one
abbrev pub StepKeepsOver : Signature → Type 0
StepKeepsOver signature = (old new : KbState) → KbStep signature old new → IsStateOver signature old → IsStateOver signature new

-- a step keeps that each rule is a chain of constraint rules
abbrev pub StepKeepsChained : Signature → Type 0
StepKeepsChained signature = (old new : KbState) → KbStep signature old new → IsChained old → IsChained new

-- a step keeps that some member of a family orders the constraint rules
abbrev pub StepKeepsOrderable : Signature → Type 0
StepKeepsOrderable signature = (old new : KbState) → KbStep signature old new → IsOrderable signature old.constraints → IsOrderable signature new.constraints

-- the equations and rules of each state prove exactly what the equations of the problem prove
abbrev pub RunKeepsProved : Problem → List KbState → Type 0
RunKeepsProved problem states = IsKbRun problem states → (state : KbState) → Contains states state → ProveSame problem.equations (all_of state)

-- in each state each rule is a chain of constraint rules
abbrev pub RunIsChained : Problem → List KbState → Type 0
RunIsChained problem states = IsKbRun problem states → (state : KbState) → Contains states state → IsChained state

-- where the equations of the problem are over the signature, each state is
abbrev pub RunIsOver : Problem → List KbState → Type 0
RunIsOver problem states =
    IsKbRun problem states → All (IsEquationOver problem.signature) problem.equations → (state : KbState) → Contains states state → IsStateOver problem.signature state

-- some member of a family orders the constraint rules of each state
abbrev pub RunIsOrderable : Problem → List KbState → Type 0
RunIsOrderable problem states = IsKbRun problem states → (state : KbState) → Contains states state → IsOrderable problem.signature state.constraints
