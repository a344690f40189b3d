-- Answers, and which are good.
use Rattle.std.specs.Prelude.{ℕ, ◌≤◌, List, [], ◌∷◌, map, length, All, IsTrue}
use Rattle.kb_term.specs.Tree.{tree_size}
use Rattle.kb_term.specs.FewArguments.{HasFewArguments}
use Rattle.kb_term.specs.Rule.{Rule}
use Rattle.kb_term.specs.Signature.{Signature, Problem, IsWithinLimits, IsEquationWithinLimits}
use Rattle.kb_cert.specs.CertificateText.{is_certificate}
use Rattle.kb_cert.specs.Family.{Orders}
use Rattle.kb_cert.specs.declared.certificate.Certificate.{Certificate}
use Rattle.kb_overlap.specs.Found.{AreVariablesBelow}
use Rattle.kb_overlap.specs.Trace.{TraceStep, IsRightTrace, IsTracedBy}
use Rattle.kb_laws.specs.Complete.{IsCompleteSystem}
use Rattle.kb_trace.specs.TraceText.{is_up_to, IsTraceForm}
use Rattle.kb_term.specs.declared.limits.TheConstants.{MAX_NODES, MAX_SIZE, MAX_VARIABLES}

-- rules for a problem and the constraints on its order, each with the trace step that it cites, an order, and a trace
pub record Answer : Type 0 where
  pub problem : Problem
  pub rules : List (Rule × ℕ)
  pub constraints : List (Rule × ℕ)
  pub cert : Certificate
  pub trace : List TraceStep

-- the rules without the steps that they cite
abbrev pub rules_of : List (Rule × ℕ) → List Rule
rules_of rules = map (λ (r : Rule × ℕ). r.0) rules

-- a rule's sides are within the limits and numbered by first occurrence; the step that it cites is a number of one
pub record IsRuleForm (sig : Signature) (r : Rule × ℕ) : Type 0 where
  pub sides : IsEquationWithinLimits sig (r.0.left, r.0.right)
  pub cited : IsTrue (is_up_to MAX_NODES r.1)

-- what each answer is, good or not: its parts have the forms that its text may have
pub record IsAnswer (a : Answer) : Type 0 where
  pub problem : IsWithinLimits a.problem
  pub count : length a.rules ≤ MAX_NODES
  pub rules : All (IsRuleForm a.problem.signature) a.rules
  pub constraint_count : length a.constraints ≤ MAX_NODES
  pub constraints : All (IsRuleForm a.problem.signature) a.constraints
  pub cert : IsTrue (is_certificate a.problem.signature a.cert)
  pub trace : IsTraceForm a.problem.signature a.trace

-- variables below 64, a left side of at most size 512, and numbers of arguments that a byte holds
pub record IsReady (rule : Rule) : Type 0 where
  pub variables : AreVariablesBelow MAX_VARIABLES rule
  pub size : tree_size rule.left ≤ MAX_SIZE
  pub arguments : HasFewArguments rule.left

-- the rule has the canonical pair of the step that it cites
abbrev pub IsTraced : List TraceStep → Rule × ℕ → Type 0
IsTraced trace r = IsTracedBy trace r.1 r.0

-- the order makes the left side greater than the right side
abbrev pub IsOriented : Certificate → Rule × ℕ → Type 0
IsOriented cert r = Orders cert (r.0 ∷ [])

-- the rules are a complete system for the problem by the order, which orders the constraints too; each rule and each constraint is traced by its step of a right trace
pub record IsGoodAnswer (a : Answer) : Type 0 where
  pub system : IsCompleteSystem a.problem a.cert (rules_of a.rules)
  pub ordered : Orders a.cert (rules_of a.constraints)
  pub right : IsRightTrace a.problem.equations a.trace
  pub traced : All (IsTraced a.trace) a.rules
  pub constraints_traced : All (IsTraced a.trace) a.constraints
