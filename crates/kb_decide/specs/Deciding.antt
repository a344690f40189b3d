-- Goals that rules decide, and the lines that show it.
use Rattle.std.specs.Prelude.{ℕ, ◌+◌, ◌≤◌, ◌≡◌, ◌≢◌, List, [], ◌∷◌, length, All, Some, None, slice_get, false, ⊤}
use Rattle.kb_term.specs.Tree.{Tree}
use Rattle.kb_term.specs.Pair.{term_limit}
use Rattle.kb_term.specs.Rule.{Rule}
use Rattle.kb_term.specs.Signature.{Signature, SymbolEntry, IsWellFormed, IsRuleOver}
use Rattle.kb_term.specs.Proving.{RewritesAt, Proves, IsConfluent, equations_of}
use Rattle.kb_term.specs.View.{tree_of}
use Rattle.kb_term.specs.declared.term.Term.{Term}
use Rattle.kb_term.specs.declared.limit.Limit.{Limit}
use Rattle.kb_term.specs.declared.limit.Limit.TheVariants as limits
use Rattle.kb_rewrite.specs.NormalForm.{IsFirstRedex, Normalised, NormalisesTo, form, long, large}
use Rattle.kb_decide.specs.declared.decision.Line.{Line}
use Rattle.kb_decide.specs.declared.decision.Decision.{Decision}
use Rattle.kb_decide.specs.declared.decision.Decision.TheVariants.{Yes, No, Unknown}
use Rattle.kb_decide.specs.declared.decision.Reason.{Reason}
use Rattle.kb_decide.specs.declared.decision.Reason.TheVariants.{Steps, Size, Depth}

-- the rules, and the two sides of the goal, are over one signature, none of whose symbols takes more than 255 arguments
pub record IsGoalFor (rules : List Rule) (left right : Tree) : Type 0 where
  pub signature : Signature
  pub arities : All (λ (f : SymbolEntry). f.arity ≤ 255) signature
  pub over : All (IsRuleOver signature) rules
  pub left_over : IsWellFormed signature left
  pub right_over : IsWellFormed signature right

-- ---- lines

-- the rule with the line's number, counted from 1, rewrites s to t at the line's position
pub record IsStepBy (rules : List Rule) (line : Line) (s t : Tree) : Type 0 where
  pub index : ℕ
  pub number : line.rule ≡ index + 1
  pub rule : Rule
  pub there : slice_get rules index ≡ Some rule
  pub rewrites : RewritesAt rule line.position s t

-- the line is the step of the strategy from s to t: at the first redex
pub record IsStrategyStepBy (rules : List Rule) (line : Line) (s t : Tree) : Type 0 where
  pub index : ℕ
  pub number : line.rule ≡ index + 1
  pub first : IsFirstRedex rules false s line.position index
  pub rewrites : RewritesAt first.redex.rule line.position s t

-- line by line a step of this kind leads from s to t, and no result of one passes a limit
abbrev pub LeadsBy : (Line → Tree → Tree → Type 0) → List Line → Tree → Tree → Type 0
LeadsBy Goes [] s t = s ≡ t
LeadsBy Goes (line ∷ lines) s t = (u : Tree) × Goes line s u × (term_limit u ≡ None) × LeadsBy Goes lines u t

-- the lines are steps by the rules, from s to t
abbrev pub Leads : List Rule → List Line → Tree → Tree → Type 0
Leads rules = LeadsBy (IsStepBy rules)

-- the lines are the run of the strategy from s to its normal form t
abbrev pub Normalises : List Rule → List Line → Tree → Tree → Type 0
Normalises rules lines s t = LeadsBy (IsStrategyStepBy rules) lines s t × NormalisesTo rules s (form t (length lines))

-- ---- decisions

-- the limit is one of size or depth, and the reason names it
abbrev pub IsLimitReason : Limit → Reason → Type 0
IsLimitReason limits.Size reason = reason ≡ Size
IsLimitReason limits.Depth reason = reason ≡ Depth
IsLimitReason limits.Variables reason = ⊥

-- why there is no normal form within the limits
abbrev pub IsReason : Normalised → Reason → Type 0
IsReason (form t n) reason = ⊥
IsReason (long n) reason = reason ≡ Steps
IsReason (large limit) reason = IsLimitReason limit reason

-- normalising s passes this limit
abbrev pub IsStopped : List Rule → Tree → Reason → Type 0
IsStopped rules s reason = (a : Normalised) × NormalisesTo rules s a × IsReason a reason

-- s has a normal form within the limits
abbrev pub HasForm : List Rule → Tree → Type 0
HasForm rules s = (t : Tree) × (n : ℕ) × NormalisesTo rules s (form t n)

-- one side of the goal passes this limit, the left one where it passes one
pub data IsUnknown (rules : List Rule) (left right : Tree) (reason : Reason) : Type 0 where
  by_left : IsStopped rules left reason → IsUnknown rules left right reason
  by_right : HasForm rules left → IsStopped rules right reason → IsUnknown rules left right reason

-- the decision of the goal: the runs of the strategy from both sides to one normal form; the two normal forms, which differ; or the limit that a side passes
abbrev pub IsDecision : List Rule → Tree → Tree → Decision → Type 0
IsDecision rules left right (Yes ls rs) = (t : Tree) × Normalises rules ls.items left t × Normalises rules rs.items right t
IsDecision rules left right (No s t) =
    ((n : ℕ) × NormalisesTo rules left (form (tree_of s) n)) × ((n : ℕ) × NormalisesTo rules right (form (tree_of t) n)) × (tree_of s ≢ tree_of t)
IsDecision rules left right (Unknown reason) = IsUnknown rules left right reason

-- the decision is yes, and its lines lead both sides to one term
abbrev pub Replays : List Rule → Tree → Tree → Decision → Type 0
Replays rules left right (Yes ls rs) = (t : Tree) × Leads rules ls.items left t × Leads rules rs.items right t
Replays rules left right d = ⊥

-- ---- what decisions mean

-- the decision is yes
abbrev pub IsYes : Decision → Type 0
IsYes (Yes ls rs) = ⊤
IsYes d = ⊥

-- the rules prove the goal
abbrev pub ProvesGoal : List Rule → Tree → Tree → Type 0
ProvesGoal rules left right = Proves (equations_of rules) left right

-- the rules are over the signature and confluent over it, and the goal is over it
pub record IsDecidable (signature : Signature) (rules : List Rule) (left right : Tree) : Type 0 where
  pub over : All (IsRuleOver signature) rules
  pub confluent : IsConfluent signature rules
  pub left_over : IsWellFormed signature left
  pub right_over : IsWellFormed signature right

-- a no with these two normal forms is right: where the goal can be decided, the rules don't prove it
abbrev pub IsRightNo : Signature → List Rule → Tree → Tree → Term → Term → Type 0
IsRightNo signature rules left right s t = IsDecidable signature rules left right → IsDecision rules left right (No s t) → ¬ ProvesGoal rules left right
