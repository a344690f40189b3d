-- What the private calls answer.
use Rattle.std.specs.Prelude.{◌≤◌, ◌≡◌, List, Option, Some, None, All}
use Rattle.kb_term.specs.Tree.{Tree}
use Rattle.kb_term.specs.Pair.{term_limit}
use Rattle.kb_term.specs.Rule.{Rule}
use Rattle.kb_term.specs.Signature.{Signature, SymbolEntry, IsWellFormed, IsRuleOver}
use Rattle.kb_term.specs.View.{tree_of}
use Rattle.kb_term.specs.declared.term.Term.{Term}
use Rattle.kb_decide.specs.Deciding.{Normalises, IsStopped, IsStepBy, Leads}
use Rattle.kb_decide.specs.declared.decision.Line.{Line}
use Rattle.kb_decide.specs.declared.normalising.Run.{Run}
use Rattle.kb_decide.specs.declared.normalising.Run.TheVariants.{Form, Stopped}

-- the rules and the term are over one signature, none of whose symbols takes more than 255 arguments
pub record IsOver (rules : List Rule) (t : Tree) : Type 0 where
  pub signature : Signature
  pub arities : All (λ (f : SymbolEntry). f.arity ≤ 255) signature
  pub over : All (IsRuleOver signature) rules
  pub term_over : IsWellFormed signature t

-- the run of the strategy to a normal form, or the limit that it passes
abbrev pub IsRun : List Rule → Tree → Run → Type 0
IsRun rules t (Form u lines) = Normalises rules lines.items t (tree_of u)
IsRun rules t (Stopped reason) = IsStopped rules t reason

-- the one result of the line's step that passes no limit; none where there is none
abbrev pub IsStepped : List Rule → Line → Tree → Option Term → Type 0
IsStepped rules line s None = (u : Tree) → IsStepBy rules line s u → ¬ (term_limit u ≡ None)
IsStepped rules line s (Some t) = IsStepBy rules line s (tree_of t) × (term_limit (tree_of t) ≡ None) × ((u : Tree) → IsStepBy rules line s u → u ≡ tree_of t)

-- the one term to which the lines lead; none where there is none
abbrev pub IsLed : List Rule → List Line → Tree → Option Term → Type 0
IsLed rules lines s None = (u : Tree) → ¬ Leads rules lines s u
IsLed rules lines s (Some t) = Leads rules lines s (tree_of t) × ((u : Tree) → Leads rules lines s u → u ≡ tree_of t)
