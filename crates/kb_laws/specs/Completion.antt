-- Knuth-Bendix completion of one process, with checks of termination.
use Rattle.std.specs.Prelude.{ℕ, ◌⊎◌, ◌↔◌, List, [], ◌∷◌, Contains, ⊤}
use Rattle.kb_term.specs.Tree.{Tree}
use Rattle.kb_term.specs.Substitution.{IsVariant}
use Rattle.kb_term.specs.Pair.{IsSameEquation}
use Rattle.kb_term.specs.Rule.{Rule, rule_between, IsVariantRule}
use Rattle.kb_term.specs.Signature.{Signature, Problem, IsWellFormed}
use Rattle.kb_term.specs.Proving.{Step, IsPath, RewritesAt}
use Rattle.kb_cert.specs.Family.{IsOrderable}

-- equations, rules, and constraints: the rules that were ever made, which one order must order
pub record KbState : Type 0 where
  pub equations : List (Tree × Tree)
  pub rules : List Rule
  pub constraints : List Rule

-- x is in the list, up to variants
abbrev pub Has : {X : Type 0} → (X → X → Type 0) → List X → X → Type 0
Has {X} Same xs x = (y : X) × Contains xs y × Same y x

-- both lists have the same members, up to variants and repeats
abbrev pub Keeps : {X : Type 0} → (X → X → Type 0) → List X → List X → Type 0
Keeps {X} Same old new = (y : X) → Has Same old y ↔ Has Same new y

-- the new list has the members of the old one, and x
abbrev pub Gains : {X : Type 0} → (X → X → Type 0) → List X → List X → X → Type 0
Gains {X} Same old new x = (y : X) → (Has Same old y ⊎ Same x y) ↔ Has Same new y

-- the old list is the new one and x, which the new one has not
abbrev pub Loses : {X : Type 0} → (X → X → Type 0) → List X → List X → X → Type 0
Loses {X} Same old new x = Gains Same new old x × ¬ Has Same new x

-- the old list loses x and gains z
abbrev pub Replaces : {X : Type 0} → (X → X → Type 0) → List X → List X → X → X → Type 0
Replaces {X} Same old new x z = (rest : List X) × Loses Same old rest x × Gains Same rest new z

-- the same state, up to variants and repeats
pub record IsSameState (old new : KbState) : Type 0 where
  pub equations : Keeps IsSameEquation old.equations new.equations
  pub rules : Keeps IsVariantRule old.rules new.rules
  pub constraints : Keeps IsVariantRule old.constraints new.constraints

-- how the parts of a state change in a step
module _ (old new : KbState) where
  abbrev pub KeepsEquations : Type 0
  KeepsEquations = Keeps IsSameEquation old.equations new.equations

  abbrev pub KeepsRules : Type 0
  KeepsRules = Keeps IsVariantRule old.rules new.rules

  abbrev pub KeepsConstraints : Type 0
  KeepsConstraints = Keeps IsVariantRule old.constraints new.constraints

  abbrev pub GainsEquation : Tree → Tree → Type 0
  GainsEquation s t = Gains IsSameEquation old.equations new.equations (s, t)

  abbrev pub LosesEquation : Tree → Tree → Type 0
  LosesEquation s t = Loses IsSameEquation old.equations new.equations (s, t)

  -- the equation of s and t becomes that of u and t
  abbrev pub ReplacesEquation : Tree → Tree → Tree → Type 0
  ReplacesEquation s t u = Replaces IsSameEquation old.equations new.equations (s, t) (u, t)

  abbrev pub GainsRule : Tree → Tree → Type 0
  GainsRule s t = Gains IsVariantRule old.rules new.rules (rule_between s t)

  abbrev pub LosesRule : Tree → Tree → Type 0
  LosesRule s t = Loses IsVariantRule old.rules new.rules (rule_between s t)

  -- the rule from s to t becomes that from s to u
  abbrev pub ReplacesRule : Tree → Tree → Tree → Type 0
  ReplacesRule s t u = Replaces IsVariantRule old.rules new.rules (rule_between s t) (rule_between s u)

  abbrev pub GainsConstraint : Tree → Tree → Type 0
  GainsConstraint s t = Gains IsVariantRule old.constraints new.constraints (rule_between s t)

-- one step of completion
pub data KbStep (signature : Signature) (old new : KbState) : Type 0 where
  -- one term rewrites to both sides of a new equation
  deduce : (u s t : Tree) → IsWellFormed signature u → Step old.rules u s → Step old.rules u t
      → GainsEquation old new s t → KeepsRules old new → KeepsConstraints old new → KbStep signature old new
  -- an equation becomes a rule, where some order orders it and all rules made so far
  orient : (s t : Tree) → IsOrderable signature (rule_between s t ∷ old.constraints)
      → LosesEquation old new s t → GainsRule old new s t → GainsConstraint old new s t → KbStep signature old new
  -- an equation of a term with itself leaves
  delete : (s : Tree)
      → LosesEquation old new s s → KeepsRules old new → KeepsConstraints old new → KbStep signature old new
  -- a side of an equation is rewritten
  simplify : (s t u : Tree) → Step old.rules s u
      → ReplacesEquation old new s t u → KeepsRules old new → KeepsConstraints old new → KbStep signature old new
  -- the right side of a rule is rewritten by another rule
  compose : (s t u : Tree) (rule : Rule) (p : List ℕ) → Contains old.rules rule → ¬ IsVariantRule rule (rule_between s t) → RewritesAt rule p t u
      → KeepsEquations old new → ReplacesRule old new s t u → KeepsConstraints old new → KbStep signature old new
  -- a rule becomes an equation, as another one, of whose left side the rule's is no variant, rewrites its left side
  collapse : (s t u : Tree) (rule : Rule) (p : List ℕ) → Contains old.rules rule → ¬ IsVariant s rule.left → RewritesAt rule p s u
      → GainsEquation old new u t → LosesRule old new s t → KeepsConstraints old new → KbStep signature old new

-- zero or more steps lead from one state to the other
abbrev pub KbReaches : Signature → KbState → KbState → Type 0
KbReaches signature old new = (path : List KbState) × (last : KbState) × IsPath (KbStep signature) path old last × IsSameState last new

-- each state is reached from the one before it, the first from the given one
abbrev pub KbFollows : Signature → KbState → List KbState → Type 0
KbFollows signature old [] = ⊤
KbFollows signature old (new ∷ states) = KbReaches signature old new × KbFollows signature new states

-- the state with the equations of the problem and no rules
abbrev pub kb_start : Problem → KbState
kb_start problem = record { equations = problem.equations; rules = []; constraints = [] }

-- a run of completion from the equations of the problem
abbrev pub IsKbRun : Problem → List KbState → Type 0
IsKbRun problem states = KbFollows problem.signature (kb_start problem) states
