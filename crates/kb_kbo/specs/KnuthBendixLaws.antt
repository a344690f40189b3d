-- Laws of the Knuth-Bendix order.
use Rattle.std.specs.Prelude.{◌≤◌, ◌<◌, List, length, All, Contains}
use Rattle.kb_term.specs.Tree.{Tree, variables_of}
use Rattle.kb_term.specs.Rule.{Rule, IsRule}
use Rattle.kb_term.specs.Signature.{Signature, IsWellFormed, IsRuleOver}
use Rattle.kb_term.specs.Proving.{Step, IsChain, IsTerminating}
use Rattle.kb_kbo.specs.KnuthBendix.{KboOrder, KboGreater, weight}
use Rattle.kb_kbo.specs.Orders.{KboOrients}

-- each symbol weighs at least 1
abbrev pub HasWeights : KboOrder → Type 0
HasWeights order = All (λ n. 1 ≤ n) order.weights

-- what rules rewrite becomes smaller, where the order orients them
abbrev pub RewritingDescends : KboOrder → Type 0
RewritingDescends order = HasWeights order → (rules : List Rule) → KboOrients order rules → (s t : Tree) → Step rules s t → KboGreater order s t

-- what the order orients is a rule
abbrev pub OrientsRulesOnly : KboOrder → Type 0
OrientsRulesOnly order = HasWeights order → (rule : Rule) → KboGreater order rule.left rule.right → IsRule rule

-- u is a term over the signature and the variables of t, and weighs at most what t weighs
pub record IsLighter (signature : Signature) (order : KboOrder) (t u : Tree) : Type 0 where
  pub over : IsWellFormed signature u
  pub variables : All (Contains (variables_of t)) (variables_of u)
  pub weighs : weight order u ≤ weight order t

-- the list has all terms that are lighter than t, t itself among them
abbrev pub HasLighter : Signature → KboOrder → Tree → List Tree → Type 0
HasLighter signature order t terms = (u : Tree) → IsLighter signature order t u → Contains terms u

-- some list has all of them: they are finitely many
abbrev pub LighterAreFew : Signature → KboOrder → Type 0
LighterAreFew signature order = HasWeights order → (t : Tree) → (terms : List Tree) × HasLighter signature order t terms

-- a chain from a term has fewer steps than there are terms over its variables that weigh at most what it weighs
abbrev pub ChainsAreShort : Signature → KboOrder → Type 0
ChainsAreShort signature order =
    HasWeights order → (rules : List Rule) → All (IsRuleOver signature) rules → KboOrients order rules
    → (t : Tree) → IsWellFormed signature t → (terms : List Tree) → HasLighter signature order t terms
    → (path : List Tree) (u : Tree) → IsChain rules path t u → length path < length terms

-- rules over the signature that the order orients halt on each well-formed term
abbrev pub HaltsWhatItOrients : Signature → KboOrder → Type 0
HaltsWhatItOrients signature order = HasWeights order → (rules : List Rule) → All (IsRuleOver signature) rules → KboOrients order rules → IsTerminating signature rules
