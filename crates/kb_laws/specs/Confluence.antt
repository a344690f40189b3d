-- When rules are confluent, and what confluence decides.
use Rattle.std.specs.Prelude.{◌↔◌, List, All}
use Rattle.kb_term.specs.Tree.{Tree}
use Rattle.kb_term.specs.Rule.{Rule}
use Rattle.kb_term.specs.Signature.{Signature, IsWellFormed, IsRuleOver}
use Rattle.kb_term.specs.Proving.{Step, IsTerminating, IsConfluent, IsJoinable, Proves, equations_of}
use Rattle.kb_laws.specs.Overlaps.{OverlapsJoin, OverlapsClose}

-- any two steps from one term lead to joinable terms
abbrev pub IsLocallyConfluent : List Rule → Type 0
IsLocallyConfluent rules = (s t u : Tree) → Step rules s t → Step rules s u → IsJoinable rules t u

-- any two steps from one term over the signature lead to joinable terms
abbrev pub IsLocallyConfluentOver : Signature → List Rule → Type 0
IsLocallyConfluentOver signature rules = (s t u : Tree) → IsWellFormed signature s → Step rules s t → Step rules s u → IsJoinable rules t u

-- where all overlaps are joinable, the rules are locally confluent
abbrev pub CriticalPairLemma : Signature → List Rule → Type 0
CriticalPairLemma signature rules = All (IsRuleOver signature) rules → OverlapsJoin rules → IsLocallyConfluent rules

-- terms that normalise to one are joinable
abbrev pub ClosedOverlapsJoin : List Rule → Type 0
ClosedOverlapsJoin rules = OverlapsClose rules → OverlapsJoin rules

-- terminating and locally confluent rules are confluent
abbrev pub NewmansLemma : Signature → List Rule → Type 0
NewmansLemma signature rules = All (IsRuleOver signature) rules → IsTerminating signature rules → IsLocallyConfluentOver signature rules → IsConfluent signature rules

-- terminating rules whose overlaps are joinable are confluent
abbrev pub ConfluentByOverlaps : Signature → List Rule → Type 0
ConfluentByOverlaps signature rules = All (IsRuleOver signature) rules → IsTerminating signature rules → OverlapsJoin rules → IsConfluent signature rules

-- confluent rules prove an equation between terms over the signature exactly where its sides are joinable
abbrev pub ChurchRosser : Signature → List Rule → Type 0
ChurchRosser signature rules =
    All (IsRuleOver signature) rules → IsConfluent signature rules
    → (s t : Tree) → IsWellFormed signature s → IsWellFormed signature t → Proves (equations_of rules) s t ↔ IsJoinable rules s t
