-- What the orders of the families order halts.
use Rattle.std.specs.Prelude.{List, ◌<◌, length, All, Contains}
use Rattle.kb_term.specs.Tree.{Tree}
use Rattle.kb_term.specs.Rule.{Rule, IsRule}
use Rattle.kb_term.specs.Signature.{Signature, IsWellFormed, IsRuleOver}
use Rattle.kb_term.specs.Proving.{IsChain, IsTerminating}
use Rattle.kb_linear.specs.LinearOrder.{Interpretation, IsInterpretationOf}
use Rattle.kb_linear.specs.Interpretations.{LinearOrients}
use Rattle.kb_kbo.specs.KnuthBendix.{KboOrder}
use Rattle.kb_kbo.specs.KnuthBendixLaws.{HasLighter}
use Rattle.kb_cert.specs.Family.{family, IsMember, Orders}
use Rattle.kb_cert.specs.declared.certificate.Certificate.{Certificate}
use Rattle.kb_cert.specs.declared.certificate.Certificate.TheVariants.{Kbo}
use Rattle.kb_cert.specs.declared.family.Family.{Family}

-- the family has a member
abbrev pub HasMember : Family → Signature → Type 0
HasMember f signature = (order : Certificate) × Contains (family f signature) order

-- what a member of a family orders are rules
abbrev pub MemberOrdersRulesOnly : Signature → Certificate → Type 0
MemberOrdersRulesOnly signature order =
    IsMember signature order → (rules : List Rule) → All (λ (rule : Rule). IsWellFormed signature rule.right) rules → Orders order rules → All IsRule rules

-- rules over the signature that a member of a family orders halt on each term over the signature, with a bound on the steps of every chain
abbrev pub MemberHalts : Signature → Certificate → Type 0
MemberHalts signature order =
    IsMember signature order → (rules : List Rule) → All (IsRuleOver signature) rules → Orders order rules → IsTerminating signature rules

-- so do those that a linear interpretation of the signature orders
abbrev pub InterpretationHalts : Signature → Interpretation → Type 0
InterpretationHalts signature i =
    IsInterpretationOf signature i → (rules : List Rule) → All (IsRuleOver signature) rules → LinearOrients i rules → IsTerminating signature rules

-- some list has all terms over the variables of a term that a Knuth-Bendix order of a family makes no heavier than it
abbrev pub LighterAreFew : Signature → KboOrder → Type 0
LighterAreFew signature order = IsMember signature (Kbo order) → (t : Tree) → (terms : List Tree) × HasLighter signature order t terms

-- a chain by rules that the order orders has fewer steps than there are such terms of its first one
abbrev pub ChainsAreShort : Signature → KboOrder → Type 0
ChainsAreShort signature order =
    IsMember signature (Kbo order) → (rules : List Rule) → All (IsRuleOver signature) rules → Orders (Kbo order) rules
    → (t : Tree) → IsWellFormed signature t → (terms : List Tree) → HasLighter signature order t terms
    → (path : List Tree) (u : Tree) → IsChain rules path t u → length path < length terms
