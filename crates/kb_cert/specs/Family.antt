-- The families of orders of a signature, and the first member of a family that orients given rules.
use Rattle.std.specs.Prelude.{List, ◌∷◌, map, length, ◌++◌, ◌≡◌, Contains, All, Option, Some, None}
use Rattle.kb_term.specs.First.{IsFirst}
use Rattle.kb_term.specs.Rule.{Rule}
use Rattle.kb_term.specs.Signature.{Signature}
use Rattle.kb_lpo.specs.Precedences.{precedences, LpoOrients}
use Rattle.kb_linear.specs.Interpretations.{interpretations, LinearOrients}
use Rattle.kb_kbo.specs.Orders.{kbo_orders, KboOrients}
use Rattle.kb_cert.specs.declared.certificate.Certificate.{Certificate}
use Rattle.kb_cert.specs.declared.certificate.Certificate.TheVariants.{Lpo, Linear, Kbo}
use Rattle.kb_cert.specs.declared.family.Family.{Family}
use Rattle.kb_cert.specs.declared.family.Family.TheVariants.{Stated}

-- the orders of a family that are tried, in their order
abbrev pub family : Family → Signature → List Certificate
family Stated signature = map Lpo (precedences (length signature)) ++ (map Linear (interpretations signature) ++ map Kbo (kbo_orders signature))

-- the member orders the rules: it makes left greater than right in each of them
abbrev pub Orders : Certificate → List Rule → Type 0
Orders (Lpo prec) rules = LpoOrients prec rules
Orders (Linear i) rules = LinearOrients i rules
Orders (Kbo order) rules = KboOrients order rules

-- some family has the order
abbrev pub IsMember : Signature → Certificate → Type 0
IsMember signature c = (f : Family) × Contains (family f signature) c

-- some member of some family orders the rules
abbrev pub IsOrderable : Signature → List Rule → Type 0
IsOrderable signature rules = (c : Certificate) × IsMember signature c × Orders c rules

-- the earliest member of the family that orders the rules
abbrev pub IsFirstOrder : Family → Signature → List Rule → Option Certificate → Type 0
IsFirstOrder f signature rules = IsFirst (λ c. Orders c rules) (family f signature)

-- start is a member of the family, and none before it orders the rules
abbrev pub IsLowerBound : Family → Signature → List Rule → Certificate → Type 0
IsLowerBound f signature rules start =
    (before : List Certificate) × (after : List Certificate) × (family f signature ≡ before ++ start ∷ after) × All (λ c. ¬ Orders c rules) before

-- with more rules the first member is never earlier: the first for some of the rules is a lower bound for all
abbrev pub FirstBoundsMore : Family → Signature → Type 0
FirstBoundsMore f signature = (some rules : List Rule) (start : Certificate) → All (Contains rules) some → IsFirstOrder f signature some (Some start) → IsLowerBound f signature rules start

-- where no member orders some of the rules, none orders all
abbrev pub NoneForMore : Family → Signature → Type 0
NoneForMore f signature = (some rules : List Rule) → All (Contains rules) some → IsFirstOrder f signature some None → IsFirstOrder f signature rules None
