-- Searches whose answers are kept.
use Rattle.std.specs.Prelude.{◌≡◌, List, All, Contains, Option, IfSome, IsTrue, ⊤}
use Rattle.kb_term.specs.Rule.{Rule}
use Rattle.kb_term.specs.Signature.{Signature}
use Rattle.kb_cert.specs.CertificateText.{is_certificate}
use Rattle.kb_cert.specs.Family.{IsFirstOrder, IsLowerBound}
use Rattle.kb_cert.specs.declared.certificate.Certificate.{Certificate}
use Rattle.kb_cert.specs.declared.family.Family.{Family}
use Rattle.cert_pool.specs.declared.pool.Found.{Found}
use Rattle.cert_pool.specs.declared.pool.Known.{Known}
use Rattle.cert_pool.specs.declared.pool.Known.TheVariants.{Answer, Bound, Nothing}

-- what a search of a family answers: its first member that orders the rules, which has a text; or that there is none
pub record IsAnswer (f : Family) (signature : Signature) (rules : List Rule) (answer : Option Certificate) : Type 0 where
  pub first : IsFirstOrder f signature rules answer
  pub text : IfSome answer (λ c. IsTrue (is_certificate signature c))

-- what is kept is true
abbrev pub IsTrueResult : Found → Type 0
IsTrueResult found = IsAnswer found.family found.signature found.rules.items found.answer

-- a true result of the same family for some of the rules over the same signature
pub record IsFor (f : Family) (signature : Signature) (rules : List Rule) (found : Found) : Type 0 where
  pub family : found.family ≡ f
  pub same : found.signature ≡ signature
  pub some : All (Contains rules) found.rules.items
  pub holds : IsTrueResult found

-- what is known of a search is true: its answer, or a member before which none orders the rules
abbrev pub IsKnown : Family → Signature → List Rule → Known → Type 0
IsKnown f signature rules (Answer answer) = IsAnswer f signature rules answer
IsKnown f signature rules (Bound start) = IsLowerBound f signature rules start
IsKnown f signature rules Nothing = ⊤
