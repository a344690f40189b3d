-- The first member of a list that has a property which all have.
use Rattle.std.proofs.Common.{◌≡◌, List, [], ◌∷◌, ◌++◌, take, Some, None, refl, ap, ◌∙◌, arith}
use Rattle.std.specs.Prelude.{All}
use Rattle.kb_term.specs.Signature.{Signature}
use Rattle.kb_cert.proofs.Ordering.{nothing_ordered}
use Rattle.kb_cert.specs.Family.{family, Orders, IsFirstOrder}
use Rattle.kb_cert.specs.declared.certificate.Certificate.{Certificate}
use Rattle.kb_cert.specs.declared.family.Family.{Family}

none_of : (P : Certificate → Type 0) → ((c : Certificate) → P c) → (cs : List Certificate) → All (λ c. ¬ P c) cs → cs ≡ []
none_of P h [] n = refl
none_of P h (c ∷ cs) n = absurd (n 0 c (omega arith) (h c))

-- no order is the first for no rules only where there is none
pub first_none : (f : Family) (signature : Signature) → IsFirstOrder f signature [] None → take 1 (family f signature) ≡ []
first_none f signature n = ap (take 1) (none_of (λ c. Orders c []) nothing_ordered (family f signature) n)

-- the first order for no rules is the first of all
pub first_some : (f : Family) (signature : Signature) (c : Certificate) → IsFirstOrder f signature [] (Some c) → take 1 (family f signature) ≡ c ∷ []
first_some f signature c h =
    ap (take 1) (h.3 ∙ ap (λ (z : List Certificate). z ++ c ∷ h.2) (none_of (λ d. Orders d []) nothing_ordered h.1 h.4))
