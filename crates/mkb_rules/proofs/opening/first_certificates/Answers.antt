use Rattle.std.proofs.Common.{[], ◌∷◌, ◌++◌, map, Option, ap, sym, subst, ◌∙◌}
use Rattle.kb_label.specs.Names.{root}
use Rattle.kb_cert.specs.Family.{IsFirstOrder}
use Rattle.kb_cert.specs.declared.certificate.Certificate.{Certificate}
use Rattle.mkb_model.specs.Plain.{Certified as OrderOf}
use Rattle.mkb_rules.specs.Kept.{plain_certificates}
use Rattle.mkb_rules.proofs.FirstOrder.{first_none, first_some}
use Rattle.mkb_rules.proofs.opening.first_certificates.Goals as goal

pub returns-in-None : goal.returns-in-None
returns-in-None c =
    let s = c.args.signature.now in
    let none = first_none c.args.family s (subst {A = Option Certificate} (λ o. IsFirstOrder c.args.family s [] o) c.in-None.is c.in_ok-search.ensures.first) in
    ap plain_certificates c.new-certificates.ensures.items ∙ sym (ap (map {A = Certificate} {B = OrderOf} (λ q. record { name = root; certificate = q })) none)

pub returns-in_ok-push-in-Some : goal.returns-in_ok-push-in-Some
returns-in_ok-push-in-Some c =
    let s = c.args.signature.now in
    let q = c.in-Some.certificate in
    let some = first_some c.args.family s q (subst {A = Option Certificate} (λ o. IsFirstOrder c.args.family s [] o) c.in-Some.is c.in_ok-search.ensures.first) in
    ap plain_certificates c.in_ok-push-in-Some.ensures.items
    ∙ (λ i. plain_certificates (c.new-certificates.ensures.items i ++ record { name = c.root.ensures i; certificate = q } ∷ []))
    ∙ sym (ap (map {A = Certificate} {B = OrderOf} (λ z. record { name = root; certificate = z })) some)
