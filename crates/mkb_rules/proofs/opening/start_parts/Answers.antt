use Rattle.std.proofs.Common.{List, [], map, take, ap, ◌∙◌}
use Rattle.kb_term.specs.Tree.{Tree}
use Rattle.kb_term.specs.Signature.{Signature}
use Rattle.kb_label.specs.Names.{root}
use Rattle.kb_cert.specs.Family.{family}
use Rattle.kb_cert.specs.declared.certificate.Certificate.{Certificate}
use Rattle.mkb_model.specs.Plain.{Certified as OrderOf}
use Rattle.mkb_model.specs.Journals.{with_inputs}
use Rattle.mkb_rules.proofs.opening.start_parts.Goals as goal

pub returns-clause-nodes : goal.returns-clause-nodes
returns-clause-nodes c = c.in_ok-nodes.ensures ∙ ap (λ (z : List (Tree × Tree)). with_inputs 1 z []) c.equations.ensures

pub returns-clause-certificates : goal.returns-clause-certificates
returns-clause-certificates c =
    c.in_ok-certificates.ensures
    ∙ ap (λ (s : Signature). map {A = Certificate} {B = OrderOf} (λ q. record { name = root; certificate = q }) (take 1 (family c.args.family s))) c.signature.ensures
