use Rattle.std.proofs.Common.{drop}
use Rattle.std.specs.Prelude.{IsTrue}
use Rattle.kb_text.specs.Terms.{names_of}
use Rattle.kb_cert.specs.CertificateText.{is_certificate}
use Rattle.kb_report.specs.SystemSections.{order_body}
use Rattle.kb_report.proofs.OrderLines.{order_without, some_cert}
use Rattle.kb_report.proofs.ReadLines.{bad_without, bad_other}
use Rattle.kb_report.proofs.order.read_order.Goals as goal

pub returns-in_default-clause-fault : goal.returns-in_default-clause-fault
returns-in_default-clause-fault c =
    let sig = c.args.sig.now in
    let some = some_cert sig in
    bad_without (λ x. IsTrue (is_certificate sig x)) (order_body (names_of sig)) c.args.text.now c.args.first some.0 some.1 c.in_default.ensures.line

pub returns-in-None-clause-fault : goal.returns-in-None-clause-fault
returns-in-None-clause-fault c =
    let sig = c.args.sig.now in
    let some = some_cert sig in
    bad_other (λ x. IsTrue (is_certificate sig x)) (order_body (names_of sig)) c.args.text.now c.in-Some.line.now (drop c.in-Some.size c.args.text.now) c.args.first some.0 some.1 (order_without sig c.requires.names) c.in-Some.ensures.line (rw c.in-None.is at c.in_ok-cert.ensures)
