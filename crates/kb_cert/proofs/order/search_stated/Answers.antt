use Rattle.std.specs.Prelude.{Some}
use Rattle.kb_cert.specs.declared.certificate.Certificate.TheVariants.{Lpo}
use Rattle.kb_cert.proofs.Parts.{found_text, precedence_found, later_found}
use Rattle.kb_cert.proofs.order.search_stated.Goals as goal

pub returns-in-Some : goal.returns-in-Some
returns-in-Some c =
    let h = precedence_found c.args.sig.now c.args.rules.now c.in_ok-prec.field-0 c.in-Some.prec c.in-Some.is c.in_ok-prec.ensures in
    record { first = h; text = found_text c.args.sig.now c.args.rules.now (Some (Lpo c.in-Some.prec)) h }

pub returns-in_ok-search_later-in-None : goal.returns-in_ok-search_later-in-None
returns-in_ok-search_later-in-None c =
    let found = c.in_ok-search_later-in-None.field-0 in
    let h = later_found c.args.sig.now c.args.rules.now c.in_ok-prec.field-0 found c.in-None.is c.in_ok-prec.ensures c.in_ok-search_later-in-None.ensures in
    record { first = h; text = found_text c.args.sig.now c.args.rules.now found h }
