use Rattle.kb_cert.proofs.Parts.{interpretation_found, kbo_found}
use Rattle.kb_cert.proofs.order.search_later_from.Goals as goal

pub returns-in-Some : goal.returns-in-Some
returns-in-Some c = interpretation_found c.args.sig.now c.args.rules.now c.in_ok-i.field-0 c.in-Some.i c.in-Some.is c.in_ok-i.ensures

pub returns-in_ok-search_kbo-in-None : goal.returns-in_ok-search_kbo-in-None
returns-in_ok-search_kbo-in-None c =
    kbo_found c.args.sig.now c.args.rules.now c.in_ok-i.field-0 c.in_ok-search_kbo-in-None.field-0 c.kbo.result c.in-None.is c.in_ok-i.ensures c.in_ok-search_kbo-in-None.ensures c.kbo.ensures
