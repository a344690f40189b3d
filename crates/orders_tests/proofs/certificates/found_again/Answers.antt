use Rattle.std.proofs.Common.{subst}
use Rattle.kb_cert.specs.Family.{IsFirstOrder}
use Rattle.kb_cert.specs.declared.family.Family.TheVariants.{Stated}
use Rattle.kb_cert.proofs.Parts.{first_bounds}
use Rattle.orders_tests.proofs.certificates.found_again.Goals as goal

pub search_from-requires-clause-start : goal.search_from-requires-clause-start
search_from-requires-clause-start c =
    first_bounds Stated c.args.sig.now c.args.rules.now c.in-Some.start (subst (IsFirstOrder Stated c.args.sig.now c.args.rules.now) c.in-Some.is c.in_ok-start.ensures.first)
