use Rattle.std.specs.Prelude.{IfOk}
use Rattle.std.proofs.Common.{subst, sym}
use Rattle.kb_cert.specs.Family.{IsFirstOrder, IsLowerBound}
use Rattle.kb_cert.specs.declared.family.Family.{Family}
use Rattle.kb_cert.proofs.FamilyLaws.{one_family}
use Rattle.kb_cert.proofs.order.search_from.Goals as goal

pub search_stated_from-requires-clause-start : goal.search_stated_from-requires-clause-start
search_stated_from-requires-clause-start c = subst {A = Family} (λ f. IsLowerBound f c.args.sig.now c.args.rules.now c.args.start) (one_family c.args.family) c.requires.start

pub returns-clause-first : goal.returns-clause-first
returns-clause-first c = subst {A = Family} (λ f. IfOk c.search_stated_from.result (λ found. IsFirstOrder f c.args.sig.now c.args.rules.now found)) (sym (one_family c.args.family)) c.search_stated_from.ensures.first
