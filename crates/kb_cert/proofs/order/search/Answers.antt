use Rattle.std.specs.Prelude.{IfOk}
use Rattle.std.proofs.Common.{subst, sym}
use Rattle.kb_cert.specs.Family.{IsFirstOrder}
use Rattle.kb_cert.specs.declared.family.Family.{Family}
use Rattle.kb_cert.proofs.FamilyLaws.{one_family}
use Rattle.kb_cert.proofs.order.search.Goals as goal

pub returns-clause-first : goal.returns-clause-first
returns-clause-first c = subst {A = Family} (λ f. IfOk c.search_stated.result (λ found. IsFirstOrder f c.args.sig.now c.args.rules.now found)) (sym (one_family c.args.family)) c.search_stated.ensures.first
