use Rattle.std.proofs.Common.{subst}
use Rattle.term_bank.specs.Terms.{HaveSubterms}
use Rattle.term_bank.proofs.Arguments.{bank_subterms}
use Rattle.term_bank.proofs.bank.Bank.used.Goals as goal

pub returns-clause-subterms : goal.returns-clause-subterms
returns-clause-subterms c = subst HaveSubterms c.self.view_is (bank_subterms c.self.inside.chains c.self.inside.cells.items c.self.inside.arguments.items c.self.invariant)
