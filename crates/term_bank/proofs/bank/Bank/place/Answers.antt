use Rattle.std.proofs.Common.{sym}
use Rattle.term_bank.specs.Terms.{terms_at}
use Rattle.term_bank.specs.Cells.{term_with}
use Rattle.term_bank.proofs.Missing.{with_term-has, placed, placed_missing}
use Rattle.term_bank.proofs.bank.Bank.place.Goals as goal

pub returns-in-Some-clause-ok : goal.returns-in-Some-clause-ok
returns-in-Some-clause-ok c = sym (with_term-has c.args.self.now c.in-Some.id.0 (term_with c.args.head (terms_at c.args.self.now c.args.ids.now)) c.in-Some.ensures)

pub returns-clause-ok : goal.returns-clause-ok
returns-clause-ok c = placed_missing c.push.result c.args.self.now c.push.new.self (term_with c.args.head (terms_at c.args.self.now c.args.ids.now)) c.in_default.ensures c.push.ensures.ok

pub returns-clause-id : goal.returns-clause-id
returns-clause-id c = placed c.push.result c.args.self.now c.push.new.self (term_with c.args.head (terms_at c.args.self.now c.args.ids.now)) c.push.ensures.ok c.push.ensures.id
