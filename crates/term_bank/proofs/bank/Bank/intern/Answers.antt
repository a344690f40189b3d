use Rattle.std.proofs.Common.{◌≡◌, ◌∙◌, length, sym, ap, arith}
use Rattle.kb_term.specs.View.{tree_of}
use Rattle.term_bank.specs.Terms.{subterms, with_missing}
use Rattle.term_bank.proofs.Missing.{ok_part, missing_most, subterms_length}
use Rattle.term_bank.proofs.bank.Bank.intern.Goals as goal

pub returns-else-is_err-clause-most : goal.returns-else-is_err-clause-most
returns-else-is_err-clause-most c =
    let t = tree_of c.args.t.now in
    let made : c.add-added.new.self ≡ with_missing c.args.self.now (subterms (tree_of c.args.t.now)) = ok_part c.add-added.result (c.add-added.new.self ≡ with_missing c.args.self.now (subterms (tree_of c.args.t.now))) (sym c.is_err.ensures.value ∙ c.if-is_err.false) c.add-added.ensures.ok in
    omega (arith, ap length made, missing_most c.args.self.now (subterms t), subterms_length t)
