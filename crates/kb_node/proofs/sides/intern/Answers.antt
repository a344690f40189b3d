use Rattle.std.proofs.Common.{◌∙◌, length, take, sym, ap, ap₂, subst, arith}
use Rattle.kb_term.specs.View.{tree_of}
use Rattle.term_bank.specs.Terms.{subterms}
use Rattle.term_bank.proofs.Missing.{IsFront, missing_front}
use Rattle.kb_node.proofs.sides.intern.Goals as goal

pub cut-requires : goal.cut-requires
cut-requires c =
    let first : IsFront c.args.bank.now c.intern.new.self = subst (IsFront c.args.bank.now) (sym c.in_ok-first.ensures.ok) (missing_front c.args.bank.now (subterms (tree_of c.first.result.now))) in
    omega (arith, c.used-used.ensures.count, first.more, ap length c.in-Err.ensures.err)

pub returns-in-Err-clause-err : goal.returns-in-Err-clause-err
returns-in-Err-clause-err c =
    let first : IsFront c.args.bank.now c.intern.new.self = subst (IsFront c.args.bank.now) (sym c.in_ok-first.ensures.ok) (missing_front c.args.bank.now (subterms (tree_of c.first.result.now))) in
    c.cut.ensures ∙ ap₂ take c.used-used.ensures.count c.in-Err.ensures.err ∙ first.front
