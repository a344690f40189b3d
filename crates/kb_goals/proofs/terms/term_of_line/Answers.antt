use Rattle.std.proofs.Common.{sym, ◌∙◌}
use Rattle.std.proofs.lemmas.Bool.{false≢true}
use Rattle.kb_term.specs.View.{tree_of}
use Rattle.kb_goals.proofs.TermLines.{no_term_line, other_numbers, term_line}
use Rattle.kb_goals.proofs.terms.term_of_line.Goals as goal

pub returns-in_default : goal.returns-in_default
returns-in_default c = no_term_line c.args.sig.now c.args.line.now (rw c.in_default.is at c.in_ok-term.ensures.read)

pub returns-then-not-branch : goal.returns-then-not-branch
returns-then-not-branch c = other_numbers c.args.sig.now c.requires.names c.args.line.now (tree_of c.in-Some.term) (rw c.in-Some.is at c.in_ok-term.ensures.read) (λ h. false≢true (sym c.if-not-branch.true ∙ c.in_ok-are_numbered.ensures.1 h))

pub returns : goal.returns
returns c = term_line c.args.sig.now c.args.line.now (tree_of c.in-Some.term) (rw c.in-Some.is at c.in_ok-term.ensures.read) (c.in_ok-are_numbered.ensures.0 c.if-not-branch.false)
