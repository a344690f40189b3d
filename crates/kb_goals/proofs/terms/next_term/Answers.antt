use Rattle.std.proofs.Common.{drop}
use Rattle.kb_text.specs.Terms.{names_of, term_text}
use Rattle.kb_report.proofs.ReadLines.{no_line_of, other_line}
use Rattle.kb_goals.specs.Simplifying.{IsNumberedTerm}
use Rattle.kb_goals.proofs.TermLines.{term_without}
use Rattle.kb_goals.proofs.terms.next_term.Goals as goal

pub returns-in_default-clause-read : goal.returns-in_default-clause-read
returns-in_default-clause-read c = let sig = c.args.sig.now in no_line_of (IsNumberedTerm sig) (term_text (names_of sig)) c.args.text.now c.in_default.ensures.line

pub returns-in-None-clause-read : goal.returns-in-None-clause-read
returns-in-None-clause-read c =
    let sig = c.args.sig.now in
    other_line (IsNumberedTerm sig) (term_text (names_of sig)) c.args.text.now c.in-Some.line.now (drop c.in-Some.size c.args.text.now) (term_without sig c.requires.names) c.in-Some.ensures.line (rw c.in-None.is at c.in_ok-term.ensures)
