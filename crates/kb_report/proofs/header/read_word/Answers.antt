use Rattle.std.proofs.Common.{sym, ◌∙◌, drop}
use Rattle.std.specs.Prelude.{⊤}
use Rattle.std.proofs.lemmas.Bool.{false≢true}
use Rattle.kb_report.proofs.ReadLines.{bad_without, bad_other, line_is_read}
use Rattle.kb_report.proofs.header.read_word.Goals as goal

pub returns-in_default-clause-fault : goal.returns-in_default-clause-fault
returns-in_default-clause-fault c = bad_without {X = ⊤} (λ u. ⊤) (λ u. c.args.word.now) c.args.text.now c.args.first tt tt c.in_default.ensures.line

pub returns-then-not-is_word-clause-fault : goal.returns-then-not-is_word-clause-fault
returns-then-not-is_word-clause-fault c =
    bad_other {X = ⊤} (λ u. ⊤) (λ u. c.args.word.now) c.args.text.now c.in-Some.line.now (drop c.in-Some.size c.args.text.now) c.args.first tt tt (λ u v. c.requires) c.in-Some.ensures.line
    (λ u k. false≢true (sym c.if-not-is_word.true ∙ c.is_word.ensures.1 k.spelling))

pub returns-clause-read : goal.returns-clause-read
returns-clause-read c =
    line_is_read {X = ⊤} (λ u. ⊤) (λ u. c.args.word.now) c.args.text.now c.in-Some.line.now (drop c.in-Some.size c.args.text.now) tt c.in-Some.ensures.line (record { form = tt; spelling = c.is_word.ensures.0 c.if-not-is_word.false })
