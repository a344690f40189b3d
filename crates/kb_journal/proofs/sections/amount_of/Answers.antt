use Rattle.std.proofs.Common.{arith, ap, sym, ◌∙◌, ◌++◌, ⊎_elim}
use Rattle.kb_cert.proofs.CertLaws.{begins}
use Rattle.kb_report.proofs.ReadLines.{not_begun}
use Rattle.kb_journal.proofs.SectionsRead.{other_amount, no_amount}
use Rattle.kb_journal.proofs.sections.amount_of.Goals as goal

pub returns-in_default : goal.returns-in_default
returns-in_default c = λ n k. not_begun c.args.line.now c.args.word.now _ c.in_default.ensures.cases k.spelling

pub returns-in_default-whole_of : goal.returns-in_default-whole_of
returns-in_default-whole_of c =
    let h = c.in-Some.ensures.cases in
    no_amount c.args.line.now c.args.word.now c.in-Some.digits.now c.args.low c.args.high (omega arith) (begins c.args.line.now c.args.word.now c.in-Some.digits.now h.0 h.1) c.in_default-whole_of.ensures

pub returns-then-number-low : goal.returns-then-number-low
returns-then-number-low c =
    let h = c.in-Some.ensures.cases in
    let r = c.in-Some-whole_of.ensures in
    other_amount c.args.line.now c.args.word.now c.in-Some.digits.now c.args.low c.args.high c.in-Some-whole_of.number (omega arith) (begins c.args.line.now c.args.word.now c.in-Some.digits.now h.0 h.1) r.0 r.1
    (λ w. ⊎_elim (λ p. omega (arith, w.0, p)) (λ p. omega (arith, w.1, p)) c.then-number-low.either)

pub returns : goal.returns
returns c =
    let h = c.in-Some.ensures.cases in
    let r = c.in-Some-whole_of.ensures in
    record { form = (omega arith, omega arith); spelling = begins c.args.line.now c.args.word.now c.in-Some.digits.now h.0 h.1 ∙ ap (c.args.word.now ++◌) (sym r.1) }
