use Rattle.std.proofs.Common.{arith, ◌++◌, ap, sym, ◌∙◌}
use Rattle.kb_cert.proofs.CertLaws.{begins}
use Rattle.kb_report.proofs.ReadLines.{not_begun, high_count}
use Rattle.kb_report.proofs.header.count_of.Goals as goal

pub returns-in_default : goal.returns-in_default
returns-in_default c = λ n k. not_begun c.args.line.now c.args.word.now _ c.in_default.ensures.cases k.spelling

pub returns-then-number-highest : goal.returns-then-number-highest
returns-then-number-highest c =
    let h = c.in-Some.ensures.cases in
    let r = c.in-Some-read_number.ensures in
    high_count c.args.line.now c.args.word.now c.in-Some.digits.now c.args.highest c.in-Some-read_number.number c.requires (begins c.args.line.now c.args.word.now c.in-Some.digits.now h.0 h.1) r.0 r.1 (omega arith)

pub returns : goal.returns
returns c =
    let h = c.in-Some.ensures.cases in
    let r = c.in-Some-read_number.ensures in
    record { form = omega arith; spelling = begins c.args.line.now c.args.word.now c.in-Some.digits.now h.0 h.1 ∙ ap (c.args.word.now ++◌) (sym r.1) }
