use Rattle.std.proofs.Common.{arith, ◌+◌, ◌∙◌, sym, subst, take, drop}
use Rattle.kb_text.specs.Fields.{IsWithout}
use Rattle.kb_text.specs.Terms.{names_of}
use Rattle.kb_text.proofs.Cuts.{one_line}
use Rattle.kb_trace.proofs.TraceLines.{body, body_without, line_then, no_feed}
use Rattle.kb_trace.proofs.reading.next_step.Goals as goal

pub returns-in_default-clause-step : goal.returns-in_default-clause-step
returns-in_default-clause-step c = λ s rest b.
    let names = names_of c.args.signature.now in
    no_feed (body names c.args.number s) rest (subst (IsWithout 10) (b.spelling ∙ line_then names c.args.number s rest) c.in_default.ensures)

pub returns-in-None-clause-step : goal.returns-in-None-clause-step
returns-in-None-clause-step c = λ s rest b.
    let signature = c.args.signature.now in
    let names = names_of signature in
    let number = c.args.number in
    let count = b.count in
    let text = c.args.text.now in
    let line = c.in-Some.ensures in
    let n = c.in-Some.length in
    let r = one_line 10 (body names number s) (take n text) rest (drop (n + 1) text) (body_without signature c.requires number (omega arith) s b.form) line.without (sym (line_then names number s rest) ∙ sym b.spelling ∙ line.parts) in
    (rw c.in-None.is at c.in_ok-read_step.ensures) s (record { form = b.form; spelling = c.split_at.ensures.front ∙ sym r.0 })
