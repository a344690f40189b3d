use Rattle.std.proofs.Common.{◌++◌, ap, ◌∙◌}
use Rattle.kb_cert.proofs.CertLaws.{begins, lpo_read, lpo_unread, linear_read, linear_unread, kbo_read, kbo_unread}
use Rattle.kb_cert.proofs.read.read_cert.Goals as goal

pub returns-in-Some-2 : goal.returns-in-Some-2
returns-in-Some-2 c =
    let h = c.in-Some.ensures.cases in
    let e = begins c.args.line.now c.as_slice.result.now c.in-Some.text.now h.0 h.1 ∙ ap (λ z. z ++ c.in-Some.text.now) c.as_slice.ensures in
    lpo_read c.args.sig.now c.args.line.now c.in-Some.text.now c.in_ok-prec.field-0 c.in-Some-2.prec e c.in-Some-2.is c.in_ok-prec.ensures

pub returns-in-None : goal.returns-in-None
returns-in-None c =
    let h = c.in-Some.ensures.cases in
    let e = begins c.args.line.now c.as_slice.result.now c.in-Some.text.now h.0 h.1 ∙ ap (λ z. z ++ c.in-Some.text.now) c.as_slice.ensures in
    lpo_unread c.args.sig.now c.args.line.now c.in-Some.text.now c.in_ok-prec.field-0 e c.in-None.is c.in_ok-prec.ensures

pub returns-in-Some-3 : goal.returns-in-Some-3
returns-in-Some-3 c =
    let h = c.in-Some-strip_prefix.ensures.cases in
    let e = begins c.args.line.now c.as_slice-2.result.now c.in-Some-strip_prefix.text.now h.0 h.1 ∙ ap (λ z. z ++ c.in-Some-strip_prefix.text.now) c.as_slice-2.ensures in
    linear_read c.args.sig.now c.args.line.now c.in-Some-strip_prefix.text.now c.in_ok-i.field-0 c.in-Some-3.i e c.in-Some-3.is c.in_ok-i.ensures

pub returns-in-None-2 : goal.returns-in-None-2
returns-in-None-2 c =
    let h = c.in-Some-strip_prefix.ensures.cases in
    let e = begins c.args.line.now c.as_slice-2.result.now c.in-Some-strip_prefix.text.now h.0 h.1 ∙ ap (λ z. z ++ c.in-Some-strip_prefix.text.now) c.as_slice-2.ensures in
    linear_unread c.args.sig.now c.args.line.now c.in-Some-strip_prefix.text.now c.in_ok-i.field-0 e c.in-None-2.is c.in_ok-i.ensures

pub returns-in-Some-4 : goal.returns-in-Some-4
returns-in-Some-4 c =
    let h = c.in-Some-strip_prefix-2.ensures.cases in
    let e = begins c.args.line.now c.as_slice-3.result.now c.in-Some-strip_prefix-2.text.now h.0 h.1 ∙ ap (λ z. z ++ c.in-Some-strip_prefix-2.text.now) c.as_slice-3.ensures in
    kbo_read c.args.sig.now c.args.line.now c.in-Some-strip_prefix-2.text.now c.in_ok-order.field-0 c.in-Some-4.order e c.in-Some-4.is c.in_ok-order.ensures

pub returns-in-None-3 : goal.returns-in-None-3
returns-in-None-3 c =
    let h = c.in-Some-strip_prefix-2.ensures.cases in
    let e = begins c.args.line.now c.as_slice-3.result.now c.in-Some-strip_prefix-2.text.now h.0 h.1 ∙ ap (λ z. z ++ c.in-Some-strip_prefix-2.text.now) c.as_slice-3.ensures in
    kbo_unread c.args.sig.now c.args.line.now c.in-Some-strip_prefix-2.text.now c.in_ok-order.field-0 e c.in-None-3.is c.in_ok-order.ensures
