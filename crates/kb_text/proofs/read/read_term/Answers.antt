use Rattle.std.proofs.Common.{◌∙◌, ap, sym, Some}
use Rattle.std.proofs.lemmas.Bool.{false≢true}
use Rattle.kb_term.specs.View.{tree_of}
use Rattle.kb_text.proofs.TermParts.{none_spelled, one_spelled, too_large, too_long, whole_spelled}
use Rattle.kb_text.proofs.read.read_term.Goals as goal

pub returns-in_default-clause-read : goal.returns-in_default-clause-read
returns-in_default-clause-read c = λ t. none_spelled c.args.signature.now c.args.bytes.now t (rw c.in_default.is at c.in_ok-t.ensures)

pub returns-in_default-clause-same : goal.returns-in_default-clause-same
returns-in_default-clause-same c = λ t k. absurd (none_spelled c.args.signature.now c.args.bytes.now t (rw c.in_default.is at c.in_ok-t.ensures) k)

pub returns-then-size-bytes-clause-read : goal.returns-then-size-bytes-clause-read
returns-then-size-bytes-clause-read c = λ t. too_long c.args.signature.now c.args.bytes.now (tree_of c.in-Some.t) t c.in-Some.size c.symbols.ensures.kept (rw c.in-Some.is at c.in_ok-t.ensures) c.if-size-bytes.true

pub returns-then-size-bytes-clause-same : goal.returns-then-size-bytes-clause-same
returns-then-size-bytes-clause-same c = λ t k. absurd (too_long c.args.signature.now c.args.bytes.now (tree_of c.in-Some.t) t c.in-Some.size c.symbols.ensures.kept (rw c.in-Some.is at c.in_ok-t.ensures) c.if-size-bytes.true k)

pub returns-then-is_some-clause-read : goal.returns-then-is_some-clause-read
returns-then-is_some-clause-read c = λ t.
    too_large c.args.signature.now c.args.bytes.now (tree_of c.in-Some.t) t c.in-Some.size c.symbols.ensures.kept (rw c.in-Some.is at c.in_ok-t.ensures)
    (λ w. false≢true (sym (c.term_limit.ensures.within.1 w) ∙ sym c.is_some.ensures ∙ c.if-is_some.true))

pub returns-then-is_some-clause-same : goal.returns-then-is_some-clause-same
returns-then-is_some-clause-same c = λ t k.
    absurd (too_large c.args.signature.now c.args.bytes.now (tree_of c.in-Some.t) t c.in-Some.size c.symbols.ensures.kept (rw c.in-Some.is at c.in_ok-t.ensures)
    (λ w. false≢true (sym (c.term_limit.ensures.within.1 w) ∙ sym c.is_some.ensures ∙ c.if-is_some.true)) k)

pub returns-clause-read : goal.returns-clause-read
returns-clause-read c =
    whole_spelled c.args.signature.now c.args.bytes.now (tree_of c.in-Some.t) c.in-Some.size (rw c.in-Some.is at c.in_ok-t.ensures) c.if-size-bytes.false (c.term_limit.ensures.within.0 (sym c.is_some.ensures ∙ c.if-is_some.false))

pub returns-clause-same : goal.returns-clause-same
returns-clause-same c = λ t k.
    let spelled = whole_spelled c.args.signature.now c.args.bytes.now (tree_of c.in-Some.t) c.in-Some.size (rw c.in-Some.is at c.in_ok-t.ensures) c.if-size-bytes.false (c.term_limit.ensures.within.0 (sym c.is_some.ensures ∙ c.if-is_some.false)) in
    ap Some (one_spelled c.args.signature.now c.args.bytes.now (tree_of c.in-Some.t) t c.symbols.ensures.kept spelled k)
