use Rattle.std.proofs.Common.{ap, ◌∙◌, arith, length, ◌-◌, List}
use Rattle.std.specs.Prelude.{slice_get}
use Rattle.kb_text.specs.Fronts.{followed_tokens}
use Rattle.kb_syntax.proofs.WrittenArguments.{args}
use Rattle.kb_syntax.specs.declared.written.WrittenTerm.{WrittenTerm}
use Rattle.kb_syntax.proofs.SideLaws.{around}
use Rattle.kb_syntax.proofs.SideCounts.{around_count, around_tokens, open_tokens}
use Rattle.kb_syntax.proofs.side.Side.ending_tokens.Goals as goal

pub returns-in-Some : goal.returns-in-Some
returns-in-Some c =
    let a = c.in-Some.around.now in
    let t = c.in-Whole.term in
    let r = around c.args.self.now t a c.in-Whole.is (c.in-Some.ensures.value ∙ ap (λ xs. slice_get xs (length xs - 1)) c.deref.ensures.value) in
    let bound = around_count c.args.self.now t a c.in-Whole.is r.0 r.1 in
    let followed = ap (λ (ts : List WrittenTerm). length (followed_tokens (args ts))) c.deref-in-Some.ensures.value in
    around_tokens c.args.self.now t a r.0 r.1 _ (omega (arith, bound, followed, c.requires, c.followed_tokens.ensures, c.tokens.ensures, c.saturating_add.ensures, c.saturating_add-in-Some.ensures))

pub returns-in-Open : goal.returns-in-Open
returns-in-Open c = open_tokens c.args.self.now c.in-Open.field-0 c.in-Open.is
