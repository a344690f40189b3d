use Rattle.std.proofs.Common.{sym, ◌∙◌, ap, ◌+◌, ◌-◌, length}
use Rattle.std.specs.Prelude.{slice_get}
use Rattle.kb_text.proofs.Vectors.{vec_length}
use Rattle.kb_syntax.proofs.SideLaws.{so_far-around, so_far-open}
use Rattle.kb_syntax.proofs.side.Side.arguments_so_far.Goals as goal

pub returns-in-Some : goal.returns-in-Some
returns-in-Some c = ap (λ n. n + 1) (c.len.ensures ∙ vec_length c.in-Some.around.now.arguments) ∙ sym (so_far-around c.args.self.now c.in-Whole.field-0 c.in-Some.around.now c.in-Whole.is (c.in-Some.ensures.value ∙ ap (λ xs. slice_get xs (length xs - 1)) c.deref.ensures.value))

pub returns-in-Open : goal.returns-in-Open
returns-in-Open c = sym (so_far-open c.args.self.now c.in-Open.field-0 c.in-Open.is)
