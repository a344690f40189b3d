use Rattle.std.proofs.Common.{sym, ◌∙◌, ap, subst, ◌+◌, ◌-◌, length, ℕ}
use Rattle.std.specs.Prelude.{slice_get}
use Rattle.kb_text.specs.Refusals.{ends_next}
use Rattle.kb_syntax.specs.Sides.{AreEnd, side_front}
use Rattle.kb_text.proofs.Vectors.{vec_length, empty_is, empty_not}
use Rattle.kb_syntax.proofs.SideLaws.{ends-around, ends-empty, ends-some}
use Rattle.kb_syntax.proofs.side.Side.ends_next.Goals as goal

pub returns-in-Some : goal.returns-in-Some
returns-in-Some c =
    let found = ends_next (side_front c.args.self.now) in
    let named = ends-around c.args.self.now c.in-Whole.field-0 c.in-Some.around.now c.in-Whole.is (c.in-Some.ensures.value ∙ ap (λ xs. slice_get xs (length xs - 1)) c.deref.ensures.value) in
    subst (λ (n : ℕ). AreEnd found c.in-Some.around.now.name.now (n + 1)) (sym (c.len.ensures ∙ vec_length c.in-Some.around.now.arguments)) named

pub returns-then-is_empty : goal.returns-then-is_empty
returns-then-is_empty c = ends-empty c.args.self.now c.in-Open.application c.in-Open.is (empty_is c.in-Open.application.arguments (sym c.is_empty.ensures ∙ c.if-is_empty.true))

pub returns-else-is_empty : goal.returns-else-is_empty
returns-else-is_empty c = ends-some c.args.self.now c.in-Open.application c.in-Open.is (empty_not c.in-Open.application.arguments (sym c.is_empty.ensures ∙ c.if-is_empty.false))
