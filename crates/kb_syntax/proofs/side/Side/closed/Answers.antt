use Rattle.std.proofs.Common.{sym, ◌∙◌, ap, refl, Some, List, [], ◌∷◌, ◌++◌}
use Rattle.std.specs.Prelude.{map}
use Rattle.kb_text.specs.Fronts.{TermFront}
use Rattle.kb_text.proofs.Vectors.{empty_not, empty_is}
use Rattle.kb_syntax.specs.Sides.{application_of, enclosed}
use Rattle.kb_syntax.proofs.SideLaws.{closing, closing_open, not_closing}
use Rattle.kb_syntax.specs.declared.written.WrittenTerm.{WrittenTerm}
use Rattle.kb_syntax.proofs.side.Side.closed.Goals as goal

pub returns-then-not-is_empty : goal.returns-then-not-is_empty
returns-then-not-is_empty c = not_closing c.args.self.now c.in-Open.field-0 (sym c.replace.ensures.value ∙ c.in-Open.is) (empty_not c.in-Open.field-0.arguments (sym c.is_empty.ensures ∙ c.if-not-is_empty.true))

pub returns-in_ok-push-in-Some : goal.returns-in_ok-push-in-Some
returns-in_ok-push-in-Some c =
    ap (λ (u : TermFront). Some (enclosed (map application_of c.pop.new.self.items) u)) c.applied.ensures
    ∙ closing c.args.self.now c.in-Whole.term c.pop.new.self.items c.in-Some.field-0 c.in-Some.field-0.name.now c.push.new.self.items (sym c.replace.ensures.value ∙ c.in-Whole.is) c.in-Some.ensures.items refl (c.in_ok-push-in-Some.ensures.items ∙ ap (λ (ts : List WrittenTerm). ts ++ c.in-Whole.term ∷ []) c.reserve_exact.ensures.items)

pub returns-else-not-is_empty : goal.returns-else-not-is_empty
returns-else-not-is_empty c =
    ap (λ (u : TermFront). Some (enclosed (map application_of c.args.self.now.outer.items) u)) c.applied-in-Open.ensures
    ∙ closing_open c.args.self.now c.in-Open.field-0 c.in-Open.field-0.name.now c.in-Open.field-0.arguments.items (sym c.replace.ensures.value ∙ c.in-Open.is) refl refl (empty_is c.in-Open.field-0.arguments (sym c.is_empty.ensures ∙ c.if-not-is_empty.false))
