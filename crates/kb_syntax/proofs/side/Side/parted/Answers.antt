use Rattle.std.proofs.Common.{◌∙◌, refl, sym, ap, List, [], ◌∷◌, ◌++◌}
use Rattle.kb_syntax.proofs.SideLaws.{parting, not_parted_open}
use Rattle.kb_syntax.specs.declared.written.WrittenTerm.{WrittenTerm}
use Rattle.kb_syntax.proofs.side.Side.parted.Goals as goal

pub returns-in-Some : goal.returns-in-Some
returns-in-Some c = parting c.args.self.now c.in-Whole.term c.pop.new.self.items c.in-Some.field-0 c.in-Some.field-0.name.now c.push.new.self.items (sym c.replace.ensures.value ∙ c.in-Whole.is) c.in-Some.ensures.items refl (c.in_ok-push-in-Some.ensures.items ∙ ap (λ (ts : List WrittenTerm). ts ++ c.in-Whole.term ∷ []) c.reserve_exact.ensures.items)

pub returns : goal.returns
returns c = not_parted_open c.args.self.now c.in-Open.field-0 (sym c.replace.ensures.value ∙ c.in-Open.is)
