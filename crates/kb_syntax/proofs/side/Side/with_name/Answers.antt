use Rattle.std.proofs.Common.{◌∙◌, ap, sym, Some}
use Rattle.std.specs.Prelude.{map}
use Rattle.kb_syntax.specs.Sides.{application_of, enclosed, inner_front}
use Rattle.kb_syntax.specs.declared.side.Inner.{Inner}
use Rattle.kb_syntax.proofs.SideLaws.{named, not_named}
use Rattle.kb_syntax.proofs.side.Side.with_name.Goals as goal

pub returns-in-Whole : goal.returns-in-Whole
returns-in-Whole c = not_named c.args.self.now c.in-Whole.field-0 c.args.name.now (sym c.replace.ensures.value ∙ c.in-Whole.is)

pub returns : goal.returns
returns c =
    ap (λ (i : Inner). Some (enclosed (map application_of c.push.new.self.items) (inner_front i))) c.replace.ensures.after
    ∙ named c.args.self.now c.in-Open.application c.args.name.now (sym c.replace.ensures.value ∙ c.in-Open.is) c.push.new.self.items c.in_ok-push-in-Open.ensures.items
