use Rattle.std.proofs.Common.{◌∙◌, ap, Some}
use Rattle.std.specs.Prelude.{map}
use Rattle.kb_text.specs.Fronts.{opened}
use Rattle.kb_syntax.specs.Sides.{application_of, enclosed}
use Rattle.kb_syntax.proofs.WrittenArguments.{args}
use Rattle.kb_syntax.proofs.SideLaws.{opening_behind, not_opening_behind}
use Rattle.kb_syntax.proofs.side.Side.opened.Goals as goal

pub returns-in-Some : goal.returns-in-Some
returns-in-Some c =
    ap (λ ts. Some (enclosed (map application_of c.args.self.now.outer.items) (opened c.in-Some.name.now (args ts)))) c.new.ensures.items
    ∙ opening_behind c.args.self.now c.in-Some.name.now c.in-Some.ensures

pub returns-in-None : goal.returns-in-None
returns-in-None c = not_opening_behind c.args.self.now c.in-None.ensures
