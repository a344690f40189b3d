use Rattle.std.proofs.Common.{ap, subst, sym, ◌∙◌, ◌≡◌, Some, None, Option}
use Rattle.std.specs.Prelude.{map, MatchOption}
use Rattle.kb_syntax.specs.declared.side.Inner.TheVariants.{Whole}
use Rattle.kb_text.specs.Names.{Name}
use Rattle.kb_text.specs.Refusals.{last_alone}
use Rattle.kb_syntax.specs.Sides.{application_of}
use Rattle.kb_text.specs.Fronts.{whole}
use Rattle.kb_syntax.specs.Written.{written_of}
use Rattle.kb_syntax.proofs.SideLaws.{front_is, alone-enclosed}
use Rattle.kb_syntax.proofs.side.Side.last_alone.Goals as goal

pub returns-in-Whole : goal.returns-in-Whole
returns-in-Whole c = subst (λ (o : Option Name). MatchOption c.alone_name.result (o ≡ None) (λ name. o ≡ Some name.now))
    (sym (ap last_alone (front_is c.args.self.now (Whole c.in-Whole.term) c.in-Whole.is) ∙ alone-enclosed (map application_of c.args.self.now.outer.items) (whole (written_of c.in-Whole.term)))) c.alone_name.ensures

pub returns-in-Open : goal.returns-in-Open
returns-in-Open c = ap last_alone (front_is c.args.self.now _ c.in-Open.is) ∙ alone-enclosed (map application_of c.args.self.now.outer.items) _
