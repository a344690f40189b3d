use Rattle.std.proofs.Common.{ap, ◌∙◌, subst}
use Rattle.kb_syntax.specs.Looks.{spot_at}
use Rattle.kb_syntax.specs.Sides.{token_at}
use Rattle.kb_syntax.specs.Reader.{IsPassed, name_notes, place_look}
use Rattle.kb_syntax.specs.declared.notes.Notes.{Notes}
use Rattle.kb_syntax.proofs.PassLaws.{next_reader, same_uses}
use Rattle.kb_syntax.proofs.reader.Reader.next.Goals as goal

pub returns : goal.returns
returns c =
    let look = place_look c.args.self.now.place in
    let t = token_at c.args.form c.args.name.now in
    next_reader c.args.self.now (record { notes = c.pass.new.self; place = c.pass.new.place }) t c.in_ok-goes_on.goes_on c.in_ok-goes_on.ensures.place
    (λ e. subst (λ (n : Notes). IsPassed n look t c.pass.new.self)
    (c.in_ok-name_at.ensures ∙ ap (λ (n : Notes). name_notes n (spot_at look) t) (c.in_ok-end_uses_at.ensures ∙ same_uses c.args.self.now.notes look c.args.form c.args.name.now)) (c.in_ok-goes_on.ensures.passed e))
