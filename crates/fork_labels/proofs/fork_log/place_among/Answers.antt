use Rattle.std.proofs.Common.{sym, refl, ◌∙◌, get_or, Err}
use mathlib.Core.Bool.{true≢false}
use Rattle.kb_label.specs.NameOrder.{name_cmp-equal}
use Rattle.kb_label.proofs.Searched.{at-has, search-found}
use Rattle.fork_labels.proofs.fork_log.place_among.Goals as goal

pub returns-in-Ok-clause-found : goal.returns-in-Ok-clause-found
returns-in-Ok-clause-found c =
    let names = c.args.names.now in
    let p = c.args.process.now in
    λ h. (c.in-Ok.i, c.in-Ok.ensures.bound, name_cmp-equal (get_or names c.in-Ok.i p) p (c.in-Ok.ensures.position p), refl)

pub returns-in-Ok-clause-absent : goal.returns-in-Ok-clause-absent
returns-in-Ok-clause-absent c =
    let names = c.args.names.now in
    let p = c.args.process.now in
    λ h. absurd (true≢false (sym (at-has names p c.in-Ok.i c.in-Ok.ensures.bound (name_cmp-equal (get_or names c.in-Ok.i p) p (c.in-Ok.ensures.position p))) ∙ h))

pub returns-in-Err-clause-found : goal.returns-in-Err-clause-found
returns-in-Err-clause-found c =
    λ h. absurd (true≢false (sym h ∙ sym (search-found c.args.names.now c.args.process.now c.requires.in_order (Err c.in-Err.field-0) c.in-Err.ensures.bound c.in-Err.ensures.position)))
