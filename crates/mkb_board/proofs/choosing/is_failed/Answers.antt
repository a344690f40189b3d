use Rattle.std.proofs.Common.{◌&&◌, not, ap, sym, ◌∙◌}
use Rattle.mkb_model.specs.Plain.{equations_of}
use Rattle.mkb_model.specs.Sleeping.{no_members}
use Rattle.mkb_board.proofs.Idle.{failed_closed}
use Rattle.mkb_board.proofs.choosing.is_failed.Goals as goal

pub returns-then-is_closed_from : goal.returns-then-is_closed_from
returns-then-is_closed_from c =
    let b = c.args.state.now in
    let p = c.args.p.now in
    c.has_equation.ensures
    ∙ sym (failed_closed b p c.requires.rest c.requires.lives ∙ ap (λ x. x && not (no_members (equations_of b p))) (sym c.is_closed_from.ensures ∙ c.if-is_closed_from.true))

pub returns-else-is_closed_from : goal.returns-else-is_closed_from
returns-else-is_closed_from c =
    let b = c.args.state.now in
    let p = c.args.p.now in
    c.if-is_closed_from.false
    ∙ sym (failed_closed b p c.requires.rest c.requires.lives ∙ ap (λ x. x && not (no_members (equations_of b p))) (sym c.is_closed_from.ensures ∙ c.if-is_closed_from.false))
