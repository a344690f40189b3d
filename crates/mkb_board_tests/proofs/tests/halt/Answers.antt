use Rattle.std.proofs.Common.{◌≡◌, ◌∙◌, sym, ap, subst, append-nil, List, [], ◌∷◌, ◌++◌, Bool, true, false, cond, Contains}
use Rattle.mkb_model.specs.Plain.{Plain}
use Rattle.mkb_model.specs.declared.entry.Entry.{Entry}
use Rattle.mkb_model.specs.declared.entry.Entry.TheVariants.{Halt}
use Rattle.mkb_board.specs.Boards.{has_halt}
use Rattle.mkb_board_tests.proofs.tests.halt.Goals as goal

-- the journal as it was, or with one entry more, is the journal with more
with_more : (b : Bool) (old new : List Entry) → new ≡ cond b old (old ++ Halt ∷ []) → (more : List Entry) × (new ≡ old ++ more)
with_more true old new e = ([], e ∙ sym (append-nil old))
with_more false old new e = (Halt ∷ [], e)

pub returns : goal.returns
returns c = λ t s k.
    let old = c.args.board.now in
    let new = c.halt.new.self in
    let more = with_more (has_halt old.journal) old.journal new.journal c.halt.ensures.journal in
    c.held_tickets_stay.ensures.in_flight old new more.0 t s k more.1
    (ap (λ (z : Plain). z.problem) c.halt.ensures.plain) (ap (λ (z : Plain). z.settings) c.halt.ensures.plain)
    (subst {A = Plain} (λ z. Contains z.flight t) (sym c.halt.ensures.plain) k.flying)
