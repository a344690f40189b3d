use Rattle.std.proofs.Common.{rules, ◌≡◌, ◌∙◌, sym, ap, subst, drop, List, None}
use Rattle.std.proofs.lemmas.List.{take_rest}
use Rattle.mkb_model.specs.Verdicts.{verdict}
use Rattle.mkb_board.specs.Boards.{Seen}
use Rattle.work_crew.specs.declared.shared.Assignment.{Assignment}
use Rattle.mkb_rounds.specs.Playing.{IsLeftWith}
use Rattle.mkb_rounds.proofs.Playing.{at_place, ends_at, held_at, left_ending, on_err, on_ok}
use Rattle.mkb_rounds.proofs.ending.end_tickets.Goals as goal

pub end_ticket-requires-clause-held : goal.end_ticket-requires-clause-held
end_ticket-requires-clause-held g c = held_at c.loop-place.board c.args.round.now c.loop-place.place c.index-round-place.result c.loop-place-test.true c.index-round-place.is c.loop-place.invariant.0

pub end_ticket-requires-clause-worked : goal.end_ticket-requires-clause-worked
end_ticket-requires-clause-worked g c = c.worked_at-worked.ensures.worked c.index-round-place.result (at_place c.args.round.now c.loop-place.place c.index-round-place.result c.loop-place-test.true c.index-round-place.is)

pub give_back-requires : goal.give_back-requires
give_back-requires g c =
    let rest = drop c.loop-place.place c.args.round.now in
    let none : verdict c.loop-place.board.plain ≡ None = search rules in
    let left = left_ending c.loop-place.board rest c.loop-place.invariant.0 none in
    let same = on_err c.end_ticket.result (search rules) c.end_ticket.ensures.err in
    subst {A = List Assignment} (IsLeftWith c.end_ticket.new.board) (sym (take_rest c.args.round.now c.loop-place.place)) (subst {A = Seen} (λ z. IsLeftWith z rest) (sym same) left)

pub loop-place-preserved : goal.loop-place-preserved
loop-place-preserved g c =
    let none : verdict c.loop-place.board.plain ≡ None = search rules in
    let ended = on_ok c.end_ticket.result (search rules) c.end_ticket.ensures.ok in
    let r = ends_at c.args.board.now c.loop-place.board c.end_ticket.new.board c.args.round.now c.loop-place.place c.index-round-place.result c.loop-place-test.true c.index-round-place.is c.loop-place.invariant.0 c.loop-place.invariant.2 none ended in
    (r.0, c.worked_at-worked.ensures.right, r.1)
