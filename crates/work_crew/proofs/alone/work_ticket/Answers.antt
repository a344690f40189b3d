use Rattle.std.proofs.Common.{◌∙◌, ap, [], ◌∷◌, ◌++◌}
use Rattle.mkb_model.specs.Journals.{landed}
use Rattle.mkb_model.specs.declared.entry.Entry.TheVariants.{Abandon}
use Rattle.mkb_board.specs.Boards.{Seen}
use Rattle.work_crew.proofs.Turns.{worked, given_back, unchanged_by, finished, commits_once}
use Rattle.work_crew.proofs.alone.work_ticket.Goals.{in-Ok-finish, in-Err-finish}
use Rattle.work_crew.proofs.alone.work_ticket.Goals as goal

pub returns-in-Err-clause-err : goal.returns-in-Err-clause-err
returns-in-Err-clause-err c = given_back c.args.board.now c.args.ticket c.args.snapshot.now c.requires c.abandon.new.self c.abandon.ensures.plain c.abandon.ensures.journal

pub finish-requires-clause-proposed : goal.finish-requires-clause-proposed
finish-requires-clause-proposed c = worked c.args.board.now c.args.ticket c.args.snapshot.now c.requires c.in-Ok.proposal c.in-Ok.ensures

pub returns-clause-ok : goal.returns-clause-ok
returns-clause-ok c = elim c.match-finish.branch [
  | in-Ok-finish w ↦ rw (w.result-is, w.board-is) (finished c.args.board.now c.args.ticket c.args.snapshot.now c.requires c.finish.new.self c.in-Ok.proposal w.in-Ok-finish.field-0 w.in-Ok-finish.ensures.ok).0
  | in-Err-finish w ↦ rw w.result-is tt
]

pub returns-clause-once : goal.returns-clause-once
returns-clause-once c = elim c.match-finish.branch [
  | in-Ok-finish w ↦ rw (w.result-is, w.board-is) (commits_once c.args.board.now c.args.ticket c.args.snapshot.now c.requires c.finish.new.self c.in-Ok.proposal w.in-Ok-finish.field-0 c.in-Ok.ensures w.in-Ok-finish.ensures.ok)
  | in-Err-finish w ↦ rw w.result-is tt
]

pub returns-clause-err : goal.returns-clause-err
returns-clause-err c = elim c.match-finish.branch [
  | in-Ok-finish w ↦ rw w.result-is tt
  | in-Err-finish w ↦ rw w.result-is (given_back c.args.board.now c.args.ticket c.args.snapshot.now c.requires c.match-finish.board (ap (λ (z : Seen). z.plain) w.board-is ∙ w.abandon-in-Err-finish.ensures.plain ∙ ap (λ (z : Seen). landed c.args.ticket.number z.plain) w.in-Err-finish.ensures.err)
      (ap (λ (z : Seen). z.journal) w.board-is ∙ w.abandon-in-Err-finish.ensures.journal ∙ ap (λ (z : Seen). z.journal ++ Abandon c.args.ticket.worker c.args.ticket.number ∷ []) w.in-Err-finish.ensures.err))
]

pub returns-clause-same : goal.returns-clause-same
returns-clause-same c = elim c.match-finish.branch [
  | in-Ok-finish w ↦ rw w.board-is (finished c.args.board.now c.args.ticket c.args.snapshot.now c.requires c.finish.new.self c.in-Ok.proposal w.in-Ok-finish.field-0 w.in-Ok-finish.ensures.ok).1
  | in-Err-finish w ↦ unchanged_by c.args.board.now c.match-finish.board c.args.ticket.number (ap (λ (z : Seen). z.plain) w.board-is ∙ w.abandon-in-Err-finish.ensures.plain ∙ ap (λ (z : Seen). landed c.args.ticket.number z.plain) w.in-Err-finish.ensures.err)
]
