use Rattle.std.proofs.Common.{◌∙◌, sym, ap}
use Rattle.mkb_board.specs.Boards.{Seen}
use Rattle.work_crew.proofs.Turns.{opened, broken_off, all_ended}
use Rattle.work_crew.proofs.alone.work_alone.Goals.{then-out_of_memory, else-out_of_memory}
use Rattle.work_crew.proofs.alone.work_alone.Goals as goal

pub take_turns-requires : goal.take_turns-requires
take_turns-requires g c = (c.type_bounds.sync-G, opened c.args.board c.journal_is_legal.ensures c.requires)

pub returns-clause-alone : goal.returns-clause-alone
returns-clause-alone g c = elim c.if-out_of_memory.branch [
  | then-out_of_memory w ↦ broken_off c.args.board c.take_turns.new.board c.if-out_of_memory.board c.is_err-out_of_memory.result c.take_turns.result c.take_turns.ensures.same
      c.take_turns.ensures.err (sym c.is_err-out_of_memory.ensures.value) w.if-out_of_memory.true (ap (λ (z : Seen). z.plain) w.board-is ∙ w.halt.ensures.plain) (ap (λ (z : Seen). z.journal) w.board-is ∙ w.halt.ensures.journal)
  | else-out_of_memory w ↦ all_ended c.args.board c.take_turns.new.board c.if-out_of_memory.board c.is_err-out_of_memory.result c.take_turns.result c.take_turns.ensures.same
      c.take_turns.ensures.ok c.take_turns.ensures.over (sym c.is_err-out_of_memory.ensures.value) w.if-out_of_memory.false w.board-is c.journal_is_legal-2.ensures
]
