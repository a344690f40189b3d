use Rattle.std.proofs.Common.{◌≡◌, ◌∙◌, sym, ap, subst, true, false}
use Rattle.std.specs.Prelude.{Option, is_some}
use Rattle.kb_label.specs.declared.verdict.Verdict.{Verdict}
use Rattle.mkb_board.specs.Boards.{Seen, IsLegalBoard}
use Rattle.mkb_rounds.proofs.Ended.{broken_off, decided}
use Rattle.mkb_rounds.proofs.Going.{legal_halted, opened}
use Rattle.mkb_rounds.proofs.rounds.work_rounds.Goals.{then-out_of_memory, else-out_of_memory}
use Rattle.mkb_rounds.proofs.rounds.work_rounds.Goals as goal

pub play_rounds-requires-after_bounds : goal.play_rounds-requires-after_bounds
play_rounds-requires-after_bounds g c κs within = opened c.args.board c.journal.ensures.legal c.requires.opening

pub returns-clause-rounds : goal.returns-clause-rounds
returns-clause-rounds g c = elim c.if-out_of_memory.branch [
  | then-out_of_memory w ↦ broken_off c.args.board c.play_rounds.new.board c.if-out_of_memory.board c.is_none-out_of_memory.result c.play_rounds.ensures.same c.play_rounds.ensures.ended
      (ap (λ (z : Seen). z.plain) w.board-is ∙ w.halt.ensures.plain) (ap (λ (z : Seen). z.journal) w.board-is ∙ w.halt.ensures.journal) (subst {A = Option Verdict} (λ o. is_some o ≡ false) c.verdict.ensures w.if-out_of_memory.ensures) w.if-out_of_memory.true
  | else-out_of_memory w ↦ decided c.args.board c.play_rounds.new.board c.if-out_of_memory.board c.is_none-out_of_memory.result c.play_rounds.ensures.same c.play_rounds.ensures.ended
      w.board-is (subst {A = Option Verdict} (λ o. is_some o ≡ true) c.verdict.ensures w.if-out_of_memory.ensures) w.if-out_of_memory.false
]

pub returns-clause-legal : goal.returns-clause-legal
returns-clause-legal g c = elim c.if-out_of_memory.branch [
  | then-out_of_memory w ↦ legal_halted c.play_rounds.new.board c.if-out_of_memory.board c.play_rounds.ensures.ended.legal (ap (λ (z : Seen). z.plain) w.board-is ∙ w.halt.ensures.plain) (ap (λ (z : Seen). z.journal) w.board-is ∙ w.halt.ensures.journal)
  | else-out_of_memory w ↦ subst {A = Seen} IsLegalBoard (sym w.board-is) c.play_rounds.ensures.ended.legal
]
