use Rattle.std.proofs.Common.{◌∙◌, ap, sym, subst, not, Option}
use Rattle.mkb_rules.proofs.Answered.{at_ok}
use Rattle.mkb_pick.specs.declared.agenda.Agenda.{Agenda}
use Rattle.mkb_board.specs.Listed.{IsAgenda}
use Rattle.mkb_board.proofs.Listed.{none_kept, one_kept}
use Rattle.mkb_board.proofs.finishing.keep_up.Goals as goal
use Rattle.mkb_board.proofs.finishing.keep_up.Goals.{in-Some, in-None}

pub returns-else-not-is_kept : goal.returns-else-not-is_kept
returns-else-not-is_kept c = elim c.match-agenda.branch [
  | in-Some w ↦ λ b k h.
      let kept = w.is_ok-is_kept.ensures.negation ∙ ap not (sym w.is_kept-is ∙ c.if-not-is_kept.false) in
      subst {A = Option Agenda} (IsAgenda c.args.state.now) (sym w.agenda-is) (at_ok w.follow.result kept w.follow.ensures b k (one_kept b c.args.agenda.now w.in-Some.agenda w.in-Some.is h))
  | in-None w ↦ λ b k h. none_kept c.args.state.now c.match-agenda.agenda (w.agenda-is ∙ w.in-None.is)
]
