use Rattle.std.proofs.Common.{◌≡◌, ◌∙◌, ap, subst, rules, not, ◌||◌}
use Rattle.std.specs.Prelude.{Option, is_none, is_some}
use Rattle.kb_label.specs.declared.verdict.Verdict.{Verdict}
use Rattle.mkb_model.specs.Verdicts.{verdict}
use Rattle.mkb_board.specs.Boards.{Seen}
use Rattle.work_crew.proofs.Ended.{ends_undecided, ends_decided, none_is, or_true, or_false}
use Rattle.work_crew.proofs.together.work_together_by.Goals.{then-undecided, else-undecided, then-undecided-2, else-undecided-2}
use Rattle.work_crew.proofs.together.work_together_by.Goals as goal

pub returns : goal.returns
returns g c =
    let start = c.args.board in
    let mid = c.worked_on-board.result in
    let undecided = c.is_none-undecided.result in
    let left = c.is_left-left.result in
    let out = c.if-undecided-2.result in
    let asked : undecided ≡ is_none (verdict mid.plain) = none_is (verdict mid.plain) undecided (subst {A = Option Verdict} (λ o. is_some o ≡ not undecided) c.verdict.ensures c.is_none-undecided.ensures) in
    let told : out ≡ (undecided || left) = elim c.if-undecided-2.branch [
      | then-undecided-2 w ↦ or_true undecided left out w.if-undecided-2.true (w.result-is ∙ w.if-undecided-2.true)
      | else-undecided-2 w ↦ or_false undecided left out w.if-undecided-2.false w.result-is
    ] in
    elim c.if-undecided.branch [
      | then-undecided w ↦ ends_undecided start mid c.if-undecided.board c.args.workers undecided left out c.worked_on-board.ensures.same c.worked_on-board.ensures.numbered c.journal.ensures.legal asked (search rules) told (ap (λ (z : Seen). z.plain) w.board-is ∙ w.halt.ensures.plain) (ap (λ (z : Seen). z.journal) w.board-is ∙ w.halt.ensures.journal)
      | else-undecided w ↦ ends_decided start mid c.if-undecided.board c.args.workers undecided left out c.worked_on-board.ensures.same c.worked_on-board.ensures.numbered c.journal.ensures.legal asked (search rules) told w.board-is w.if-undecided.false
    ]
