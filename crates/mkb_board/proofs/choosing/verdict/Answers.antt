use Rattle.std.proofs.Common.{◌≡◌, ◌==◌, ◌||◌, eq-eqb, false, ap, sym, ◌∙◌}
use Rattle.std.specs.List.{list_all}
use Rattle.std.proofs.lemmas.Bool.{ne_eqb}
use Rattle.mkb_model.specs.Plain.{is_over}
use Rattle.mkb_model.specs.Sleeping.{is_failed}
use Rattle.mkb_board.proofs.StillWorking.{some_work}
use Rattle.mkb_board.proofs.Verdicts.{budget_spent, some_left, undecided}
use Rattle.mkb_board.proofs.choosing.verdict.Goals as goal
use Rattle.mkb_board.proofs.choosing.verdict.Goals.{else-is_empty-via-then-is_empty+else-have_all_failed, else-is_empty-via-else-is_empty, then-not-is_empty-via-then-not-is_empty, then-not-is_empty-via-else-not-is_empty+then-not-have_all_stopped}

pub returns-then-commits-settings : goal.returns-then-commits-settings
returns-then-commits-settings c =
    let b = c.args.state.now in
    let going : list_all (is_failed b) b.living ≡ false =
    elim c.else-is_empty.branch [
      | else-is_empty-via-then-is_empty+else-have_all_failed w ↦ sym w.have_all_failed.ensures ∙ w.if-have_all_failed.false
      | else-is_empty-via-else-is_empty w ↦ (some_work b (some_left b c.args.working.now c.requires.works (sym c.is_empty.ensures ∙ w.if-is_empty.false))).0
    ] in
    budget_spent b (sym c.requires.completes ∙ c.in_default.is) going (eq-eqb b.commits b.settings.budget (sym c.commits.ensures ∙ c.if-commits-settings.true ∙ ap (λ n. n.budget) c.settings.ensures))

pub returns-then-not-is_empty : goal.returns-then-not-is_empty
returns-then-not-is_empty c =
    let b = c.args.state.now in
    let going : list_all (is_failed b) b.living ≡ false =
    elim c.else-is_empty.branch [
      | else-is_empty-via-then-is_empty+else-have_all_failed w ↦ sym w.have_all_failed.ensures ∙ w.if-have_all_failed.false
      | else-is_empty-via-else-is_empty w ↦ (some_work b (some_left b c.args.working.now c.requires.works (sym c.is_empty.ensures ∙ w.if-is_empty.false))).0
    ] in
    let some : list_all (λ p. is_failed b p || is_over b p) b.living ≡ false =
    elim c.then-not-is_empty.branch [
      | then-not-is_empty-via-then-not-is_empty w ↦ (some_work b (some_left b c.args.working.now c.requires.works (sym c.is_empty-2.ensures ∙ w.if-not-is_empty.true))).1
      | then-not-is_empty-via-else-not-is_empty+then-not-have_all_stopped w ↦ sym w.have_all_stopped.ensures ∙ w.if-not-have_all_stopped.true
    ] in
    let unspent : (b.commits == b.settings.budget) ≡ false = ne_eqb b.commits b.settings.budget (λ e. c.if-commits-settings.false (c.commits.ensures ∙ e ∙ ap (λ n. n.budget) (sym c.settings.ensures))) in
    undecided b (sym c.requires.completes ∙ c.in_default.is) going unspent some
