-- The verdict, by what it is found from.
use Rattle.std.proofs.Common.{◌≡◌, ◌≢◌, refl, ap, ◌∙◌, arith, List, length, ◌==◌, ◌||◌, sym, Bool, true, false, Option, Some, None, [], ◌∷◌}
use Rattle.std.specs.Prelude.{if◌then◌else◌, option_map, option_and_then}
use Rattle.std.specs.List.{find, list_all}
use Rattle.kb_label.specs.Names.{Name}
use Rattle.kb_label.specs.declared.verdict.Spent.TheVariants.{Commits, Over}
use Rattle.kb_label.specs.declared.verdict.Verdict.{Verdict}
use Rattle.kb_label.specs.declared.verdict.Verdict.TheVariants.{Complete, AllFailed, Spent as IsSpent}
use Rattle.mkb_model.specs.Plain.{Plain, is_over, over_reason}
use Rattle.mkb_model.specs.Effects.{first_some, some_if}
use Rattle.mkb_model.specs.Sleeping.{is_failed, working}
use Rattle.mkb_model.proofs.Lists.{clash}
use Rattle.mkb_board.specs.Working.{processes_in}
use Rattle.mkb_board.specs.declared.working.Placed.{Placed}
use Rattle.mkb_model.specs.Verdicts.{verdict, is_complete, first_over}

-- by who is complete, whether all failed, whether the budget is spent, whether all stopped, and why
abbrev verdict_by : Option Name → Bool → Bool → Bool → Option Verdict → Option Verdict
verdict_by complete failed spent stopped why = first_some (option_map Complete complete ∷ some_if failed AllFailed ∷ some_if spent (IsSpent Commits) ∷ (if stopped then why else None) ∷ [])

abbrev why : Plain → Option Verdict
why b = option_map (λ r. IsSpent (Over r)) (option_and_then (over_reason b) (first_over b))

module _ (b : Plain) (none : find (is_complete b) b.living ≡ None) (going : list_all (is_failed b) b.living ≡ false) where
  pub budget_spent : (b.commits == b.settings.budget) ≡ true → Some (IsSpent Commits) ≡ verdict b
  budget_spent e = sym (λ i. verdict_by (none i) (going i) (e i) (list_all (λ p. is_failed b p || is_over b p) b.living) (why b))

  pub undecided : (b.commits == b.settings.budget) ≡ false → list_all (λ p. is_failed b p || is_over b p) b.living ≡ false → None ≡ verdict b
  undecided e some = sym (λ i. verdict_by (none i) (going i) (e i) (some i) (why b))

-- where somebody is worked on, the working ones are not none
pub some_left : (b : Plain) (l : List Placed) → processes_in l ≡ working b b.asleep → (length l == 0) ≡ false → working b b.asleep ≢ []
some_left b [] e h = clash refl h
some_left b (it ∷ l) e h = λ none. absurd (let k = ap length (e ∙ none) in omega (arith, k))
