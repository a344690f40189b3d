-- The journal of rounds, and what it makes of the board.
use Rattle.std.proofs.Common.{ℕ, ◌≡◌, ◌∙◌, sym, refl, subst, List, Bool, true, false, Some}
use Rattle.kb_lemmas.proofs.Options.{none_some}
use Rattle.kb_term.specs.Signature.{Problem, IsWithinLimits}
use Rattle.kb_label.specs.declared.verdict.Verdict.{Verdict}
use Rattle.mkb_model.specs.Headline.{TakesAreBy}
use Rattle.mkb_model.specs.Verdicts.{verdict}
use Rattle.mkb_model.specs.declared.entry.Entry.{Entry}
use Rattle.mkb_model.specs.declared.settings.Settings.{Settings}
use Rattle.mkb_model.proofs.runs.AllFine.{runs_complete}
use Rattle.mkb_model.proofs.runs.Selections.{legal-possible}
use Rattle.mkb_rounds.specs.Ends.{EndsByRounds}
use Rattle.mkb_rounds.proofs.Takers.{takes_of_rounds}
use Rattle.work_crew.specs.declared.alone.Crew.{Crew}
use Rattle.mkbtt_top.specs.Completing.{IsFinished}
use Rattle.mkbtt_top.specs.declared.workers.Workers.TheVariants.{InRounds}

-- where a verdict stands, the workers found memory
pub by_rounds : (P : Problem) (n : Settings) (k : ℕ) (crew : Crew) (v : Verdict) → IsWithinLimits P → EndsByRounds P n crew → verdict crew.board.plain ≡ Some v → IsFinished P n (InRounds k) crew.board v
by_rounds P n k crew v within ends stands = go crew.out_of_memory refl
  where
    go : (b : Bool) → crew.out_of_memory ≡ b → IsFinished P n (InRounds k) crew.board v
    go true e = none_some (sym (ends.1 e).at_rest.no_verdict ∙ stands)
    go false e =
        let r = ends.0 e in
        record {
          outcome = record {
            within = within;
            moments = r.moments;
            run = r.run;
            journal = r.journal;
            takes = subst {A = List Entry} (TakesAreBy 1) r.journal (takes_of_rounds r.moments r.by_rounds);
            completes = runs_complete P n r.moments crew.board.plain within (legal-possible P n r.moments crew.board.plain r.run);
          };
          alone = λ one. absurd (cc);
          rounds = λ _. r;
          stands = stands;
        }
