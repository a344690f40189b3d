-- The journal of one worker alone and those of several, and what they make of the board.
use Rattle.std.proofs.Common.{ℕ, ◌≡◌, ◌≢◌, ◌≤◌, ◌∙◌, ap, sym, refl, subst, arith, List, [], ◌∷◌, Bool, true, false, ◌==◌, ◌&&◌, ◌||◌, ◌++◌, Some, None, ⊎_elim}
use mathlib.Core.Logic.{dite}
use native.Mathlib.Decide.{ℕ_discrete}
use Rattle.std.specs.Prelude.{IsSome, IsTrue}
use Rattle.std.proofs.lemmas.Bool.{eqb-true, and_parts}
use Rattle.std.proofs.lemmas.List.Elements.{Contains-push_cases}
use Rattle.kb_lemmas.proofs.Membership.{contains_cases}
use Rattle.kb_lemmas.proofs.Options.{none_some}
use Rattle.kb_term.specs.Signature.{Problem, IsWithinLimits}
use Rattle.kb_label.specs.declared.verdict.Verdict.{Verdict}
use Rattle.kb_node.specs.declared.job.Job.{Job}
use Rattle.mkb_model.specs.Headline.{TakesAreBy}
use Rattle.mkb_model.specs.Journals.{After, Alone, Follows, IsFirstJob, IsRun, Moment, journal_of, takes_in_turn, is_end_of, is_halt}
use Rattle.mkb_model.specs.Plain.{Plain}
use Rattle.mkb_model.specs.Verdicts.{verdict}
use Rattle.mkb_model.specs.declared.entry.Entry.{Entry}
use Rattle.mkb_model.specs.declared.entry.Entry.TheVariants.{Take, Commit, Drop, Abandon, Halt}
use Rattle.mkb_model.proofs.runs.AllFine.{runs_complete}
use Rattle.mkb_model.proofs.runs.Selections.{legal-possible}
use Rattle.mkb_board.specs.Boards.{Seen, has_halt, IsLegalBoard}
use Rattle.work_crew.specs.Alone.{EndsAlone, IsBrokenOff, IsBrokenOffAlone}
use Rattle.work_crew.specs.Together.{EndsTogether}
use Rattle.work_crew.specs.declared.alone.Crew.{Crew}
use Rattle.mkbtt_top.specs.Completing.{IsBroken, IsFinished}
use Rattle.mkbtt_top.specs.Workers.{EndsBy}
use Rattle.mkbtt_top.specs.declared.workers.Workers.{Workers}
use Rattle.mkbtt_top.specs.declared.workers.Workers.TheVariants.{Free, InRounds}
use Rattle.mkbtt_top.proofs.ByRounds.{by_rounds}
use Rattle.mkb_model.specs.declared.settings.Settings.{Settings}

-- each take is by worker 1
takes_by_one : (J : List Entry) → IsTrue (takes_in_turn J) → TakesAreBy 1 J
takes_by_one [] h w t j c = absurd (omega (arith, c.1))
takes_by_one (Take v s i ∷ []) h w t j c = absurd (cc)
takes_by_one (Take v s i ∷ e ∷ J) h w t j c =
    let parts = and_parts (v == 1) (is_end_of s e && takes_in_turn J) h in
    let rest = and_parts (is_end_of s e) (takes_in_turn J) parts.1 in
    let first : Take v s i ≡ Take w t j → (1 ≤ w) × (w ≤ 1) = λ q. (let k : v ≡ w = cc in let one = eqb-true v 1 parts.0 in (omega (arith, k, one), omega (arith, k, one))) in
    let second : e ≡ Take w t j → (1 ≤ w) × (w ≤ 1) = λ q. absurd (no_end s w t j (subst {A = Entry} (λ x. is_end_of s x ≡ true) q rest.0)) in
    ⊎_elim first (λ c2. ⊎_elim second (takes_by_one J rest.1 w t j) (contains_cases e J (Take w t j) c2)) (contains_cases (Take v s i) (e ∷ J) (Take w t j) c)
  where
    no_end : (s w t : ℕ) (j : Job) → is_end_of s (Take w t j) ≡ true → ⊥
    no_end s w t j q = cc
takes_by_one (Commit v s i ∷ J) h w t j c = absurd (cc)
takes_by_one (Drop v s i ∷ J) h w t j c = absurd (cc)
takes_by_one (Abandon v s ∷ J) h w t j c = absurd (cc)
takes_by_one (Halt ∷ J) h w t j c = absurd (cc)

finished : (P : Problem) (n : Settings) (s : Seen) (v : Verdict) → IsWithinLimits P → Alone P n s.journal s.plain → verdict s.plain ≡ Some v → IsFinished P n (Free 1) s v
finished P n s v within alone stands = record {
  outcome = record {
    within = within;
    moments = alone.legal.0;
    run = alone.legal.2;
    journal = alone.legal.1;
    takes = takes_by_one s.journal alone.in_turn;
    completes = runs_complete P n alone.legal.0 s.plain within (legal-possible P n alone.legal.0 s.plain alone.legal.2);
  };
  alone = λ _. alone;
  rounds = λ h. absurd (cc);
  stands = stands;
}

-- where a verdict stands, the one worker found memory
by_one : (P : Problem) (n : Settings) (crew : Crew) (v : Verdict) → IsWithinLimits P → EndsAlone P n crew → verdict crew.board.plain ≡ Some v → IsFinished P n (Free 1) crew.board v
by_one P n crew v within ends stands = go crew.out_of_memory refl
  where
    go : (b : Bool) → crew.out_of_memory ≡ b → IsFinished P n (Free 1) crew.board v
    go true e = none_some (sym (ends.1 e).at_rest.no_verdict ∙ stands)
    go false e = finished P n crew.board v within (ends.0 e) stands

by_several : (P : Problem) (n : Settings) (workers : ℕ) (crew : Crew) (v : Verdict) → IsWithinLimits P → workers ≢ 1 → EndsTogether P n workers crew → verdict crew.board.plain ≡ Some v → IsFinished P n (Free workers) crew.board v
by_several P n workers crew v within several ends stands =
    let legal = subst {A = Problem} (λ p. After p n crew.board.journal crew.board.plain) ends.problem (subst {A = Settings} (λ m. After crew.board.plain.problem m crew.board.journal crew.board.plain) ends.settings ends.legal.after) in
    record {
      outcome = record {
        within = within;
        moments = legal.0;
        run = legal.2;
        journal = legal.1;
        takes = ends.takes;
        completes = runs_complete P n legal.0 crew.board.plain within (legal-possible P n legal.0 crew.board.plain legal.2);
      };
      alone = λ one. absurd (several (cc));
      rounds = λ h. absurd (cc);
      stands = stands;
    }

-- the work on which a verdict stands
pub finished_by : (P : Problem) (n : Settings) (workers : Workers) (crew : Crew) (v : Verdict) → IsWithinLimits P → EndsBy P n workers crew → verdict crew.board.plain ≡ Some v → IsFinished P n workers crew.board v
finished_by P n (InRounds workers) crew v within ends stands = by_rounds P n workers crew v within ends.0 stands
finished_by P n (Free workers) crew v within ends stands = dite (ℕ_discrete workers 1)
    (λ (one : workers ≡ 1). subst {A = ℕ} (λ k. IsFinished P n (Free k) crew.board v) (sym one) (by_one P n crew v within (ends.0 one).0 stands))
    (λ (several : workers ≢ 1). by_several P n workers crew v within several (ends.1 several) stands)

-- ---- where no verdict stands

-- no more workers take tickets than there may be
entry_taken : (past : List Moment) (b c : Plain) (e : Entry) (w t : ℕ) (j : Job) → Follows IsFirstJob past b e c → e ≡ Take w t j → (1 ≤ w) × (w ≤ 16)
entry_taken past b c (Take v s i) w t j f e = let same : v ≡ w = cc in (omega (arith, same, f.worker_least), omega (arith, same, f.worker_most))
entry_taken past b c (Commit v s i) w t j f e = absurd (cc)
entry_taken past b c (Drop v s i) w t j f e = absurd (cc)
entry_taken past b c (Abandon v s) w t j f e = absurd (cc)
entry_taken past b c Halt w t j f e = absurd (cc)

takes_of_run : (P : Problem) (n : Settings) (ms : List Moment) (c : Plain) → IsRun P n ms c → TakesAreBy 16 (journal_of ms)
takes_of_run P n [] c run w t j h = absurd (omega (arith, h.1))
takes_of_run P n (m ∷ ms) c run w t j h = ⊎_elim (takes_of_run P n ms m.board run.0 w t j) (entry_taken ms m.board c m.entry w t j run.1) (Contains-push_cases (journal_of ms) m.entry (Take w t j) h)

broken : (P : Problem) (n : Settings) (workers : Workers) (s : Seen) → IsWithinLimits P → s.plain.problem ≡ P → s.plain.settings ≡ n → IsLegalBoard s → ((k : ℕ) → workers ≡ Free k → k ≢ 1 → TakesAreBy k s.journal) → (((k : ℕ) → workers ≡ Free k → k ≡ 1) → s.plain.flight ≡ []) → verdict s.plain ≡ None → IsTrue (has_halt s.journal) → IsBroken P n workers s
broken P n workers s within problem settings board takes grounded none halted =
    let legal = subst {A = Problem} (λ p. After p n s.journal s.plain) problem (subst {A = Settings} (λ m. After s.plain.problem m s.journal s.plain) settings board.after) in
    record {
      outcome = record {
        within = within;
        moments = legal.0;
        run = legal.2;
        journal = legal.1;
        takes = subst {A = List Entry} (TakesAreBy 16) legal.1 (takes_of_run P n legal.0 s.plain legal.2);
        completes = runs_complete P n legal.0 s.plain within (legal-possible P n legal.0 s.plain legal.2);
      };
      takes = takes;
      grounded = grounded;
      no_verdict = none;
      halted = halted;
    }

-- a halt was made in the work for the problem, and nothing is in flight
abbrev GaveUp : Problem → Settings → Seen → Type 0
GaveUp P n s = (s.plain.problem ≡ P) × (s.plain.settings ≡ n) × (s.plain.flight ≡ []) × IsTrue (has_halt s.journal)

gave_up : (P : Problem) (n : Settings) (s : Seen) → IsBrokenOff P n s → GaveUp P n s
gave_up P n s off = (off.problem, off.settings, off.at_rest.grounded, off.halted)

halt_last : (J : List Entry) → has_halt (J ++ Halt ∷ []) ≡ true
halt_last [] = refl
halt_last (e ∷ J) = go (is_halt e) (halt_last J)
  where
    go : (b : Bool) → has_halt (J ++ Halt ∷ []) ≡ true → (b || has_halt (J ++ Halt ∷ [])) ≡ true
    go true h = refl
    go false h = h

gave_up_alone : (P : Problem) (n : Settings) (s : Seen) → IsBrokenOffAlone P n s → GaveUp P n s
gave_up_alone P n s off = (off.problem, off.settings, off.at_rest.grounded, ap has_halt off.halted ∙ halt_last off.entries)

-- the work was broken off where it ended without a verdict
broken_alone : (P : Problem) (n : Settings) (workers : Workers) (crew : Crew) → IsWithinLimits P → (crew.out_of_memory ≡ false → IsSome (verdict crew.board.plain)) → (crew.out_of_memory ≡ true → GaveUp P n crew.board) → IsLegalBoard crew.board → ((k : ℕ) → workers ≡ Free k → k ≢ 1 → TakesAreBy k crew.board.journal) → verdict crew.board.plain ≡ None → IsBroken P n workers crew.board
broken_alone P n workers crew within ended off legal takes none = go crew.out_of_memory refl
  where
    go : (b : Bool) → crew.out_of_memory ≡ b → IsBroken P n workers crew.board
    go true e = let o = off e in broken P n workers crew.board within o.0 o.1 legal takes (λ _. o.2) none o.3
    go false e = let stands : false ≡ true = rw none at (ended e) in absurd (cc)

pub broken_by : (P : Problem) (n : Settings) (workers : Workers) (crew : Crew) → IsWithinLimits P → EndsBy P n workers crew → verdict crew.board.plain ≡ None → IsBroken P n workers crew.board
broken_by P n (InRounds workers) crew within ends none = broken_alone P n (InRounds workers) crew within (λ e. (ends.0.0 e).ended) (λ e. gave_up P n crew.board (ends.0.1 e)) ends.1 (λ k e. absurd (cc)) none
broken_by P n (Free workers) crew within ends none = dite (ℕ_discrete workers 1)
    (λ (one : workers ≡ 1).
    let alone = (ends.0 one).0 in
    broken_alone P n (Free workers) crew within (λ e. (alone.0 e).ended) (λ e. gave_up_alone P n crew.board (alone.1 e)) (ends.0 one).1 (λ k e several. let same : workers ≡ k = cc in absurd (several (sym same ∙ one))) none)
    (λ (many : workers ≢ 1).
    let together = ends.1 many in
    broken P n (Free workers) crew.board within together.problem together.settings together.legal (λ k e several. let same : workers ≡ k = cc in subst {A = ℕ} (λ i. TakesAreBy i crew.board.journal) same together.takes) (λ one. absurd (many (one workers refl))) none (together.halted none))
