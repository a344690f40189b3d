-- The board on which several workers have ended.
use Rattle.std.proofs.Common.{ℕ, zero, suc, ◌≤◌, ◌≡◌, ◌∙◌, refl, sym, ap, ap₂, subst, arith, All, List, [], ◌∷◌, ◌++◌, Contains, Bool, true, false, not, Some, None, ⊎_elim}
use Rattle.std.specs.Prelude.{Option, IsTrue, is_none, is_some, ◌||◌, if◌then◌else◌}
use Rattle.std.specs.List.{list_any}
use Rattle.std.proofs.lemmas.List.Elements.{All-append, Contains-push_cases}
use Rattle.kb_term.specs.Signature.{Problem}
use Rattle.kb_label.specs.declared.verdict.Verdict.{Verdict}
use Rattle.kb_node.specs.declared.job.Job.{Job}
use Rattle.mkb_model.specs.Headline.{TakesAreBy}
use Rattle.mkb_model.specs.Plain.{Plain}
use Rattle.mkb_model.specs.Verdicts.{verdict}
use Rattle.mkb_model.specs.Journals.{Moment, Follows, IsRun, IsFirstJob, journal_of, worker_of}
use Rattle.mkb_model.specs.declared.entry.Entry.{Entry}
use Rattle.mkb_model.specs.declared.entry.Entry.TheVariants.{Take, Halt}
use Rattle.mkb_board.specs.Boards.{Seen, IsLegalBoard, has_halt}
use Rattle.work_crew.specs.Alone.{IsSameRun}
use Rattle.work_crew.specs.Together.{EndsTogether, halted, is_leaving}
use Rattle.work_crew.proofs.Turns.{halt_made}
use Rattle.mkb_model.specs.declared.settings.Settings.{Settings}

took : (ms : List Moment) (b : Plain) (e : Entry) (c : Plain) (w t : ℕ) (j : Job) → Follows IsFirstJob ms b e c → e ≡ Take w t j → 1 ≤ w
took ms b e c w t j f q = (subst {A = Entry} (λ z. Follows IsFirstJob ms b z c) q f).worker_least

-- each take of a legal journal is by a worker from 1 on
takers : (P : Problem) (n : Settings) (ms : List Moment) (c : Plain) → IsRun P n ms c → (w t : ℕ) (j : Job) → Contains (journal_of ms) (Take w t j) → 1 ≤ w
takers P n [] c run w t j k = absurd (omega (arith, k.1))
takers P n (m ∷ ms) c run w t j k = ⊎_elim (takers P n ms m.board run.0 w t j) (took ms m.board m.entry c w t j run.1) (Contains-push_cases (journal_of ms) m.entry (Take w t j) k)

-- up to the number of workers, where each entry is
pub takes_by : (s : Seen) (workers : ℕ) → IsLegalBoard s → All (λ (e : Entry). worker_of e ≤ workers) s.journal → TakesAreBy workers s.journal
takes_by s workers legal low w t j k = (
  takers s.plain.problem s.plain.settings legal.after.0 s.plain legal.after.2 w t j (subst {A = List Entry} (λ J. Contains J (Take w t j)) (sym legal.after.1) k),
  subst {A = Entry} (λ e. worker_of e ≤ workers) k.2 (low k.0 (Take w t j) k.1),
)

-- a halt is nobody's
pub numbered_halted : (workers : ℕ) (xs ys : List Entry) → All (λ (e : Entry). worker_of e ≤ workers) xs → ys ≡ halted xs → All (λ (e : Entry). worker_of e ≤ workers) ys
numbered_halted workers xs ys h e = subst {A = List Entry} (All (λ (x : Entry). worker_of x ≤ workers)) (sym e) (go (has_halt xs))
  where
    go : (b : Bool) → All (λ (x : Entry). worker_of x ≤ workers) (if b then xs else xs ++ Halt ∷ [])
    go true = h
    go false = All-append (λ (x : Entry). worker_of x ≤ workers) xs (Halt ∷ []) h one
      where
        one : All (λ (x : Entry). worker_of x ≤ workers) (Halt ∷ [])
        one zero d l = omega arith
        one (suc n) d l = absurd (omega (arith, l))

pub or_true : (u l out : Bool) → u ≡ true → out ≡ true → out ≡ (u || l)
or_true u l out p q = rw p q

pub or_false : (u l out : Bool) → u ≡ false → out ≡ l → out ≡ (u || l)
or_false u l out p q = rw p q

-- whether there is no verdict
pub none_is : (o : Option Verdict) (b : Bool) → is_some o ≡ not b → b ≡ is_none o
none_is None true e = refl
none_is None false e = absurd (cc)
none_is (Some v) true e = absurd (cc)
none_is (Some v) false e = refl

no_verdict : (o : Option Verdict) → is_none o ≡ false → o ≡ None → ⊥
no_verdict None e q = cc
no_verdict (Some v) e q = cc

module _ (start mid end : Seen) (workers : ℕ) (undecided left out : Bool) (same : IsSameRun start mid) (low : All (λ (e : Entry). worker_of e ≤ workers) mid.journal) (legal : IsLegalBoard end)
    (asked : undecided ≡ is_none (verdict mid.plain)) (leaves : left ≡ list_any is_leaving end.journal) (told : out ≡ (undecided || left)) where
  ends : end.plain ≡ mid.plain → All (λ (e : Entry). worker_of e ≤ workers) end.journal → (verdict mid.plain ≡ None → IsTrue (has_halt end.journal)) → EndsTogether start.plain.problem start.plain.settings workers (record { board = end; out_of_memory = out })
  ends e numbered halts = record {
    problem = ap (λ (z : Plain). z.problem) e ∙ same.problem;
    settings = ap (λ (z : Plain). z.settings) e ∙ same.settings;
    legal = legal;
    takes = takes_by end workers legal numbered;
    halted = λ q. halts (sym (ap verdict e) ∙ q);
    told = told ∙ ap₂ (λ (a b : Bool). a || b) (asked ∙ ap (λ (z : Plain). is_none (verdict z)) (sym e)) leaves;
  }

  -- where no verdict stands a halt is made
  pub ends_undecided : end.plain ≡ mid.plain → end.journal ≡ halted mid.journal → EndsTogether start.plain.problem start.plain.settings workers (record { board = end; out_of_memory = out })
  ends_undecided e h = ends e (numbered_halted workers mid.journal end.journal low h) (λ q. halt_made mid.journal end.journal h)

  -- where one stands the board is as it was left
  pub ends_decided : end ≡ mid → undecided ≡ false → EndsTogether start.plain.problem start.plain.settings workers (record { board = end; out_of_memory = out })
  ends_decided e q = ends (ap (λ (s : Seen). s.plain) e) (subst {A = Seen} (λ s. All (λ (x : Entry). worker_of x ≤ workers) s.journal) (sym e) low) (λ none. absurd (no_verdict (verdict mid.plain) (sym asked ∙ q) none))
