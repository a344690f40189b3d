-- The board on which the rounds have ended.
use Rattle.std.proofs.Common.{◌≡◌, ◌∙◌, refl, sym, ap, subst, ◌++◌, ◌∷◌, [], Bool, true, false, Some, None}
use Rattle.std.specs.Prelude.{Option, IsSome, is_some, if◌then◌else◌}
use Rattle.kb_term.specs.Signature.{Problem}
use Rattle.kb_label.specs.declared.verdict.Verdict.{Verdict}
use Rattle.mkb_model.specs.Plain.{Plain}
use Rattle.mkb_model.specs.Verdicts.{verdict}
use Rattle.mkb_model.specs.Journals.{IsRun}
use Rattle.mkb_model.specs.declared.settings.Settings.{Settings}
use Rattle.mkb_board.specs.Boards.{Seen}
use Rattle.work_crew.specs.Alone.{IsSameRun}
use Rattle.work_crew.specs.Together.{halted}
use Rattle.work_crew.proofs.Turns.{halt_made}
use Rattle.mkb_rounds.specs.Ends.{EndsByRounds}
use Rattle.mkb_rounds.specs.Rounds.{IsRounds}
use Rattle.mkb_rounds.specs.Playing.{HaveEnded, IsBetweenRounds, IsLeftWith}
use Rattle.mkb_rounds.proofs.Going.{legal_by}

-- between two rounds they have ended where a verdict stands
pub ended_between : (s : Seen) → IsBetweenRounds s → HaveEnded s
ended_between s h = record { legal = legal_by s h.so_far; decided = λ v. h.so_far; grounded = h.grounded }

-- and where no memory was found
pub ended_left : (s : Seen) → IsLeftWith s [] → HaveEnded s
ended_left s h = record { legal = h.legal; decided = λ v. absurd (v h.undecided); grounded = λ v. h.flight }

no_value : (o : Option Verdict) → is_some o ≡ false → o ≡ None
no_value None e = refl
no_value (Some v) e = absurd (cc)

-- where no verdict stands there was no memory
pub broken_off : (old mid end : Seen) (out : Bool) → IsSameRun old mid → HaveEnded mid → end.plain ≡ mid.plain → end.journal ≡ halted mid.journal → is_some (verdict mid.plain) ≡ false → out ≡ true
    → EndsByRounds old.plain.problem old.plain.settings (record { board = end; out_of_memory = out })
broken_off old mid end out same ended e made none true_out = (
  λ q. (let clash : true ≡ false = sym true_out ∙ q in absurd (cc)),
  λ q. record {
    problem = ap (λ (z : Plain). z.problem) e ∙ same.problem;
    settings = ap (λ (z : Plain). z.settings) e ∙ same.settings;
    at_rest = record {
      no_verdict = subst {A = Plain} (λ z. verdict z ≡ None) (sym e) (no_value (verdict mid.plain) none);
      grounded = ap (λ (z : Plain). z.flight) e ∙ ended.grounded (no_value (verdict mid.plain) none);
    };
    halted = halt_made mid.journal end.journal made;
  },
)

-- where one stands the journal is that of rounds
rounds_of : (P : Problem) (n : Settings) (s : Seen) → s.plain.problem ≡ P → s.plain.settings ≡ n → HaveEnded s → is_some (verdict s.plain) ≡ true → IsRounds P n s.journal s.plain
rounds_of P n s p q ended some =
    let r = ended.decided (λ none. (let clash : true ≡ false = sym some ∙ ap is_some none in absurd (cc))) in
    record {
      moments = r.moments;
      run = subst {A = Problem} (λ z. IsRun z n r.moments s.plain) p (subst {A = Settings} (λ z. IsRun s.plain.problem z r.moments s.plain) q r.run);
      journal = r.journal;
      by_rounds = r.by_rounds;
      ended = some;
    }

pub decided : (old mid end : Seen) (out : Bool) → IsSameRun old mid → HaveEnded mid → end ≡ mid → is_some (verdict mid.plain) ≡ true → out ≡ false
    → EndsByRounds old.plain.problem old.plain.settings (record { board = end; out_of_memory = out })
decided old mid end out same ended e some false_out = (
  λ q. subst {A = Seen} (λ z. IsRounds old.plain.problem old.plain.settings z.journal z.plain) (sym e) (rounds_of old.plain.problem old.plain.settings mid same.problem same.settings ended some),
  λ q. (let clash : true ≡ false = sym q ∙ false_out in absurd (cc)),
)
