-- Journals of rounds that go on.
use Rattle.std.proofs.Common.{ℕ, ◌+◌, ◌≡◌, refl, sym, ap, ap₂, ◌∙◌, subst, List, [], ◌∷◌, ◌++◌, Bool, true, false, ◌||◌, Option, Some, None}
use Rattle.std.specs.Prelude.{IsFalse, if◌then◌else◌}
use Rattle.std.specs.Option.{option_map_or}
use Rattle.kb_term.specs.Signature.{Problem, IsWithinLimits}
use Rattle.kb_node.specs.declared.job.Job.{Job}
use Rattle.mkb_model.specs.Plain.{Plain}
use Rattle.mkb_model.specs.Journals.{Moment, Move, takes, ends, halts, move_of, tickets, is_halt, Follows, IsRun, IsFirstJob, journal_of}
use Rattle.mkb_model.specs.declared.entry.Entry.{Entry}
use Rattle.mkb_model.specs.declared.entry.Entry.TheVariants.{Take, Commit, Drop, Abandon, Halt}
use Rattle.mkb_model.specs.declared.settings.Settings.{Settings}
use Rattle.mkb_board.specs.Boards.{Seen, IsLegalBoard, has_halt}
use Rattle.mkb_board.proofs.Ends.{not_nil}
use Rattle.mkb_board.proofs.Growing.{grown, halts_more, halts_of}
use Rattle.work_crew.specs.Alone.{IsSameRun}
use Rattle.work_crew.specs.Together.{halted}
use Rattle.mkb_rounds.specs.Rounds.{GoByRounds, first_number, next_job, round_move}
use Rattle.mkb_rounds.specs.Playing.{IsBetweenRounds, IsByRounds}

-- ---- legal boards

-- a journal of rounds is legal
pub legal_by : (s : Seen) → IsByRounds s → IsLegalBoard s
legal_by s h = record { within = h.within; after = (h.moments, h.journal, h.run) }

-- the same board is as legal
legal_same : (s new : Seen) → IsLegalBoard s → new.plain ≡ s.plain → new.journal ≡ s.journal → IsLegalBoard new
legal_same s new legal e k = subst {A = Seen} IsLegalBoard (sym (ap₂ {C = Seen} (λ (p : Plain) (J : List Entry). record { plain = p; journal = J }) e k)) legal

-- so is the board after one entry more that may follow
pub legal_grown : (s new : Seen) (e : Entry) → IsLegalBoard s → ((ms : List Moment) → journal_of ms ≡ s.journal → IsRun s.plain.problem s.plain.settings ms s.plain → Follows IsFirstJob ms s.plain e new.plain) → new.journal ≡ s.journal ++ e ∷ [] → IsLegalBoard new
legal_grown s new e legal follows entered = legal_same (record { plain = new.plain; journal = s.journal ++ e ∷ [] }) new (grown s e new.plain legal follows) refl entered

-- and after a halt
pub legal_halted : (s new : Seen) → IsLegalBoard s → new.plain ≡ s.plain → new.journal ≡ halted s.journal → IsLegalBoard new
legal_halted s new legal e k = go (has_halt s.journal) refl k
  where
    go : (b : Bool) → has_halt s.journal ≡ b → new.journal ≡ (if b then s.journal else s.journal ++ Halt ∷ []) → IsLegalBoard new
    go true h j = legal_same s new legal e j
    go false h j = legal_grown s new Halt legal (λ ms q run. (halts_of ms ∙ ap has_halt q ∙ h, e)) j

-- ---- rounds

-- before any entry
pub opened : (s : Seen) → IsLegalBoard s → s.journal ≡ [] → IsBetweenRounds s
opened s legal e = go legal.after.0 (legal.after.1 ∙ e) legal.after.2
  where
    go : (ms : List Moment) → journal_of ms ≡ [] → IsRun s.plain.problem s.plain.settings ms s.plain → IsBetweenRounds s
    go [] q run = record { so_far = record { within = legal.within; moments = []; run = run; journal = sym e; by_rounds = tt }; grounded = λ v. ap (λ (z : Plain). z.flight) run }
    go (m ∷ ms) q run = not_nil (journal_of ms) m.entry [] (sym q)

-- one entry more, which is what the round does next
abbrev pub one_more : (old new : Seen) (e : Entry) (h : IsByRounds old) → Follows IsFirstJob h.moments old.plain e new.plain → IsSameRun old new → new.journal ≡ old.journal ++ e ∷ [] → move_of e ≡ round_move h.moments old.plain → IsByRounds new
one_more old new e h follows same entered move =
    let run : IsRun new.plain.problem new.plain.settings h.moments old.plain = subst {A = Problem} (λ z. IsRun z new.plain.settings h.moments old.plain) (sym same.problem) (subst {A = Settings} (λ z. IsRun old.plain.problem z h.moments old.plain) (sym same.settings) h.run) in
    record {
      within = subst {A = Problem} IsWithinLimits (sym same.problem) h.within;
      moments = record { board = old.plain; entry = e } ∷ h.moments;
      run = (run, follows);
      journal = ap (λ (z : List Entry). z ++ e ∷ []) h.journal ∙ sym entered;
      by_rounds = (h.by_rounds, move);
    }

-- rounds make no halt
no_halt_next : (past : List Moment) (b : Plain) (e : Entry) → move_of e ≡ round_move past b → is_halt e ≡ false
no_halt_next past b (Take w t j) h = refl
no_halt_next past b (Commit w t x) h = refl
no_halt_next past b (Drop w t p) h = refl
no_halt_next past b (Abandon w t) h = refl
no_halt_next past b Halt h = go (next_job past b) h
  where
    go : (o : Option Job) → halts ≡ option_map_or (takes 1 (tickets past + 1)) o (ends (first_number b.flight)) → true ≡ false
    go None e = absurd (cc)
    go (Some j) e = absurd (cc)

no_halts : (ms : List Moment) → GoByRounds ms → has_halt (journal_of ms) ≡ false
no_halts [] g = refl
no_halts (m ∷ ms) (g, x) =
    let r = no_halts ms g in
    let s = no_halt_next ms m.board m.entry x in
    halts_more (journal_of ms) m.entry ∙ ap₂ (λ (p q : Bool). p || q) r s

pub not_halted : (s : Seen) → IsByRounds s → IsFalse (has_halt s.journal)
not_halted s h = ap has_halt (sym h.journal) ∙ no_halts h.moments h.by_rounds
