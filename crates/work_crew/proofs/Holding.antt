-- Tickets in the hands of workers, from turn to turn.
use Rattle.std.proofs.Common.{ℕ, ◌≡◌, ◌∙◌, sym, ap, subst, List, ◌++◌, true}
use Rattle.std.specs.Prelude.{Result, Ok, Err, IfOk}
use Rattle.kb_term.specs.Signature.{Problem}
use Rattle.kb_jobs.specs.Working.{ProposesBy}
use Rattle.mkb_model.specs.Journals.{own, worker_of}
use Rattle.mkb_model.specs.declared.entry.Entry.{Entry}
use Rattle.mkb_model.specs.declared.settings.Settings.{Settings}
use Rattle.mkb_model.specs.declared.proposed.Proposed.{Proposed}
use Rattle.mkb_board.specs.Boards.{Seen, IsLegalBoard}
use Rattle.mkb_board.specs.Held.{IsHeld}
use Rattle.mkb_board.specs.Takes.{IsProposalOf}
use Rattle.mkb_board.specs.Takes.{IsTakenBy}
use Rattle.mkb_board.specs.declared.answers.Taken.{Taken}
use Rattle.mkb_board.specs.declared.answers.Taken.TheVariants.{Job as TakenJob, Idle, Over, Halted}
use Rattle.mkb_board.proofs.Held.{held_taken, held_proposes}
use Rattle.mkb_board.proofs.Others.{held_of_others}
use Rattle.turn_lock.specs.Places.{Locked, Sitting, IsLater, GoesOn, sees}
use Rattle.work_crew.specs.Together.{purpose, Grows, Holds, HoldsNext, HoldsOn, HoldsTaken, IsHeldSince}
use Rattle.work_crew.specs.declared.shared.Assignment.{Assignment}
use Rattle.work_crew.specs.declared.shared.Next.{Next}
use Rattle.work_crew.specs.declared.shared.Next.TheVariants.{Work, Wait, Rest, End}

-- what was taken is held
pub holds_taken : (old new : Seen) (w : ℕ) (a : Taken) → IsLegalBoard old → IsTakenBy old new w a → HoldsTaken new w a
holds_taken old new w (TakenJob t s) legal h = (held_taken old new w t s legal h, h.worker_is)
holds_taken old new w (Idle n) legal h = tt
holds_taken old new w (Over v) legal h = tt
holds_taken old new w Halted legal h = tt

pub holds_where_taken : {X : Type 0} (old new : Seen) (w : ℕ) (r : Result Taken X) → IsLegalBoard old → IfOk r (IsTakenBy old new w) → IfOk r (HoldsTaken new w)
holds_where_taken old new w (Ok a) legal h = holds_taken old new w a legal h
holds_where_taken old new w (Err e) legal h = tt

-- what was held is held still
pub held_now : (s : Seen) (a : Assignment) → IsLegalBoard s → IsHeldSince s a → IsHeld s a.ticket a.snapshot
held_now s a legal h = held_of_others h.before s h.later a.ticket a.snapshot h.legal legal h.held h.entered h.same.problem h.same.settings h.of_others

-- what its job proposes may end it
pub proposed_now : (s : Seen) (a : Assignment) (x : Proposed) → IsLegalBoard s → IsHeldSince s a → ProposesBy a.snapshot x → IsProposalOf s a.ticket x
proposed_now s a x legal h p = held_proposes s a.ticket a.snapshot x (held_now s a legal h) p

module _ (turns : Locked (Problem × Settings)) (seat : Sitting (Problem × Settings) Entry) where
  -- what a seat holds was held, when it has the turn again
  pub held_since : (a : Assignment) (s : Seen) → Holds turns seat a → IsLater worker_of seat s.journal → purpose s.plain ≡ turns.problem → IsHeldSince s a
  held_since a s h later p = record {
    before = h.board;
    legal = h.legal;
    held = h.held;
    later = later.0.0;
    entered = later.0.1 ∙ ap (λ (z : List Entry). z ++ later.0.0) (sym h.history);
    same = record { problem = ap (λ (z : Problem × Settings). z.0) (p ∙ sym h.purpose); settings = ap (λ (z : Problem × Settings). z.1) (p ∙ sym h.purpose) };
    of_others = subst {A = ℕ} (λ w. own s.journal w ≡ own h.board.journal w) (sym h.worker) (later.1 ∙ ap (λ (z : List Entry). own z seat.view.worker) (sym h.history));
  }

  -- the seat's entries go on
  pub goes_on : (old new : Seen) → Grows seat.view.worker old new → GoesOn worker_of (sees seat old.journal true) new.journal
  goes_on old new h = h

  -- what was taken is held, once the turn is left
  pub holds_next : (s : Seen) (next : Next) → IsLegalBoard s → HoldsOn s seat.view.worker next → purpose s.plain ≡ turns.problem → (after : Sitting (Problem × Settings) Entry) → after.view.seen ≡ s.journal → after.view.worker ≡ seat.view.worker → HoldsNext turns after next
  holds_next s (Work a) legal h p after seen worker = record { board = s; legal = legal; held = h.0; history = sym seen; purpose = p; worker = h.1 ∙ sym worker }
  holds_next s (Wait n) legal h p after seen worker = tt
  holds_next s Rest legal h p after seen worker = tt
  holds_next s End legal h p after seen worker = tt
