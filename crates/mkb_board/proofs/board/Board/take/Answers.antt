use Rattle.std.proofs.Common.{ℕ, ◌<◌, ◌≡◌, ◌∙◌, ◌≢◌, List, [], ◌∷◌, length, arith, subst, refl, sym, Some, None}
use Rattle.std.specs.Prelude.{IsFalse, IsTrue, OnErr, Result, Ok, Err}
use Rattle.mkb_model.specs.DueJobs.{first_job}
use Rattle.mkb_model.specs.Verdicts.{verdict}
use Rattle.mkb_model.specs.declared.entry.Ticket.{Ticket}
use Rattle.mkb_model.proofs.runs.LawsStated.{none_first}
use Rattle.mkb_board.specs.Boards.{Seen, has_halt}
use Rattle.mkb_board.proofs.Readable.{waits_on}
use Rattle.mkb_board.proofs.board.Board.take.Goals as goal

pub returns-in-Some-clause-ok : goal.returns-in-Some-clause-ok
returns-in-Some-clause-ok c = (refl, subst {A = Seen} (λ z. verdict z.plain ≡ Some c.in-Some.verdict) c.self.view_is (sym c.self.invariant.2 ∙ c.in-Some.is))

pub returns-then-self-clause-ok : goal.returns-then-self-clause-ok
returns-then-self-clause-ok c = (refl, subst {A = Seen} (λ z. verdict z.plain ≡ None) c.self.view_is (sym c.self.invariant.2 ∙ c.in_default.is), subst {A = Seen} (λ z. IsTrue (has_halt z.journal)) c.self.view_is (sym c.self.invariant.0.halted_is ∙ c.if-self.true))

pub take_job-requires-clause-no_verdict : goal.take_job-requires-clause-no_verdict
take_job-requires-clause-no_verdict c = subst {A = Seen} (λ z. verdict z.plain ≡ None) (c.self.view_is ∙ sym c.first_job.ensures.same) (sym c.self.invariant.2 ∙ c.in_default.is)

-- what holds anyway holds where there is an error
on_err : {T E P : Type 0} (r : Result T E) → P → OnErr r P
on_err (Ok x) p = tt
on_err (Err e) p = p

pub returns-in_err-first_job-clause-undecided : goal.returns-in_err-first_job-clause-undecided
returns-in_err-first_job-clause-undecided c = on_err c.from_residual.result (subst {A = Seen} (λ z. verdict z.plain ≡ None) c.self.view_is (sym c.self.invariant.2 ∙ c.in_default.is))

pub returns-in_err-first_job-clause-unhalted : goal.returns-in_err-first_job-clause-unhalted
returns-in_err-first_job-clause-unhalted c = on_err c.from_residual.result (subst {A = Seen} (λ z. IsFalse (has_halt z.journal)) c.self.view_is (sym c.self.invariant.0.halted_is ∙ c.if-self.false))

pub returns-in_err-first_job-clause-takable : goal.returns-in_err-first_job-clause-takable
returns-in_err-first_job-clause-takable c = on_err c.from_residual.result c.in_err-first_job.ensures.takable

pub returns-in-None-clause-ok : goal.returns-in-None-clause-ok
returns-in-None-clause-ok c =
    let b = c.self.inside.state in
    let flight = c.self.inside.flight.items in
    let undecided = sym c.self.invariant.2 ∙ c.in_default.is in
    let first = sym c.in_ok-first_job.ensures.first ∙ c.in-None.is in
    let count = subst {A = Seen} (λ z. c.len.result ≡ length z.plain.flight) (c.self-in-None.view_is ∙ c.first_job.ensures.same) (c.len.ensures ∙ c.self-in-None.inside.flight.ok.0) in (
      c.first_job.ensures.same,
      subst {A = Seen} (λ z. verdict z.plain ≡ None) c.self.view_is undecided,
      subst {A = Seen} (λ z. IsFalse (has_halt z.journal)) c.self.view_is (sym c.self.invariant.0.halted_is ∙ c.if-self.false),
      first,
      count,
      some_left flight c.len.result (subst {A = Seen} (λ z. c.len.result ≡ length z.plain.flight) (sym c.self.view_is) count)
          (none_first (record b { flight = flight }) (waits_on b flight c.self.inside.journal.items c.self.invariant.0.legal) undecided (subst {A = Seen} (λ z. first_job z.plain ≡ None) (sym c.self.view_is) first)),
    )
  where
    some_left : (ts : List Ticket) (n : ℕ) → n ≡ length ts → ts ≢ [] → 0 < n
    some_left [] n e h = absurd (h refl)
    some_left (t ∷ ts) n e h = omega (arith, e)
