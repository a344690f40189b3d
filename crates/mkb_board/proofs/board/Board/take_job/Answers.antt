use Rattle.std.proofs.Common.{◌+◌, ◌≤◌, ◌≡◌, ◌∙◌, ◌++◌, ◌∷◌, [], List, arith, subst, ap, refl, sym, vec_len, vec_capacity, Bool, false, Some, None}
use Rattle.std.specs.Prelude.{IsFalse}
use Rattle.kb_lemmas.proofs.Lists.{filter_less}
use Rattle.mkb_model.specs.DueJobs.{first_job}
use Rattle.mkb_model.specs.Verdicts.{verdict}
use Rattle.mkb_model.specs.Journals.{is_take}
use Rattle.mkb_model.specs.declared.entry.Ticket.{Ticket}
use Rattle.mkb_model.specs.declared.entry.Entry.{Entry}
use Rattle.mkb_board.specs.Boards.{Seen, seen, IsBoard, owed, has_halt}
use Rattle.mkb_board.specs.Takes.{TakesJob}
use Rattle.mkb_board.proofs.Growing.{take_board, after_push}
use Rattle.mkb_board.proofs.Flying.{taken_flying}
use Rattle.mkb_board.proofs.Readable.{facts_on, readable_on, first_there, first_ordered}
use Rattle.mkb_board.proofs.board.Board.take_job.Goals as goal

pub snapshot-requires-clause-there : goal.snapshot-requires-clause-there
snapshot-requires-clause-there c =
    first_there c.self.inside.state c.self.inside.flight.items c.args.job.now (subst {A = Seen} (λ z. first_job z.plain ≡ Some c.args.job.now) (sym c.self.view_is) c.requires.first)

pub snapshot-requires-clause-ordered : goal.snapshot-requires-clause-ordered
snapshot-requires-clause-ordered c =
    first_ordered c.self.inside.state c.self.inside.flight.items c.self.inside.journal.items c.self.invariant.0.legal c.args.job.now (subst {A = Seen} (λ z. first_job z.plain ≡ Some c.args.job.now) (sym c.self.view_is) c.requires.first)

pub snapshot-requires-clause-facts : goal.snapshot-requires-clause-facts
snapshot-requires-clause-facts c = facts_on c.self.inside.state c.self.inside.flight.items c.self.inside.journal.items c.self.invariant.0.legal

pub overflow_add-ticket : goal.overflow_add-ticket
overflow_add-ticket c = omega (arith, c.self.invariant.0.taken_is, filter_less is_take c.self.inside.journal.items, c.self.inside.journal.ok.0, c.self.inside.journal.small)

pub invariant_of-self-in_err-reserve : goal.invariant_of-self-in_err-reserve
invariant_of-self-in_err-reserve c =
    let F = c.reserve.ensures.flight in
    let J = c.reserve.ensures.journal in
    let owes = ap (λ n. owed n c.self.inside.halted) c.reserve.ensures.flight_len in (
      subst {A = List Entry} (λ j. IsBoard (seen c.self.inside.state c.reserve.new.flight.items j) c.self.inside.taken c.self.inside.dropped c.self.inside.halted) (sym J)
          (subst {A = List Ticket} (λ f. IsBoard (seen c.self.inside.state f c.self.inside.journal.items) c.self.inside.taken c.self.inside.dropped c.self.inside.halted) (sym F) c.self.invariant.0),
      omega (arith, owes, c.reserve.ensures.journal_len, c.reserve.ensures.kept, c.self.invariant.1),
      c.self.invariant.2,
      c.self.invariant.3,
      c.snapshot.ensures.shelf,
      c.self.invariant.5,
      c.self.invariant.6,
    )

pub invariant_of-self-2 : goal.invariant_of-self-2
invariant_of-self-2 c =
    let no = c.self.invariant.0.halted_is ∙ subst {A = Seen} (λ z. IsFalse (has_halt z.journal)) (sym c.self.view_is) c.requires.no_halt in
    let h = subst {A = Bool} (λ z. IsBoard (seen c.self.inside.state c.self.inside.flight.items c.self.inside.journal.items) c.self.inside.taken c.self.inside.dropped z) no c.self.invariant.0 in
    let none = subst {A = Seen} (λ z. verdict z.plain ≡ None) (sym c.self.view_is) c.requires.no_verdict in
    let first = subst {A = Seen} (λ z. first_job z.plain ≡ Some c.args.job.now) (sym c.self.view_is) c.requires.first in
    let ok = c.push.ensures.succeeds (omega (arith, c.in_ok-reserve.ensures.journal_room, c.in_ok-reserve.ensures.journal_len)) in
    let ok2 = c.push-2.ensures.succeeds (omega (arith, c.in_ok-reserve.ensures.flight_room, c.in_ok-reserve.ensures.flight_len)) in
    let items = after_push c.push.result _ _ _ ok c.push.ensures.items in
    let len = after_push c.push.result _ _ _ ok c.push.ensures.len in
    let items2 = after_push c.push-2.result _ _ _ ok2 c.push-2.ensures.items in
    let len2 = after_push c.push-2.result _ _ _ ok2 c.push-2.ensures.len in
    let J = c.in_ok-reserve.ensures.journal in
    let F = c.in_ok-reserve.ensures.flight in
    let room : vec_len c.push.new.self + owed (vec_len c.push-2.new.self) false ≤ vec_capacity c.push.new.self = omega (arith, c.in_ok-reserve.ensures.journal_room, c.in_ok-reserve.ensures.journal_len, c.in_ok-reserve.ensures.flight_len, len, len2, c.push.ensures.capacity) in
    let whole = subst {A = Bool} (λ z. IsBoard (seen c.self.inside.state c.push-2.new.self.items c.push.new.self.items) (c.self.inside.taken + 1) c.self.inside.dropped z × (vec_len c.push.new.self + owed (vec_len c.push-2.new.self) z ≤ vec_capacity c.push.new.self)) (sym no) (
      take_board c.self.inside.state c.self.inside.flight.items c.push-2.new.self.items c.self.inside.journal.items c.push.new.self.items c.self.inside.taken c.self.inside.dropped c.args.worker c.args.job.now h c.requires.least c.requires.most none first
          (items2 ∙ ap (λ (z : List Ticket). z ++ record { number = c.self.inside.taken + 1; worker = c.args.worker; job = c.args.job.now } ∷ []) F) (items ∙ ap (λ (z : List Entry). z ++ c.entry_of.result ∷ []) J ∙ ap (λ (e : Entry). c.self.inside.journal.items ++ e ∷ []) c.entry_of.ensures),
      room,
    ) in
    (whole.0, whole.1, c.self.invariant.2, c.self.invariant.3, c.snapshot.ensures.shelf, c.self.invariant.5, c.self.invariant.6)

pub returns-clause-ok : goal.returns-clause-ok
returns-clause-ok c =
    let ok = c.push.ensures.succeeds (omega (arith, c.in_ok-reserve.ensures.journal_room, c.in_ok-reserve.ensures.journal_len)) in
    let ok2 = c.push-2.ensures.succeeds (omega (arith, c.in_ok-reserve.ensures.flight_room, c.in_ok-reserve.ensures.flight_len)) in
    let items = after_push c.push.result _ _ _ ok c.push.ensures.items in
    let items2 = after_push c.push-2.result _ _ _ ok2 c.push-2.ensures.items in
    let t : Ticket = record { number = c.self.inside.taken + 1; worker = c.args.worker; job = c.args.job.now } in
    let F = items2 ∙ ap (λ (z : List Ticket). z ++ t ∷ []) c.in_ok-reserve.ensures.flight in
    let J = items ∙ ap (λ (z : List Entry). z ++ c.entry_of.result ∷ []) c.in_ok-reserve.ensures.journal ∙ ap (λ (e : Entry). c.self.inside.journal.items ++ e ∷ []) c.entry_of.ensures in
    let s = c.in_ok-snapshot.snapshot in
    subst {A = Seen} (λ z. TakesJob z (seen c.self.inside.state c.push-2.new.self.items c.push.new.self.items) c.args.worker t s) c.self.view_is record {
      no_verdict = subst {A = Seen} (λ z. verdict z.plain ≡ None) (sym c.self.view_is) c.requires.no_verdict;
      no_halt = subst {A = Seen} (λ z. IsFalse (has_halt z.journal)) (sym c.self.view_is) c.requires.no_halt;
      first = subst {A = Seen} (λ z. first_job z.plain ≡ Some c.args.job.now) (sym c.self.view_is) c.requires.first;
      worker_is = refl;
      number_is = ap (λ z. z + 1) c.self.invariant.0.taken_is;
      flies = ap (λ (ts : List Ticket). record c.self.inside.state { flight = ts }) F;
      entered = J;
      job_is = c.in_ok-snapshot.ensures.job;
      reads = taken_flying c.self.inside.state c.self.inside.flight.items s c.in_ok-snapshot.ensures.taken;
      readable = readable_on c.self.inside.state c.self.inside.flight.items c.self.inside.journal.items c.self.invariant.0.legal c.args.job.now (subst {A = Seen} (λ z. first_job z.plain ≡ Some c.args.job.now) (sym c.self.view_is) c.requires.first) s c.in_ok-snapshot.ensures.job c.in_ok-snapshot.ensures.taken c.in_ok-snapshot.ensures.whole;
    }
