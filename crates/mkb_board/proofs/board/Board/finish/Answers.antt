use Rattle.std.proofs.Common.{◌≡◌, ◌∙◌, refl, sym, subst, Contains, Some, None}
use Rattle.mkb_model.specs.Verdicts.{verdict}
use Rattle.std.specs.Prelude.{IsFalse, IsTrue}
use Rattle.mkb_model.specs.Effects.{is_dropped}
use Rattle.mkb_board.specs.Boards.{Seen}
use Rattle.mkb_board.specs.Takes.{IsProposalOf}
use Rattle.mkb_board.proofs.Ends.{dropped_flying}
use Rattle.mkb_board.proofs.Ready.{state_named}
use Rattle.mkb_board.proofs.board.Board.finish.Goals as goal

pub returns-in-Some-clause-ok : goal.returns-in-Some-clause-ok
returns-in-Some-clause-ok c = (refl, subst {A = Seen} (λ z. verdict z.plain ≡ Some c.in-Some.verdict) c.self.view_is (sym c.self.invariant.2 ∙ c.in-Some.is))

pub is_dropped-requires : goal.is_dropped-requires
is_dropped-requires c = state_named c.self.inside.state c.self.inside.flight.items c.self.inside.journal.items c.args.ticket c.args.proposal c.self.invariant.0.legal (sym c.self.invariant.2 ∙ c.in_default.is)
    (subst {A = Seen} (λ z. Contains z.plain.flight c.args.ticket) (sym c.self.view_is) c.requires.flying) (subst {A = Seen} (λ z. IsProposalOf z c.args.ticket c.args.proposal) (sym c.self.view_is) c.requires.proposed)

pub drop_ticket-finished-requires-clause-no_verdict : goal.drop_ticket-finished-requires-clause-no_verdict
drop_ticket-finished-requires-clause-no_verdict c = subst {A = Seen} (λ z. verdict z.plain ≡ None) c.self.view_is (sym c.self.invariant.2 ∙ c.in_default.is)

pub commit-requires-clause-no_verdict : goal.commit-requires-clause-no_verdict
commit-requires-clause-no_verdict c = subst {A = Seen} (λ z. verdict z.plain ≡ None) c.self.view_is (sym c.self.invariant.2 ∙ c.in_default.is)

pub returns-in-Err-clause-undecided : goal.returns-in-Err-clause-undecided
returns-in-Err-clause-undecided c = subst {A = Seen} (λ z. verdict z.plain ≡ None) c.self.view_is (sym c.self.invariant.2 ∙ c.in_default.is)

pub returns-in-Err-commit-clause-undecided : goal.returns-in-Err-commit-clause-undecided
returns-in-Err-commit-clause-undecided c = subst {A = Seen} (λ z. verdict z.plain ≡ None) c.self.view_is (sym c.self.invariant.2 ∙ c.in_default.is)

pub drop_ticket-finished-requires-clause-idle : goal.drop_ticket-finished-requires-clause-idle
drop_ticket-finished-requires-clause-idle c =
    subst {A = Seen} (λ z. IsTrue (is_dropped z.plain c.args.proposal)) c.self.view_is
    (dropped_flying c.self.inside.state c.self.inside.flight.items c.args.proposal ∙ sym c.in-Ok-true.ensures ∙ c.in-Ok-true.field-0-test)

pub commit-requires-clause-acts : goal.commit-requires-clause-acts
commit-requires-clause-acts c =
    subst {A = Seen} (λ z. IsFalse (is_dropped z.plain c.args.proposal)) c.self.view_is
    (dropped_flying c.self.inside.state c.self.inside.flight.items c.args.proposal ∙ sym c.in-Ok-false.ensures ∙ c.in-Ok-false.field-0-test)
