use Rattle.kb_label.specs.Names.{IsInNameOrder}
use Rattle.mkb_model.specs.Limits.{AreLimited}
use Rattle.mkb_model.specs.Invariants.{IsLabel}
use Rattle.mkb_model.specs.Sleeping.{settle}
use Rattle.std.proofs.Common.{◌≡◌, ◌∙◌, ◌++◌, ◌∷◌, [], arith, subst, ap, refl, sym, vec_len, Contains, List, None}
use Rattle.std.specs.Prelude.{IsFalse}
use Rattle.mkb_model.specs.Plain.{Plain}
use Rattle.mkb_model.specs.Effects.{is_dropped, effect_entry, limit_of}
use Rattle.mkb_model.specs.Verdicts.{verdict}
use Rattle.mkb_model.specs.declared.entry.Effect.{Effect}
use Rattle.mkb_model.specs.declared.entry.Entry.TheVariants.{Commit}
use Rattle.mkb_rules.specs.Applying.{applied_as}
use Rattle.mkb_board.specs.Boards.{Seen, seen}
use Rattle.mkb_board.specs.Takes.{IsProposalOf, IsFinishedBy}
use Rattle.mkb_board.specs.declared.answers.Finished.TheVariants.{Committed}
use Rattle.mkb_board.proofs.Growing.{after_push, owed_less, owed_fewer}
use Rattle.mkb_board.proofs.Ends.{commit_board, entry_flying, limit_flying, lands}
use Rattle.mkb_board.specs.Choosing.{ClosedRest}
use Rattle.mkb_board.specs.Shelf.{HoldsRead}
use Rattle.mkb_board.proofs.Kept.{holds_after}
use Rattle.mkb_board.proofs.Listed.{followed, nodes_left, nothing_flies, target_there}
use Rattle.mkb_board.proofs.Ready.{state_applicable, state_budget, state_named, acted_labels, acted_limited, acted_rest, effect_rest}
use Rattle.mkb_board.specs.Working.{processes_in}
use Rattle.mkb_board.specs.declared.working.Placed.{Placed}
use Rattle.mkb_board.proofs.Following.{completes_on, short_fork, works_on}
use Rattle.mkb_board.proofs.Readable.{ordered_on}
use Rattle.mkb_board.proofs.Sleepers.{how_many, listed_ordered}
use Rattle.mkb_board.proofs.StillWorking.{few_work}
use Rattle.mkb_board.proofs.board.Board.commit.Goals as goal

pub apply-requires-clause-budget : goal.apply-requires-clause-budget
apply-requires-clause-budget c =
    state_budget c.self.inside.state c.self.inside.flight.items c.self.inside.journal.items c.args.ticket.now c.args.proposal c.self.invariant.0.legal
    (subst {A = Seen} (λ z. verdict z.plain ≡ None) (sym c.self.view_is) c.requires.no_verdict)
    (subst {A = Seen} (λ z. Contains z.plain.flight c.args.ticket.now) (sym c.self.view_is) c.requires.flying)
    (subst {A = Seen} (λ z. IsProposalOf z c.args.ticket.now c.args.proposal) (sym c.self.view_is) c.requires.proposed)

pub apply-requires-clause-applicable : goal.apply-requires-clause-applicable
apply-requires-clause-applicable c =
    state_applicable c.self.inside.state c.self.inside.flight.items c.self.inside.journal.items c.args.ticket.now c.args.proposal c.self.invariant.0.legal
    (subst {A = Seen} (λ z. verdict z.plain ≡ None) (sym c.self.view_is) c.requires.no_verdict)
    (subst {A = Seen} (λ z. Contains z.plain.flight c.args.ticket.now) (sym c.self.view_is) c.requires.flying)
    (subst {A = Seen} (λ z. IsProposalOf z c.args.ticket.now c.args.proposal) (sym c.self.view_is) c.requires.proposed)
    (subst {A = Seen} (λ z. IsFalse (is_dropped z.plain c.args.proposal)) (sym c.self.view_is) c.requires.acts)

pub settle-requires-clause-limited : goal.settle-requires-clause-limited
settle-requires-clause-limited c =
    subst {A = Plain} (λ z. AreLimited z.problem.signature z.nodes) (sym c.in-Ok-apply.ensures.ok.0)
    (acted_limited c.self.inside.state c.self.inside.flight.items c.self.inside.journal.items c.args.ticket.now c.args.proposal c.self.invariant.0.legal
    (subst {A = Seen} (λ z. verdict z.plain ≡ None) (sym c.self.view_is) c.requires.no_verdict)
    (subst {A = Seen} (λ z. Contains z.plain.flight c.args.ticket.now) (sym c.self.view_is) c.requires.flying)
    (subst {A = Seen} (λ z. IsProposalOf z c.args.ticket.now c.args.proposal) (sym c.self.view_is) c.requires.proposed)
    (subst {A = Seen} (λ z. IsFalse (is_dropped z.plain c.args.proposal)) (sym c.self.view_is) c.requires.acts))

pub settle-requires-clause-in_order : goal.settle-requires-clause-in_order
settle-requires-clause-in_order c =
    subst {A = Plain} (λ z. IsInNameOrder z.living) (sym c.in-Ok-apply.ensures.ok.0)
    (acted_labels c.self.inside.state c.self.inside.flight.items c.self.inside.journal.items c.args.ticket.now c.args.proposal c.self.invariant.0.legal
    (subst {A = Seen} (λ z. verdict z.plain ≡ None) (sym c.self.view_is) c.requires.no_verdict)
    (subst {A = Seen} (λ z. Contains z.plain.flight c.args.ticket.now) (sym c.self.view_is) c.requires.flying)
    (subst {A = Seen} (λ z. IsProposalOf z c.args.ticket.now c.args.proposal) (sym c.self.view_is) c.requires.proposed)
    (subst {A = Seen} (λ z. IsFalse (is_dropped z.plain c.args.proposal)) (sym c.self.view_is) c.requires.acts)).alive

pub settle-requires-clause-sleepers : goal.settle-requires-clause-sleepers
settle-requires-clause-sleepers c =
    let k =
    (acted_labels c.self.inside.state c.self.inside.flight.items c.self.inside.journal.items c.args.ticket.now c.args.proposal c.self.invariant.0.legal
    (subst {A = Seen} (λ z. verdict z.plain ≡ None) (sym c.self.view_is) c.requires.no_verdict)
    (subst {A = Seen} (λ z. Contains z.plain.flight c.args.ticket.now) (sym c.self.view_is) c.requires.flying)
    (subst {A = Seen} (λ z. IsProposalOf z c.args.ticket.now c.args.proposal) (sym c.self.view_is) c.requires.proposed)
    (subst {A = Seen} (λ z. IsFalse (is_dropped z.plain c.args.proposal)) (sym c.self.view_is) c.requires.acts)).asleep in
    subst {A = Plain} (λ z. IsLabel z z.asleep) (sym c.in-Ok-apply.ensures.ok.0) (record { ordered = k.ordered; living = k.lives })

pub settle-requires-clause-rest : goal.settle-requires-clause-rest
settle-requires-clause-rest c =
    subst {A = Plain} ClosedRest (sym c.in-Ok-apply.ensures.ok.0)
    (acted_rest c.self.inside.state c.self.inside.flight.items c.self.inside.journal.items c.args.ticket.now c.args.proposal c.self.invariant.0.legal
    (subst {A = Seen} (λ z. verdict z.plain ≡ None) (sym c.self.view_is) c.requires.no_verdict)
    (subst {A = Seen} (λ z. Contains z.plain.flight c.args.ticket.now) (sym c.self.view_is) c.requires.flying)
    (subst {A = Seen} (λ z. IsProposalOf z c.args.ticket.now c.args.proposal) (sym c.self.view_is) c.requires.proposed)
    (subst {A = Seen} (λ z. IsFalse (is_dropped z.plain c.args.proposal)) (sym c.self.view_is) c.requires.acts))

pub follow-requires-clause-in_order : goal.follow-requires-clause-in_order
follow-requires-clause-in_order c =
    listed_ordered c.self.inside.state (ordered_on c.self.inside.state c.self.inside.flight.items c.self.inside.journal.items c.self.invariant.0.legal) c.self.inside.working c.self.invariant.5

pub follow-requires-clause-few : goal.follow-requires-clause-few
follow-requires-clause-few c =
    let most = few_work c.self.inside.state c.self.inside.flight.items c.self.inside.journal.items c.self.invariant.0.legal in
    omega (arith, how_many c.self.inside.state c.self.inside.working c.self.invariant.5, most)

pub follow-requires-clause-room : goal.follow-requires-clause-room
follow-requires-clause-room c = c.self.invariant.5.room

pub follow-requires-clause-short : goal.follow-requires-clause-short
follow-requires-clause-short c =
    short_fork c.self.inside.state c.self.inside.flight.items c.self.inside.journal.items c.args.ticket.now c.args.proposal c.self.invariant.0.legal
    (subst {A = Seen} (λ z. verdict z.plain ≡ None) (sym c.self.view_is) c.requires.no_verdict)
    (subst {A = Seen} (λ z. Contains z.plain.flight c.args.ticket.now) (sym c.self.view_is) c.requires.flying)
    (subst {A = Seen} (λ z. IsProposalOf z c.args.ticket.now c.args.proposal) (sym c.self.view_is) c.requires.proposed)
    c.in-Ok-apply.made.applied c.in-Ok-apply.ensures.ok.1

pub settle-requires-clause-works : goal.settle-requires-clause-works
settle-requires-clause-works c =
    works_on c.self.inside.state c.self.inside.flight.items c.self.inside.journal.items c.args.ticket.now c.args.proposal c.self.invariant.0.legal
    (subst {A = Seen} (λ z. verdict z.plain ≡ None) (sym c.self.view_is) c.requires.no_verdict)
    (subst {A = Seen} (λ z. Contains z.plain.flight c.args.ticket.now) (sym c.self.view_is) c.requires.flying)
    (subst {A = Seen} (λ z. IsProposalOf z c.args.ticket.now c.args.proposal) (sym c.self.view_is) c.requires.proposed)
    (subst {A = Seen} (λ z. IsFalse (is_dropped z.plain c.args.proposal)) (sym c.self.view_is) c.requires.acts)
    c.apply.new.self c.self.inside.working c.follow.new.working c.in-Ok-apply.ensures.ok.0 c.self.invariant.5 (c.follow.ensures.items (limit_of c.self.inside.state c.args.proposal) c.in-Ok-apply.ensures.ok.1) c.follow.ensures.room

pub verdict-self-inside-requires-clause-rest : goal.verdict-self-inside-requires-clause-rest
verdict-self-inside-requires-clause-rest c =
    subst {A = Plain} ClosedRest (sym (c.settle.ensures.settled ∙ ap settle c.in-Ok-apply.ensures.ok.0))
    (effect_rest c.self.inside.state c.self.inside.flight.items c.self.inside.journal.items c.args.ticket.now c.args.proposal c.self.invariant.0.legal
    (subst {A = Seen} (λ z. verdict z.plain ≡ None) (sym c.self.view_is) c.requires.no_verdict)
    (subst {A = Seen} (λ z. Contains z.plain.flight c.args.ticket.now) (sym c.self.view_is) c.requires.flying)
    (subst {A = Seen} (λ z. IsProposalOf z c.args.ticket.now c.args.proposal) (sym c.self.view_is) c.requires.proposed)
    (subst {A = Seen} (λ z. IsFalse (is_dropped z.plain c.args.proposal)) (sym c.self.view_is) c.requires.acts))

pub verdict-self-inside-requires-clause-works : goal.verdict-self-inside-requires-clause-works
verdict-self-inside-requires-clause-works c = ap (λ (l : List Placed). processes_in l) c.as_slice-2.ensures.value ∙ c.settle.ensures.works.all

pub verdict-self-inside-requires-clause-completes : goal.verdict-self-inside-requires-clause-completes
verdict-self-inside-requires-clause-completes c =
    completes_on c.self.inside.state c.self.inside.flight.items c.self.inside.journal.items c.args.ticket.now c.args.proposal c.self.invariant.0.legal
    (subst {A = Seen} (λ z. verdict z.plain ≡ None) (sym c.self.view_is) c.requires.no_verdict)
    (subst {A = Seen} (λ z. Contains z.plain.flight c.args.ticket.now) (sym c.self.view_is) c.requires.flying)
    (subst {A = Seen} (λ z. IsProposalOf z c.args.ticket.now c.args.proposal) (sym c.self.view_is) c.requires.proposed)
    (subst {A = Seen} (λ z. IsFalse (is_dropped z.plain c.args.proposal)) (sym c.self.view_is) c.requires.acts)
    c.apply.new.self c.settle.new.state c.completed_by-completed.result c.in-Ok-apply.ensures.ok.0 c.settle.ensures.settled (c.completed_by-completed.ensures (limit_of c.self.inside.state c.args.proposal) c.in-Ok-apply.ensures.ok.1)

pub invariant_of-self-2 : goal.invariant_of-self-2
invariant_of-self-2 c =
    let flying : Contains c.self.inside.flight.items c.args.ticket.now = subst {A = Seen} (λ z. Contains z.plain.flight c.args.ticket.now) (sym c.self.view_is) c.requires.flying in
    let proposal = subst {A = Seen} (λ z. IsProposalOf z c.args.ticket.now c.args.proposal) (sym c.self.view_is) c.requires.proposed in
    let none = subst {A = Seen} (λ z. verdict z.plain ≡ None) (sym c.self.view_is) c.requires.no_verdict in
    let acts = subst {A = Seen} (λ z. IsFalse (is_dropped z.plain c.args.proposal)) (sym c.self.view_is) c.requires.acts in
    let fewer = c.land.ensures.fewer c.args.ticket.now flying refl in
    let ok = c.push.ensures.succeeds (omega (arith, c.self.invariant.1, fewer, owed_less (vec_len c.self.inside.flight) c.self.inside.halted)) in
    let items = after_push c.push.result _ _ _ ok c.push.ensures.items in
    let len = after_push c.push.result _ _ _ ok c.push.ensures.len in
    let effects : c.effect_of.result ≡ effect_entry (record c.self.inside.state { flight = c.self.inside.flight.items }) c.args.proposal = c.effect_of.ensures (limit_of c.self.inside.state c.args.proposal) c.in-Ok-apply.ensures.ok.1 ∙ sym (entry_flying c.self.inside.state c.self.inside.flight.items c.args.proposal) in
    let entry = items ∙ ap (λ (z : Effect). c.self.inside.journal.items ++ Commit c.args.ticket.now.worker c.args.ticket.now.number z ∷ []) effects in (
      commit_board c.self.inside.state c.settle.new.state c.self.inside.flight.items c.land.new.flight.items c.self.inside.journal.items c.push.new.self.items c.self.inside.taken c.self.inside.dropped c.self.inside.halted c.args.ticket.now c.args.proposal c.self.invariant.0 none flying proposal acts
          (lands c.self.inside.state c.settle.new.state c.self.inside.flight.items c.land.new.flight.items c.args.proposal c.args.ticket.now.number (c.settle.ensures.settled ∙ ap settle c.in-Ok-apply.ensures.ok.0) c.land.ensures.items) entry,
      omega (arith, c.push.ensures.capacity, len, c.self.invariant.1, owed_fewer (vec_len c.land.new.flight) (vec_len c.self.inside.flight) c.self.inside.halted fewer),
      c.verdict-self-inside.ensures,
      c.settle.ensures.agenda,
      subst {A = Plain} (λ z. HoldsRead z c.self.inside.shelf) (sym (c.settle.ensures.settled ∙ ap settle c.in-Ok-apply.ensures.ok.0)) (holds_after c.self.inside.state c.args.proposal c.self.inside.shelf c.self.invariant.4),
      c.settle.ensures.works,
      ap (λ (z : Plain). z.flight) (c.settle.ensures.settled ∙ ap settle c.in-Ok-apply.ensures.ok.0) ∙ nothing_flies c.self.inside.state c.args.proposal c.self.invariant.6,
    )

pub returns-clause-ok : goal.returns-clause-ok
returns-clause-ok c =
    let flying : Contains c.self.inside.flight.items c.args.ticket.now = subst {A = Seen} (λ z. Contains z.plain.flight c.args.ticket.now) (sym c.self.view_is) c.requires.flying in
    let fewer = c.land.ensures.fewer c.args.ticket.now flying refl in
    let ok = c.push.ensures.succeeds (omega (arith, c.self.invariant.1, fewer, owed_less (vec_len c.self.inside.flight) c.self.inside.halted)) in
    let items = after_push c.push.result _ _ _ ok c.push.ensures.items in
    let b : Plain = record c.self.inside.state { flight = c.self.inside.flight.items } in
    let effects : c.effect_of.result ≡ effect_entry b c.args.proposal = c.effect_of.ensures (limit_of c.self.inside.state c.args.proposal) c.in-Ok-apply.ensures.ok.1 ∙ sym (entry_flying c.self.inside.state c.self.inside.flight.items c.args.proposal) in
    subst {A = Seen} (λ z. IsFinishedBy z (seen c.settle.new.state c.land.new.flight.items c.push.new.self.items) c.args.ticket.now c.args.proposal (Committed c.in-Ok-apply.made.applied)) c.self.view_is (
      subst {A = Seen} (λ z. verdict z.plain ≡ None) (sym c.self.view_is) c.requires.no_verdict,
      subst {A = Seen} (λ z. IsFalse (is_dropped z.plain c.args.proposal)) (sym c.self.view_is) c.requires.acts,
      c.in-Ok-apply.ensures.ok.1 ∙ ap applied_as (sym (limit_flying c.self.inside.state c.self.inside.flight.items c.args.proposal)),
      lands c.self.inside.state c.settle.new.state c.self.inside.flight.items c.land.new.flight.items c.args.proposal c.args.ticket.now.number (c.settle.ensures.settled ∙ ap settle c.in-Ok-apply.ensures.ok.0) c.land.ensures.items,
      items ∙ ap (λ (z : Effect). c.self.inside.journal.items ++ Commit c.args.ticket.now.worker c.args.ticket.now.number z ∷ []) effects,
    )

pub effect_label-requires : goal.effect_label-requires
effect_label-requires c =
    state_named c.self.inside.state c.self.inside.flight.items c.self.inside.journal.items c.args.ticket.now c.args.proposal c.self.invariant.0.legal
    (subst {A = Seen} (λ z. verdict z.plain ≡ None) (sym c.self.view_is) c.requires.no_verdict)
    (subst {A = Seen} (λ z. Contains z.plain.flight c.args.ticket.now) (sym c.self.view_is) c.requires.flying)
    (subst {A = Seen} (λ z. IsProposalOf z c.args.ticket.now c.args.proposal) (sym c.self.view_is) c.requires.proposed)

pub keep_up-requires-clause-nodes : goal.keep_up-requires-clause-nodes
keep_up-requires-clause-nodes c =
    nodes_left c.self.inside.state c.self.inside.flight.items c.self.inside.journal.items c.args.ticket.now c.args.proposal c.self.invariant.0.legal
    (subst {A = Seen} (λ z. verdict z.plain ≡ None) (sym c.self.view_is) c.requires.no_verdict)
    (subst {A = Seen} (λ z. Contains z.plain.flight c.args.ticket.now) (sym c.self.view_is) c.requires.flying)
    (subst {A = Seen} (λ z. IsProposalOf z c.args.ticket.now c.args.proposal) (sym c.self.view_is) c.requires.proposed)
    (subst {A = Seen} (λ z. IsFalse (is_dropped z.plain c.args.proposal)) (sym c.self.view_is) c.requires.acts)
    c.in-Ok-apply.made.applied c.in-Ok-apply.ensures.ok.1 c.apply.new.self c.in-Ok-apply.ensures.ok.0 c.self.invariant.6

pub keep_up-requires-clause-target : goal.keep_up-requires-clause-target
keep_up-requires-clause-target c = λ done. target_there c.apply.new.self c.args.proposal c.in-Ok-apply.made.target (c.in-Ok-apply.ensures.target done)

pub settle-requires-clause-agenda : goal.settle-requires-clause-agenda
settle-requires-clause-agenda c =
    followed c.self.inside.state c.self.inside.flight.items c.self.inside.journal.items c.args.ticket.now c.args.proposal c.self.invariant.0.legal
    (subst {A = Seen} (λ z. verdict z.plain ≡ None) (sym c.self.view_is) c.requires.no_verdict)
    (subst {A = Seen} (λ z. Contains z.plain.flight c.args.ticket.now) (sym c.self.view_is) c.requires.flying)
    (subst {A = Seen} (λ z. IsProposalOf z c.args.ticket.now c.args.proposal) (sym c.self.view_is) c.requires.proposed)
    (subst {A = Seen} (λ z. IsFalse (is_dropped z.plain c.args.proposal)) (sym c.self.view_is) c.requires.acts)
    c.in-Ok-apply.made.applied c.in-Ok-apply.ensures.ok.1 c.apply.new.self c.in-Ok-apply.ensures.ok.0 c.self.invariant.6
    _ refl refl (c.as_slice.ensures.value ∙ c.in-Ok.ensures) c.in-Ok-apply.ensures.target c.self.inside.agenda c.keep_up.new.agenda c.self.invariant.3 c.keep_up.ensures
