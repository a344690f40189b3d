use Rattle.std.proofs.Common.{◌≡◌, ◌∙◌, ◌++◌, ◌∷◌, [], arith, subst, ap, refl, sym, vec_len, Contains, None}
use Rattle.std.specs.Prelude.{IsTrue}
use Rattle.kb_lemmas.proofs.Lists.{filter_less}
use Rattle.kb_label.specs.Names.{Name}
use Rattle.mkb_model.specs.Effects.{is_dropped}
use Rattle.mkb_model.specs.Verdicts.{verdict}
use Rattle.mkb_model.specs.declared.entry.Entry.TheVariants.{Drop}
use Rattle.mkb_board.specs.Boards.{Seen, is_drop}
use Rattle.mkb_board.specs.Takes.{IsProposalOf}
use Rattle.mkb_board.proofs.Growing.{after_push, owed_less, owed_fewer}
use Rattle.mkb_board.proofs.Ends.{drop_board}
use Rattle.mkb_board.proofs.board.Board.drop_ticket.Goals as goal

pub overflow_add-self : goal.overflow_add-self
overflow_add-self c = omega (arith, c.self.invariant.0.dropped_is, filter_less is_drop c.self.inside.journal.items, c.self.inside.journal.ok.0, c.self.inside.journal.small)

pub invariant_of-self : goal.invariant_of-self
invariant_of-self c =
    let flying : Contains c.self.inside.flight.items c.args.ticket.now = subst {A = Seen} (λ z. Contains z.plain.flight c.args.ticket.now) (sym c.self.view_is) c.requires.flying in
    let proposal = subst {A = Seen} (λ z. IsProposalOf z c.args.ticket.now c.args.proposal.now) (sym c.self.view_is) c.requires.proposed in
    let none = subst {A = Seen} (λ z. verdict z.plain ≡ None) (sym c.self.view_is) c.requires.no_verdict in
    let idle = subst {A = Seen} (λ z. IsTrue (is_dropped z.plain c.args.proposal.now)) (sym c.self.view_is) c.requires.idle in
    let fewer = c.land.ensures.fewer c.args.ticket.now flying refl in
    let ok = c.push.ensures.succeeds (omega (arith, c.self.invariant.1, fewer, owed_less (vec_len c.self.inside.flight) c.self.inside.halted)) in
    let items = after_push c.push.result _ _ _ ok c.push.ensures.items in
    let len = after_push c.push.result _ _ _ ok c.push.ensures.len in
    let entry = items ∙ ap (λ (z : Name). c.self.inside.journal.items ++ Drop c.args.ticket.now.worker c.args.ticket.now.number z ∷ []) c.process_of-process.ensures in (
      drop_board c.self.inside.state c.self.inside.flight.items c.land.new.flight.items c.self.inside.journal.items c.push.new.self.items c.self.inside.taken c.self.inside.dropped c.self.inside.halted c.args.ticket.now c.args.proposal.now c.self.invariant.0 none flying proposal idle (rw (c.land.ensures.items) refl) entry,
      omega (arith, c.push.ensures.capacity, len, c.self.invariant.1, owed_fewer (vec_len c.land.new.flight) (vec_len c.self.inside.flight) c.self.inside.halted fewer),
      c.self.invariant.2,
      c.self.invariant.3,
      c.self.invariant.4,
      c.self.invariant.5,
      c.self.invariant.6,
    )
