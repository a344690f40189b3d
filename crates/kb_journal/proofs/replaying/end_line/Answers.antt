use Rattle.std.proofs.Common.{◌≡◌, List, subst, Contains, ⊎_elim}
use Rattle.mkb_model.specs.declared.entry.Ticket.{Ticket}
use Rattle.mkb_board.proofs.Held.{held_after_finish}
use Rattle.kb_journal.specs.declared.replaying.Hand.{Hand}
use Rattle.kb_journal.specs.Replays.{tickets_of}
use Rattle.kb_journal.proofs.Making.{no_ticket, no_end_by, end_made, end_told}
use Rattle.kb_journal.proofs.replaying.end_line.Goals as goal

pub returns-in_default : goal.returns-in_default
returns-in_default c =
    no_ticket c.args.board.now c.args.line.now c.requires.held.legal c.args.number c.args.hands.now.items c.requires.end c.requires.held (subst {A = List Hand} (λ hs. (t : Ticket) → Contains (tickets_of hs) t → ¬ (t.number ≡ c.args.number)) c.deref.ensures.value c.in_default.ensures)

pub returns-in-Ended : goal.returns-in-Ended
returns-in-Ended c =
    let f = rw c.in-Ended.is at c.in_ok-finish.ensures in
    no_end_by c.args.board.now c.args.line.now c.requires.held.legal c.args.number c.in-Ended.field-0 c.requires.end f.1.1

pub returns-in-Dropped : goal.returns-in-Dropped
returns-in-Dropped c =
    let old = c.args.board.now in
    let new = c.finish.new.board in
    let t = c.in-Some.hand.now.ticket in
    let f = c.in_ok-finish.ensures in
    end_told old new c.args.hands.now.items c.let_go.new.hands.items c.args.line.now t c.args.number c.is_last.result c.requires.held c.is_last.ensures.legal c.requires.end c.in-Some.ensures.1
    (end_made old new t f.0 c.in_ok-finish.field-0 f.1 (λ v e. ⊎_elim (λ p. absurd (let q = p.1 in cc)) (λ p. absurd (let q = p.1 in cc)) c.in-Dropped.is))
    (λ u s d k. held_after_finish old new t f.0 c.in_ok-finish.field-0 u s f.1 d k)
    c.let_go.ensures c.is_last.ensures.same
