use Rattle.std.proofs.Common.{◌≡◌, List, subst, Contains}
use Rattle.mkb_model.specs.declared.entry.Ticket.{Ticket}
use Rattle.kb_journal.specs.declared.replaying.Hand.{Hand}
use Rattle.kb_journal.specs.Replays.{tickets_of}
use Rattle.kb_journal.proofs.Making.{no_abandon, abandon_made}
use Rattle.kb_journal.proofs.replaying.abandon_line.Goals as goal

pub returns-in_default : goal.returns-in_default
returns-in_default c =
    no_abandon c.args.board.now c.args.line.now c.requires.held.legal c.args.number c.args.hands.now.items c.requires.abandon c.requires.held (subst {A = List Hand} (λ hs. (t : Ticket) → Contains (tickets_of hs) t → ¬ (t.number ≡ c.args.number)) c.deref.ensures.value c.in_default.ensures)

pub returns : goal.returns
returns c =
    abandon_made c.args.board.now c.abandon.new.self c.args.hands.now.items c.let_go.new.hands.items c.args.line.now c.in-Some.hand.now c.args.number c.requires.held c.requires.abandon (subst {A = List Hand} (λ hs. Contains hs c.in-Some.hand.now) c.deref.ensures.value c.in-Some.ensures.0) c.in-Some.ensures.1
    c.abandon.ensures.plain c.abandon.ensures.journal c.let_go.ensures

pub abandon-requires : goal.abandon-requires
abandon-requires c = (c.requires.held.each c.in-Some.hand.now (subst {A = List Hand} (λ hs. Contains hs c.in-Some.hand.now) c.deref.ensures.value c.in-Some.ensures.0)).flying
