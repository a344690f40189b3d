use Rattle.std.proofs.Common.{⊎_elim}
use Rattle.kb_journal.proofs.Making.{take_told, none_taken}
use Rattle.kb_journal.proofs.replaying.take_line.Goals as goal

pub returns-in_ok-push-in-Job : goal.returns-in_ok-push-in-Job
returns-in_ok-push-in-Job c =
    take_told c.args.board.now c.take.new.self c.args.hands.now.items c.push.new.self.items c.args.line.now c.args.worker c.in-Job.ticket c.in-Job.snapshot c.is_last.result c.requires.held c.is_last.ensures.legal c.requires.take (rw c.in-Job.is at c.in_ok-ticket.ensures.ok) c.in_ok-push-in-Job.ensures.items c.is_last.ensures.same

pub returns-in-Idle : goal.returns-in-Idle
returns-in-Idle c =
    none_taken c.args.board.now c.args.line.now c.requires.held.legal c.take.new.self c.args.worker c.in_ok-ticket.field-0 c.requires.take c.in_ok-ticket.ensures.ok
    (λ t s e. ⊎_elim (λ p. absurd (let q = p.1 in cc)) (λ r. ⊎_elim (λ p. absurd (let q = p.1 in cc)) (λ p. absurd (cc)) r) c.in-Idle.is)
