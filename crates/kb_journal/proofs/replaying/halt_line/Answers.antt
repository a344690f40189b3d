use Rattle.std.proofs.Common.{length}
use Rattle.std.specs.Prelude.{nat_lt}
use Rattle.kb_journal.proofs.Making.{halt_or_not}
use Rattle.kb_journal.proofs.replaying.halt_line.Goals as goal

pub returns : goal.returns
returns c =
    let before = c.journal-before.ensures.journal in
    let after = c.journal.ensures.journal in
    halt_or_not c.args.board.now c.halt.new.self c.args.hands.now c.args.line.now (nat_lt (length c.journal-before.result.now) (length c.journal.result.now)) c.requires.held c.journal.ensures.legal c.requires.halt c.halt.ensures.plain c.halt.ensures.journal
    (λ i. nat_lt (length (before i)) (length (after i)))
