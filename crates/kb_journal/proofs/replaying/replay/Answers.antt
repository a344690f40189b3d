use Rattle.kb_journal.proofs.Making.{at_end}
use Rattle.kb_journal.proofs.replaying.replay.Goals as goal

pub returns-in-Ok-clause-made : goal.returns-in-Ok-clause-made
returns-in-Ok-clause-made c = at_end c.make_all-made.new.board c.args.j.now c.in-Ok.ensures.end
