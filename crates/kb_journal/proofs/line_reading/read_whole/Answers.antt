use Rattle.kb_journal.proofs.LineLaws.{read_exactly}
use Rattle.kb_journal.proofs.line_reading.read_whole.Goals as goal

pub returns : goal.returns
returns c = read_exactly c.args.digits.now c.whole_of.result c.whole_of.ensures
