use Rattle.std.proofs.Common.{ap, arith, length}
use Rattle.work_crew.proofs.Rooms.{room_opened}
use Rattle.work_crew.proofs.shared.Shared.new.Goals as goal

pub invariant_of-result : goal.invariant_of-result
invariant_of-result c = (c.journal.ensures.legal, ap length c.journal.ensures.journal, room_opened c.args.board c.journal.ensures.legal c.requires, omega arith)
