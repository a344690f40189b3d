use Rattle.work_crew.proofs.Holding.{holds_where_taken}
use Rattle.work_crew.proofs.shared.Shared.take.Goals as goal

pub returns-clause-held : goal.returns-clause-held
returns-clause-held c = holds_where_taken c.self.inside.board c.take-taken.new.self c.args.worker c.take-taken.result c.self.invariant.0 c.take-taken.ensures.ok
