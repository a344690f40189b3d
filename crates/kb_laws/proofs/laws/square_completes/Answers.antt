use Rattle.kb_laws.proofs.SquareRows.{square-completed}
use Rattle.kb_laws.proofs.laws.square_completes.Goals as goal

pub returns : goal.returns
returns c = square-completed
