use Rattle.std.proofs.Common.{arith}
use Rattle.kb_trace.proofs.TraceLines.{one_trace}
use Rattle.kb_trace.proofs.laws.texts_are_of_one_trace.Goals as goal

pub returns : goal.returns
returns c = λ signature t u i f g e. let count = f.count in one_trace signature i 1 t u f.steps g.steps (omega arith) e
