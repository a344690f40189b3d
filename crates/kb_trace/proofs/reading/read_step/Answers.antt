use Rattle.std.proofs.Common.{arith}
use Rattle.kb_trace.proofs.FieldsRead.{step_read}
use Rattle.kb_trace.proofs.reading.read_step.Goals as goal

pub returns : goal.returns
returns c = step_read c.args.signature.now c.requires c.args.number (omega arith) c.args.line.now _ c.step_of.result c.in_ok-fields.ensures c.step_of.ensures
