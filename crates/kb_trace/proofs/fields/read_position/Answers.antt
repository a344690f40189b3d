use Rattle.std.proofs.Common.{sym, ◌∙◌}
use Rattle.std.proofs.lemmas.Bool.{false≢true}
use Rattle.kb_trace.proofs.FieldsRead.{position_read}
use Rattle.kb_trace.proofs.fields.read_position.Goals as goal

pub returns : goal.returns
returns c = position_read c.args.field.now _ c.position_of.result c.in_ok-numbers.ensures (λ e. false≢true (sym c.if-is_word.false ∙ c.is_word.ensures.1 e)) c.position_of.ensures
