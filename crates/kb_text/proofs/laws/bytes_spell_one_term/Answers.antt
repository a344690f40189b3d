use Rattle.kb_text.proofs.TermParts.{one_spelled}
use Rattle.kb_text.proofs.laws.bytes_spell_one_term.Goals as goal

pub returns : goal.returns
returns c = one_spelled
