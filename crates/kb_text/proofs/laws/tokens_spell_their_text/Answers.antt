use Rattle.kb_text.proofs.Spelling.{tokens_spelled}
use Rattle.kb_text.proofs.laws.tokens_spell_their_text.Goals as goal

pub returns : goal.returns
returns c = tokens_spelled
