use Rattle.mkbtt_top.proofs.OneText.{one_text}
use Rattle.mkbtt_top.proofs.laws.rounds_write_one_text.Goals as goal

pub returns : goal.returns
returns c = one_text
