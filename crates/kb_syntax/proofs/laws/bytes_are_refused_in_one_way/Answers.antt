use Rattle.kb_syntax.proofs.OneRefusal.{one_refusal}
use Rattle.kb_syntax.proofs.laws.bytes_are_refused_in_one_way.Goals as goal

pub returns : goal.returns
returns c = one_refusal
