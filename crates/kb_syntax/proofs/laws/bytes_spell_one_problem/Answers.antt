use Rattle.kb_text.proofs.OneProblem.{one_problem}
use Rattle.kb_syntax.proofs.laws.bytes_spell_one_problem.Goals as goal

pub returns : goal.returns
returns c = one_problem
