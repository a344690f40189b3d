use Rattle.kb_syntax.proofs.Spelled.{refused_not_spelled}
use Rattle.kb_syntax.proofs.laws.refused_bytes_spell_no_problem.Goals as goal

pub returns : goal.returns
returns c bytes kind at p h k = refused_not_spelled bytes kind at p h k
