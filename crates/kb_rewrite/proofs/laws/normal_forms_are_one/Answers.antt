use Rattle.kb_rewrite.proofs.Determined.{answers_once}
use Rattle.kb_rewrite.proofs.laws.normal_forms_are_one.Goals as goal

pub returns : goal.returns
returns c rules t a b held x y = answers_once rules held t a b x y
