use Rattle.kb_checker.proofs.OneVerdict.{verdict_once}
use Rattle.kb_checker.proofs.laws.verdicts_are_one.Goals as goal

pub returns : goal.returns
returns c = verdict_once
