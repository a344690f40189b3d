use Rattle.std.proofs.Common.{◌∙◌, sym}
use Rattle.kb_term.proofs.Instances.{agree_at}
use Rattle.kb_term.proofs.Steps.{occurs_from}
use Rattle.kb_match.proofs.laws.matches_are_one.Goals as goal

pub returns : goal.returns
returns c pattern subject m k d e n h = agree_at m k pattern (d ∙ sym e) n (occurs_from n pattern h)
