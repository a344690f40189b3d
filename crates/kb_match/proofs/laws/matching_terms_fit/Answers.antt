use Rattle.kb_match.proofs.FittingLaws.{fits_from_match}
use Rattle.kb_match.proofs.laws.matching_terms_fit.Goals as goal

pub returns : goal.returns
returns c = fits_from_match
