use Rattle.kb_laws.proofs.Stated.{church_rosser}
use Rattle.kb_laws.proofs.laws.church_rosser.Goals as goal

pub returns : goal.returns
returns c = church_rosser
