use Rattle.mkb_model.proofs.nodes.OriginForms.{origins_of_form}
use Rattle.mkb_model.proofs.laws.origins_are_of_form.Goals as goal

pub returns : goal.returns
returns c = origins_of_form
