use Rattle.mkb_model.proofs.labels.LivingLabels.{labels_live}
use Rattle.mkb_model.proofs.laws.labels_name_the_living.Goals as goal

pub returns : goal.returns
returns c = labels_live
