use Rattle.mkb_model.proofs.runs.Certificates.{certified_run, rules_follow}
use Rattle.mkb_model.proofs.laws.certificates_order.Goals as goal

pub returns-clause-certified : goal.returns-clause-certified
returns-clause-certified c = certified_run

pub returns-clause-rules_follow : goal.returns-clause-rules_follow
returns-clause-rules_follow c = rules_follow
