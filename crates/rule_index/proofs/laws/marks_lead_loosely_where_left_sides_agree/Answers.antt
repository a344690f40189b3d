use Rattle.std.specs.Prelude.{true}
use Rattle.rule_index.proofs.Leading.{leads_from_meeting, meets_back}
use Rattle.rule_index.proofs.Meeting.{meets_from_agreement, agreement_from_meeting}
use Rattle.rule_index.proofs.laws.marks_lead_loosely_where_left_sides_agree.Goals as goal

pub returns : goal.returns
returns c left t = (λ h. agreement_from_meeting left t (meets_back true left t h), λ h. leads_from_meeting true left t (meets_from_agreement left t h))
