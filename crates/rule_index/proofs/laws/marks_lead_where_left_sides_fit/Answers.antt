use Rattle.std.specs.Prelude.{false}
use Rattle.rule_index.proofs.Leading.{leads_from_meeting, meets_back}
use Rattle.rule_index.proofs.Meeting.{meets_from_fit, fit_from_meeting}
use Rattle.rule_index.proofs.laws.marks_lead_where_left_sides_fit.Goals as goal

pub returns : goal.returns
returns c left t = (λ h. fit_from_meeting left t (meets_back false left t h), λ h. leads_from_meeting false left t (meets_from_fit left t h))
