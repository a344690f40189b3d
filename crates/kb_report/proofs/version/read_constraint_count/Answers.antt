use Rattle.std.proofs.Common.{sym, subst}
use Rattle.kb_report.specs.Sections.{IsSectionFault}
use Rattle.kb_report.specs.SystemSections.{ConstraintCount}
use Rattle.kb_report.specs.declared.version.Version.{Version}
use Rattle.kb_report.proofs.Reading.{handed_on}
use Rattle.kb_report.proofs.version.read_constraint_count.Goals as goal

pub returns-in_err-count-in-Second-clause-fault : goal.returns-in_err-count-in-Second-clause-fault
returns-in_err-count-in-Second-clause-fault c =
    let fault = c.in_err-count-in-Second.field-0.0 in
    handed_on (IsSectionFault (ConstraintCount c.args.version) c.args.text.now c.args.first) c.from_residual.result fault c.from_residual.ensures.0 c.from_residual.ensures.1
    (subst {A = Version} (λ v. IsSectionFault (ConstraintCount v) c.args.text.now c.args.first fault) (sym c.in-Second.is) c.in_err-count-in-Second.ensures.fault)
