use Rattle.std.proofs.Common.{drop}
use Rattle.std.specs.Prelude.{⊤}
use Rattle.kb_report.specs.SystemSections.{head_body}
use Rattle.kb_report.specs.declared.version.Version.{Version}
use Rattle.kb_report.specs.declared.version.Version.TheVariants.{First}
use Rattle.kb_report.proofs.SystemForm.{head_without}
use Rattle.kb_report.proofs.ReadLines.{bad_without, bad_other, line_is_read}
use Rattle.kb_report.proofs.version.read_version.Goals as goal

pub returns-in_default-clause-fault : goal.returns-in_default-clause-fault
returns-in_default-clause-fault c = bad_without {X = Version} (λ v. ⊤) head_body c.args.text.now 1 First tt c.in_default.ensures.line

pub returns-in_default-version_of-clause-fault : goal.returns-in_default-version_of-clause-fault
returns-in_default-version_of-clause-fault c =
    bad_other {X = Version} (λ v. ⊤) head_body c.args.text.now c.in-Some.line.now (drop c.in-Some.size c.args.text.now) 1 First tt (λ v u. head_without v) c.in-Some.ensures.line c.in_default-version_of.ensures

pub returns-clause-read : goal.returns-clause-read
returns-clause-read c =
    line_is_read {X = Version} (λ v. ⊤) head_body c.args.text.now c.in-Some.line.now (drop c.in-Some.size c.args.text.now) c.in-Some-version_of.version c.in-Some.ensures.line c.in-Some-version_of.ensures
