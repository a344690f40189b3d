use Rattle.std.proofs.Common.{◌-◌, length}
use Rattle.kb_cert.proofs.read.+read_rows.Given as goal

abbrev pub decreases-read_rows : goal.decreases-read_rows
decreases-read_rows l = length l.sig.now - l.f
