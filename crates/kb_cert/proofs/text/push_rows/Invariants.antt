use Rattle.std.proofs.Common.{◌≡◌, ◌++◌, map, take}
use Rattle.kb_cert.specs.CertificateText.{each_behind}
use Rattle.kb_cert.proofs.Texts.{row_text}
use Rattle.kb_cert.proofs.text.push_rows.Given as goal

abbrev pub invariant-loop-row : goal.invariant-loop-row
invariant-loop-row l = l.out.items ≡ l.fn.out.items ++ each_behind 32 (map row_text (take l.row-index l.rows))
