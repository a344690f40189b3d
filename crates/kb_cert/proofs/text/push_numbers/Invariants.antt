use Rattle.std.proofs.Common.{◌≡◌, ◌++◌, map, take}
use Rattle.std.specs.Prelude.{decimal}
use Rattle.kb_cert.specs.CertificateText.{each_behind}
use Rattle.kb_cert.proofs.text.push_numbers.Given as goal

abbrev pub invariant-loop-n : goal.invariant-loop-n
invariant-loop-n l = l.out.items ≡ (l.fn.out.items ++ decimal l.first) ++ each_behind 44 (map decimal (take l.n-index l.others))
