use Rattle.std.proofs.Common.{◌≡◌, ◌++◌, map, take}
use Rattle.kb_cert.specs.CertificateText.{each_behind}
use Rattle.kb_cert.proofs.Texts.{symbol_name}
use Rattle.kb_cert.proofs.text.push_names.Given as goal

abbrev pub invariant-loop-f : goal.invariant-loop-f
invariant-loop-f l = l.out.items ≡ l.fn.out.items ++ each_behind 32 (map (symbol_name l.sig) (take l.f-index l.symbols))
