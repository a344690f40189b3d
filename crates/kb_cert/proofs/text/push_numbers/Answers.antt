use Rattle.std.proofs.Common.{sym, ap, ◌∙◌, ◌++◌, append_assoc, map}
use Rattle.std.specs.Prelude.{decimal}
use Rattle.std.proofs.lemmas.List.{take_all}
use Rattle.kb_cert.specs.CertificateText.{each_behind}
use Rattle.kb_cert.proofs.Texts.{join_with_byte-behind}
use Rattle.kb_cert.proofs.text.push_numbers.Goals as goal

pub returns : goal.returns
returns c =
    c.loop-n.invariant
    ∙ ap (λ z. (c.args.out.now.items ++ decimal c.args.first) ++ each_behind 44 (map decimal z)) (take_all c.loop-n.n-index c.args.others.now c.loop-n-test.false)
    ∙ append_assoc c.args.out.now.items (decimal c.args.first) (each_behind 44 (map decimal c.args.others.now))
    ∙ ap (λ z. c.args.out.now.items ++ z) (sym (join_with_byte-behind 44 (decimal c.args.first) (map decimal c.args.others.now)))
