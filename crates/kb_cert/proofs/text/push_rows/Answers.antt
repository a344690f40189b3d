use Rattle.std.proofs.Common.{ap, ◌∙◌, ◌++◌, map}
use Rattle.std.proofs.lemmas.List.{take_all}
use Rattle.kb_cert.specs.CertificateText.{each_behind}
use Rattle.kb_cert.proofs.Texts.{map_rows, row_text}
use Rattle.kb_cert.proofs.text.push_rows.Goals as goal

pub returns : goal.returns
returns c =
    c.loop-row.invariant
    ∙ ap (λ z. c.args.out.now.items ++ each_behind 32 z) (ap (map row_text) (take_all c.loop-row.row-index c.args.rows.now c.loop-row-test.false) ∙ map_rows c.args.rows.now)
