use Rattle.std.proofs.Common.{subst}
use Rattle.kb_cert.specs.Reading.{SpellsRows}
use Rattle.kb_cert.proofs.RowLaws.{rows_small, rows_found}
use Rattle.kb_cert.proofs.read.read_interpretation.Goals as goal

pub new-requires : goal.new-requires
new-requires c =
    rows_small c.args.sig.now _ (rows_found c.args.sig.now c.args.text.now c.new-rows.result.items c.read_rows.new.rows.items c.new-rows.ensures.items
    (subst (λ b. SpellsRows c.args.sig.now c.args.text.now c.new-rows.result.items c.read_rows.new.rows.items b) c.if-branch.true c.in_ok-read_rows.ensures)).rows_are
