use Rattle.std.proofs.Common.{◌++◌, ◌∷◌, ◌∙◌, [], List, ap, sym}
use Rattle.kb_term.specs.Pair.{Pair}
use Rattle.kb_term.specs.declared.origin.Origin.{Origin}
use Rattle.mkb_report.proofs.Viewed.{nodes_next}
use Rattle.mkb_report.proofs.report.node_list.Goals as goal

pub loop-i-preserved : goal.loop-i-preserved
loop-i-preserved c =
    let q : Pair = c.in_ok-pair.pair in
    let o : Origin = c.in_ok-origin.origin in
    c.in_ok-push.ensures.items ∙ ap (λ (xs : List (Pair × Origin)). xs ++ (q, o) ∷ []) c.loop-i.invariant
    ∙ sym (nodes_next c.args.table.now c.loop-i.i q o c.in_ok-pair.ensures c.in_ok-origin.ensures)
