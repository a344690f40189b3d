use Rattle.std.proofs.Common.{arith, sym, ◌∙◌, ap, ◌++◌, ◌∷◌, []}
use Rattle.kb_linear.proofs.Places.{numbers_more}
use Rattle.kb_linear.proofs.numbers.numbers.Goals as goal

pub loop-row-preserved : goal.loop-row-preserved
loop-row-preserved c =
    c.in_ok-extend_from_slice.ensures.items
    ∙ ap (λ z. z ++ c.deref.result.now) c.in_ok-push.ensures.items
    ∙ (λ k. (c.loop-row.invariant k ++ c.row-item.result.0 ∷ []) ++ c.deref.ensures.value k)
    ∙ sym (numbers_more c.args.rows.now c.loop-row.row-index c.row-item.result (omega arith) c.row-item.is)
