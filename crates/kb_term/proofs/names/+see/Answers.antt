use Rattle.std.proofs.Common.{append_assoc, sym, ap, ◌∙◌, ◌++◌}
use Rattle.std.specs.Prelude.{take}
use Rattle.kb_term.specs.Tree.{variables_of}
use Rattle.kb_term.specs.Pair.{distinct}
use Rattle.kb_term.specs.View.{tree_of}
use Rattle.kb_term.proofs.Numbered.{variables_list, variables_list_more}
use Rattle.kb_term.proofs.names.+see.Goals as goal

pub loop-argument-preserved : goal.loop-argument-preserved
loop-argument-preserved t c =
    let items = c.deref-argument-items.result.now in
    let more = variables_list_more items c.loop-argument.argument-index c.argument-item.result c.loop-argument-test.true in
    let before = variables_list (take c.loop-argument.argument-index items) in (
      (λ vs e.
          c.see.ensures (vs ++ before) (c.loop-argument.invariant.0 vs e)
          ∙ ap (λ ws. take 65 (distinct ws)) (append_assoc vs before (variables_of (tree_of c.argument-item.result)) ∙ ap (vs ++◌) (ap (λ u. before ++ variables_of (tree_of u)) c.argument-item.is ∙ sym more))),
      c.loop-argument.invariant.1,
    )
