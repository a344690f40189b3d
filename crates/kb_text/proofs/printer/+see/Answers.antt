use Rattle.std.proofs.Common.{append_assoc, arith, ◌<◌, ◌++◌, sym, ap, ◌∙◌, length}
use Rattle.std.specs.Prelude.{take}
use Rattle.kb_term.specs.Pair.{distinct}
use Rattle.kb_term.specs.Tree.{tree_depth, variables_of}
use Rattle.kb_term.specs.View.{tree_of}
use Rattle.kb_term.proofs.Arguments.{argument-is, argument-depth, arguments-length}
use Rattle.kb_term.proofs.Numbered.{variables_list, variables_list_more}
use Rattle.kb_text.proofs.printer.+see.Goals as goal

pub see-requires : goal.see-requires
see-requires t c =
    let items = c.items-arguments.result.now in
    let here = argument-is items c.in-App.arguments c.loop-argument.argument-index c.argument-item.result c.items-arguments.ensures c.loop-argument-test.true c.argument-item.is in
    let room : c.loop-argument.argument-index < length c.in-App.arguments = omega (arith, arguments-length items, ap length c.items-arguments.ensures, c.loop-argument-test.true) in
    let falls : tree_depth (tree_of c.argument-item.result) < tree_depth (tree_of c.args.t.now) = omega (arith, ap tree_depth here, argument-depth c.in-App.arguments c.loop-argument.argument-index room, ap (λ u. tree_depth (tree_of u)) c.in-App.is) in
    omega (arith, falls, c.decreases)

pub loop-argument-preserved : goal.loop-argument-preserved
loop-argument-preserved t c =
    let items = c.items-arguments.result.now in
    let before = variables_list (take c.loop-argument.argument-index items) in
    let more = variables_list_more items c.loop-argument.argument-index c.argument-item.result c.loop-argument-test.true in record {
      added = λ vs e.
          c.in_ok-see-in-App.ensures (vs ++ before) (c.loop-argument.invariant.added vs e)
          ∙ ap distinct (append_assoc vs before (variables_of (tree_of c.argument-item.result)) ∙ ap (vs ++◌) (ap (λ u. before ++ variables_of (tree_of u)) c.argument-item.is ∙ sym more));
      all = c.loop-argument.invariant.all;
    }
