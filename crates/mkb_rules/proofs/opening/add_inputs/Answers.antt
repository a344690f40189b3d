use Rattle.std.proofs.Common.{◌<◌, ◌≤◌, length, map, ap, sym, subst, ◌∙◌, arith}
use Rattle.std.proofs.lemmas.List.{length-map}
use Rattle.kb_term.specs.Tree.{Tree}
use Rattle.kb_term.specs.Pair.{variables_of_pair}
use Rattle.kb_term.specs.View.{tree_of}
use Rattle.kb_term.specs.declared.term.Term.{Term}
use Rattle.mkb_rules.proofs.Rows.{read_map}
use Rattle.mkb_rules.proofs.opening.add_inputs.Goals as goal

pub add_input-requires-clause-variables : goal.add_input-requires-clause-variables
add_input-requires-clause-variables c =
    let es = c.args.equations.now in
    let i = c.loop-i.i in
    let x = c.index-equations-i.result in
    let sides : Term × Term → Tree × Tree = λ e. (tree_of e.0, tree_of e.1) in
    let there : i < length (map sides es) = omega (arith, length-map es sides, c.loop-i-test.true, c.loop-i.auto.i-end) in
    let read = read_map sides es i x ∙ ap sides (sym c.index-equations-i.is) in
    subst {A = Tree × Tree} (λ e. length (variables_of_pair e.0 e.1) ≤ 64) read (c.requires.variables i (sides x) there)
