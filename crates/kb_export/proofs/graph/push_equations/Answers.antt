use Rattle.std.proofs.Common.{◌≡◌, ◌∙◌, ◌<◌, ◌+◌, ◌++◌, ◌∷◌, [], sym, ap, ap₂, take, length, arith, append_assoc}
use Rattle.std.proofs.lemmas.List.{take_more, length-take-le, length-map, map-append}
use Rattle.kb_term.specs.Tree.{Tree}
use Rattle.kb_term.specs.View.{equations_of_list, tree_of}
use Rattle.kb_term.specs.declared.term.Term.{Term}
use Rattle.kb_text.specs.Terms.{names_of}
use Rattle.kb_export.specs.Graphs.{equation_lines, node_line}
use Rattle.kb_export.specs.declared.graph.Node.TheVariants.{Equation}
use Rattle.kb_export.proofs.Numbered.{equation_lines-more}
use Rattle.kb_export.proofs.graph.push_equations.Goals as goal

pub loop-i-preserved : goal.loop-i-preserved
loop-i-preserved c =
    let t = c.args.equations.now in
    let k = c.loop-i.i in
    let old = c.args.out.now.items in
    let names = names_of c.args.signature.now in
    let d = c.index-equations-i.result in
    let e : Tree × Tree = (tree_of d.0, tree_of d.1) in
    let room : k < length t = omega (arith, c.loop-i-test.true) in
    let before = equations_of_list (take k t) in
    let view : Term × Term → Tree × Tree = λ e. (tree_of e.0, tree_of e.1) in
    let number : k + 1 ≡ 1 + length before = omega (arith, length-take-le k t (omega arith), length-map (take k t) view) in
    let more : equations_of_list (take (k + 1) t) ≡ before ++ e ∷ [] = ap equations_of_list (take_more t k d room ∙ ap (λ (x : Term × Term). take k t ++ x ∷ []) (sym c.index-equations-i.is)) ∙ map-append view (take k t) (d ∷ []) in
    c.in_ok-push_node_line.ensures ∙ ap₂ (λ xs n. xs ++ node_line names (Equation n) e) c.loop-i.invariant number
    ∙ append_assoc old (equation_lines names 1 before) (node_line names (Equation (1 + length before)) e)
    ∙ ap (old ++◌) (sym (ap (equation_lines names 1) more ∙ equation_lines-more names 1 before e))
