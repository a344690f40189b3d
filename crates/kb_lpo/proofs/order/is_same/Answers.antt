use Rattle.std.proofs.Common.{sym, ◌∙◌, ap, subst, ◌≡◌, ◌==◌, true}
use Rattle.std.specs.Ordering.{ordering_index}
use Rattle.kb_term.specs.Tree.{tree_eq}
use Rattle.kb_term.specs.View.{tree_of}
use Rattle.kb_term.proofs.Compared.{tree-is_eq}
use Rattle.kb_lpo.proofs.Answering.{same_tree, tree_eq-refl}
use Rattle.kb_lpo.proofs.order.is_same.Goals as goal

pub returns : goal.returns
returns c =
    let a = tree_of c.args.a.now in
    let b = tree_of c.args.b.now in
    let e : c.eq.result ≡ tree_eq a b = c.eq.ensures ∙ ap (λ o. ordering_index o == 1) c.compare.ensures ∙ sym (tree-is_eq a b) in
    (λ h. same_tree a b (sym e ∙ h), λ h. e ∙ subst (λ z. tree_eq a z ≡ true) h (tree_eq-refl a))
