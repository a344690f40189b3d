use Rattle.std.proofs.Common.{sym, ap, ◌∙◌}
use Rattle.std.specs.Prelude.{◌==◌}
use Rattle.std.specs.Ordering.{ordering_index}
use Rattle.kb_term.specs.View.{tree_of}
use Rattle.kb_term.proofs.Compared.{tree-is_eq}
use Rattle.kb_term.proofs.OwnPair.{tree_eq-true, tree_eq-same}
use Rattle.kb_term.proofs.term.TermPartialEq.eq.Goals as goal

pub returns-clause-same : goal.returns-clause-same
returns-clause-same c =
    let s = tree_of c.args.self.now in
    let t = tree_of c.args.other.now in (
      (λ h. tree_eq-true s t (tree-is_eq s t ∙ ap (λ o. ordering_index o == 1) (sym c.compare.ensures) ∙ sym c.eq.ensures ∙ h)),
      (λ e. c.eq.ensures ∙ ap (λ o. ordering_index o == 1) c.compare.ensures ∙ sym (tree-is_eq s t) ∙ tree_eq-same s t e),
    )
