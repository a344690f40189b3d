use Rattle.std.proofs.Common.{ℕ, ◌≡◌, ◌∙◌, sym, ap, subst, Contains}
use Rattle.kb_term.specs.Tree.{Tree, variables_of, apply, trees_of}
use Rattle.kb_term.specs.View.{tree_of}
use Rattle.kb_term.proofs.Trees.{apply≢variable}
use Rattle.kb_trace.proofs.rule.is_rule.Goals as goal

pub returns-in-App : goal.returns-in-App
returns-in-App c =
    let rule = c.args.rule.now in
    let applied : rule.left ≡ apply c.in-App.field-0.0 (trees_of c.in-App.field-1) = sym c.left.ensures ∙ ap tree_of c.in-App.is in (
      λ e. record {
        no_variable = λ n v. apply≢variable (sym applied ∙ v);
        holds_variables = λ n h. subst (λ t. Contains (variables_of t) n) c.left-in-App.ensures (c.holds_variables.ensures.0 e n (subst (λ t. Contains (variables_of t) n) (sym c.right.ensures) h));
      },
      λ h. c.holds_variables.ensures.1 (λ n o. subst (λ t. Contains (variables_of t) n) (sym c.left-in-App.ensures) (h.holds_variables n (subst (λ t. Contains (variables_of t) n) c.right.ensures o))),
    )
