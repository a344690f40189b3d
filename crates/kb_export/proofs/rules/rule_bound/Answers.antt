use Rattle.std.proofs.Common.{◌∙◌, ap, ap₂, max}
use Rattle.kb_term.specs.Tree.{variables_of}
use Rattle.kb_term.specs.View.{tree_of}
use Rattle.kb_export.specs.RuleTexts.{bound_of}
use Rattle.kb_export.proofs.Bounds.{one_bound}
use Rattle.kb_export.proofs.rules.rule_bound.Goals as goal

pub returns : goal.returns
returns c =
    c.max.ensures
    ∙ ap₂ max
    (one_bound c.variable_bound.result (variables_of (tree_of c.left.result.now)) c.variable_bound.ensures ∙ ap (λ t. bound_of (variables_of t)) c.left.ensures)
    (one_bound c.variable_bound-2.result (variables_of (tree_of c.right.result.now)) c.variable_bound-2.ensures ∙ ap (λ t. bound_of (variables_of t)) c.right.ensures)
