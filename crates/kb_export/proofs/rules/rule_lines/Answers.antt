use Rattle.std.proofs.Common.{◌∙◌, ap, arith}
use Rattle.kb_export.specs.RuleTexts.{sides_of, variable_bound_of}
use Rattle.kb_export.proofs.Bounds.{equations_small, sides_within}
use Rattle.kb_export.proofs.rules.rule_lines.Goals as goal

pub push_variables-requires-clause-few : goal.push_variables-requires-clause-few
push_variables-requires-clause-few c =
    let form = c.problem.ensures.kept in
    let count = c.variable_count-count.ensures ∙ ap (λ rs. variable_bound_of (sides_of rs)) c.rules-rules.ensures in
    omega (arith, count, equations_small _ _ (sides_within _ _ form.rules))
