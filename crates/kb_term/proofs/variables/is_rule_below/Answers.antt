use Rattle.std.proofs.Common.{sym, subst, ◌∙◌}
use Rattle.std.proofs.lemmas.Bool.{false≢true}
use Rattle.kb_term.specs.Tree.{HasVariablesBelow}
use Rattle.kb_term.proofs.variables.is_rule_below.Goals as goal

pub returns-then-has_variables_below : goal.returns-then-has_variables_below
returns-then-has_variables_below c = (
  (λ h. record {
    left = subst (HasVariablesBelow c.args.bound) c.left.ensures (c.has_variables_below.ensures.0 c.if-has_variables_below.true);
    right = subst (HasVariablesBelow c.args.bound) c.right.ensures (c.has_variables_below-then-has_variables_below.ensures.0 h);
  }),
  (λ w. c.has_variables_below-then-has_variables_below.ensures.1 (subst (HasVariablesBelow c.args.bound) (sym c.right.ensures) w.right)),
)

pub returns-else-has_variables_below : goal.returns-else-has_variables_below
returns-else-has_variables_below c = (
  (λ h. absurd (false≢true (sym c.if-has_variables_below.false ∙ h))),
  (λ w. c.has_variables_below.ensures.1 (subst (HasVariablesBelow c.args.bound) (sym c.left.ensures) w.left)),
)
