use Rattle.std.proofs.Common.{arith, ◌≡◌, ◌∙◌, ◌+◌, ap, ap₂, subst, sym}
use Rattle.kb_term.specs.Rule.{rename_rule, rule_between}
use Rattle.kb_term.specs.Substitution.{rename}
use Rattle.kb_term.specs.Tree.{HasVariablesBelow}
use Rattle.kb_overlap.specs.Found.{AreVariablesBelow}
use Rattle.kb_overlap.specs.Overlap.{IsRenamedApart}
use Rattle.kb_overlap.proofs.Finding.{apart_by, below_apart_by}
use Rattle.kb_overlap.proofs.renaming.apart_from.Goals as goal

pub overflow_cast-by : goal.overflow_cast-by
overflow_cast-by c = let few = (c.rule_bound-by.ensures 64).1 c.requires.outer_variables in omega (arith, few)

pub raised-requires-clause-variables : goal.raised-requires-clause-variables
raised-requires-clause-variables c = subst (HasVariablesBelow 64) (sym c.left.ensures) c.requires.inner_variables.0

pub raised-requires-clause-by : goal.raised-requires-clause-by
raised-requires-clause-by c = (c.rule_bound-by.ensures 64).1 c.requires.outer_variables

pub raised-requires-2-clause-variables : goal.raised-requires-2-clause-variables
raised-requires-2-clause-variables c = subst (HasVariablesBelow 64) (sym c.right.ensures) c.requires.inner_variables.1

pub raised-requires-2-clause-by : goal.raised-requires-2-clause-by
raised-requires-2-clause-by c = (c.rule_bound-by.ensures 64).1 c.requires.outer_variables

pub returns-clause-apart : goal.returns-clause-apart
returns-clause-apart c =
    let by = c.rule_bound-by.result in
    let is : c.new.result ≡ rename_rule (λ n. n + by) c.args.inner.now = c.new.ensures ∙ ap₂ rule_between (c.in_ok-left.ensures ∙ ap (rename (λ n. n + by)) c.left.ensures) (c.in_ok-right.ensures ∙ ap (rename (λ n. n + by)) c.right.ensures) in
    subst (IsRenamedApart c.args.outer.now c.args.inner.now) (sym is) (apart_by by c.args.outer.now c.args.inner.now ((c.rule_bound-by.ensures by).0 (omega arith)))

pub returns-clause-below : goal.returns-clause-below
returns-clause-below c =
    let by = c.rule_bound-by.result in
    let is : c.new.result ≡ rename_rule (λ n. n + by) c.args.inner.now = c.new.ensures ∙ ap₂ rule_between (c.in_ok-left.ensures ∙ ap (rename (λ n. n + by)) c.left.ensures) (c.in_ok-right.ensures ∙ ap (rename (λ n. n + by)) c.right.ensures) in
    subst (AreVariablesBelow 128) (sym is) (below_apart_by by c.args.inner.now ((c.rule_bound-by.ensures 64).1 c.requires.outer_variables) c.requires.inner_variables)
