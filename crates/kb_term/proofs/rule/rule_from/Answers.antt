use Rattle.std.proofs.Common.{subst, sym}
use Rattle.kb_term.specs.Pair.{IsCanonicalPair}
use Rattle.kb_term.specs.Rule.{IsRuleBelow}
use Rattle.kb_term.proofs.OwnPair.{same_below}
use Rattle.kb_term.proofs.rule.rule_from.Goals as goal

pub returns-clause-below : goal.returns-clause-below
returns-clause-below c =
    subst (IsRuleBelow 64) (sym c.new.ensures) (same_below c.args.pair _ _ (subst IsCanonicalPair c.pair.view_is c.pair.invariant) c.into_sides-left.ensures.first c.into_sides-left.ensures.second)
