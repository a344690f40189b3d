use Rattle.std.proofs.Common.{subst, List, All}
use Rattle.kb_term.specs.Rule.{Rule}
use Rattle.kb_rewrite.specs.Roots.{IsNoted}
use Rattle.kb_rewrite.specs.Fingerprints.{AreFingerprints}
use Rattle.kb_rewrite.proofs.rule_list.RuleList.new.Goals as goal

pub invariant_of-result : goal.invariant_of-result
invariant_of-result c = (
  subst (λ (rs : List Rule). AreFingerprints rs c.in_ok-prints.prints.items) c.as_slice.ensures.value c.in_ok-prints.ensures,
  subst (All (λ (rule : Rule). IsNoted c.of-roots.result rule.left)) c.as_slice-2.ensures.value c.of-roots.ensures,
)
