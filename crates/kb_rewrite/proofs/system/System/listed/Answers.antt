use Rattle.std.proofs.Common.{sym, subst, List, All}
use Rattle.kb_term.specs.Rule.{Rule}
use Rattle.kb_rewrite.specs.Roots.{IsNoted}
use Rattle.kb_rewrite.specs.Fingerprints.{AreFingerprints}
use Rattle.kb_rewrite.proofs.system.System.listed.Goals as goal

pub invariant_of-result : goal.invariant_of-result
invariant_of-result c = record {
  found = subst (λ (rs : List Rule). AreFingerprints rs c.prints.result.now) (sym c.as_slice.ensures) c.prints.ensures;
  noted = subst (All (λ (rule : Rule). IsNoted c.roots.result rule.left)) (sym c.as_slice.ensures) c.roots.ensures;
}
