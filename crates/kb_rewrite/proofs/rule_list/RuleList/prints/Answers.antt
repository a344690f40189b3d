use Rattle.std.proofs.Common.{sym, subst, List}
use Rattle.kb_term.specs.Rule.{Rule}
use Rattle.kb_rewrite.specs.declared.fingerprint.Fingerprint.{Fingerprint}
use Rattle.kb_rewrite.specs.Fingerprints.{AreFingerprints}
use Rattle.kb_rewrite.proofs.rule_list.RuleList.prints.Goals as goal

pub returns : goal.returns
returns c =
    subst (λ (ps : List Fingerprint). AreFingerprints c.args.self.now ps) (sym c.as_slice.ensures.value) (subst (λ (rs : List Rule). AreFingerprints rs c.self.inside.prints.items) c.self.view_is c.self.invariant.0)
