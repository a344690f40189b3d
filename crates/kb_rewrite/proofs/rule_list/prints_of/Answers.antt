use Rattle.std.proofs.Common.{◌+◌, ◌≡◌, sym, subst, arith, length, length-append, List, ◌∷◌, [], ◌++◌}
use Rattle.kb_term.specs.Tree.{Tree}
use Rattle.kb_rewrite.specs.declared.fingerprint.Fingerprint.{Fingerprint}
use Rattle.kb_rewrite.specs.Fingerprints.{IsFingerprint, AreFingerprints}
use Rattle.kb_rewrite.proofs.FirstRedexes.{rule_there}
use Rattle.kb_rewrite.proofs.Tops.{prints_more}
use Rattle.kb_rewrite.proofs.rule_list.prints_of.Goals as goal

pub loop-i-preserved : goal.loop-i-preserved
loop-i-preserved c =
    let rules = c.args.rules.now in
    let prints = c.loop-i.prints.items in
    let i = c.loop-i.i in
    let rule = c.index-rules-i.result in
    let print = c.of.result in
    let pushed : c.push.new.self.items ≡ prints ++ print ∷ [] = c.in_ok-push.ensures.items in
    let there = rule_there rules i rule c.loop-i-test.true c.index-rules-i.is in
    let is : IsFingerprint rule.left print = subst (λ (t : Tree). IsFingerprint t print) c.left.ensures c.of.ensures in
    let many : length (prints ++ print ∷ []) ≡ i + 1 = omega (arith, length-append prints (print ∷ []), c.loop-i.invariant.0) in
    subst (λ (ps : List Fingerprint). (length ps ≡ i + 1) × AreFingerprints rules ps) (sym pushed) (many, prints_more rules prints i print rule c.loop-i.invariant.0 there is c.loop-i.invariant.1)
