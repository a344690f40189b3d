use Rattle.std.proofs.Common.{◌≡◌, length}
use Rattle.kb_rewrite.specs.Fingerprints.{AreFingerprints}
use Rattle.kb_rewrite.proofs.rule_list.prints_of.Given as goal

-- the left sides so far have theirs
abbrev pub invariant-loop-i : goal.invariant-loop-i
invariant-loop-i l = (length l.prints.items ≡ l.i) × AreFingerprints l.rules l.prints.items
