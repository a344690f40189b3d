use Rattle.std.proofs.Common.{All, take}
use Rattle.kb_term.specs.Rule.{Rule}
use Rattle.kb_rewrite.specs.Roots.{IsNoted}
use Rattle.kb_rewrite.proofs.roots.Roots.of.Given as goal

-- the roots of the left sides so far are noted
abbrev pub invariant-loop-rule : goal.invariant-loop-rule
invariant-loop-rule l = All (λ (rule : Rule). IsNoted l.roots rule.left) (take l.rule-index l.rules)
