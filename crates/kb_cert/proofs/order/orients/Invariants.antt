use Rattle.std.proofs.Common.{take}
use Rattle.kb_cert.specs.Family.{Orders}
use Rattle.kb_cert.proofs.order.orients.Given as goal

-- the rules so far are ordered
abbrev pub invariant-loop-rule : goal.invariant-loop-rule
invariant-loop-rule l = Orders l.c (take l.rule-index l.rules)
