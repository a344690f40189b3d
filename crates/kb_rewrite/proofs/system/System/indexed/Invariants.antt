use Rattle.kb_rewrite.specs.Indexed.{IsIndexOf}
use Rattle.kb_rewrite.proofs.system.System.indexed.Given as goal

-- the rules so far are in the index
abbrev pub invariant-loop-i : goal.invariant-loop-i
invariant-loop-i l = IsIndexOf l.i l.rules l.index
