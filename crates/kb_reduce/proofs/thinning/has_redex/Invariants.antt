use Rattle.std.proofs.Common.{take}
use Rattle.kb_term.specs.View.{tree_of}
use Rattle.kb_rewrite.specs.NormalForm.{HasRedex}
use Rattle.kb_checker.specs.Answers.{rules_of}
use Rattle.kb_reduce.proofs.thinning.has_redex.Given as goal

-- no rule so far has a redex in the term
abbrev pub invariant-loop-rule : goal.invariant-loop-rule
invariant-loop-rule l = HasRedex (rules_of (take l.rule-index l.rules)) (tree_of l.t) → ⊥
