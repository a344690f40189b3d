use Rattle.std.proofs.Common.{take, Contains}
use Rattle.kb_term.specs.Tree.{Tree}
use Rattle.mkb_model.specs.Proposals.{HaveForms}
use Rattle.kb_jobs.specs.Rules.{listed}
use Rattle.kb_jobs.specs.Closing.{inputs_of}
use Rattle.kb_jobs.proofs.closing.input_limit.Given as goal

-- the input equations so far have normal forms
abbrev pub invariant-loop-i : goal.invariant-loop-i
invariant-loop-i l = (e : Tree × Tree) → Contains (take l.i (inputs_of l.s)) e → HaveForms (listed l.s.rules) e
