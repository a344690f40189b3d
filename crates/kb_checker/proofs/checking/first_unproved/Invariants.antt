use Rattle.std.proofs.Common.{take, All}
use Rattle.kb_term.specs.View.{equations_of_list}
use Rattle.kb_checker.specs.Verdicts.{IsProved}
use Rattle.kb_checker.proofs.checking.first_unproved.Given as goal

-- the equations so far are proved
abbrev pub invariant-loop-k : goal.invariant-loop-k
invariant-loop-k l = All (IsProved l.system) (take l.k (equations_of_list l.equations))
