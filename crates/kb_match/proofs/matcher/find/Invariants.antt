use Rattle.std.proofs.Common.{take}
use Rattle.kb_match.specs.Binding.{bindings_of_list}
use Rattle.kb_match.specs.Extending.{IsAbsent}
use Rattle.kb_match.proofs.matcher.find.Given as goal

-- the variable isn't among the entries so far
abbrev pub invariant-loop-binding : goal.invariant-loop-binding
invariant-loop-binding l = IsAbsent l.n (bindings_of_list (take l.binding-index l.bindings))
