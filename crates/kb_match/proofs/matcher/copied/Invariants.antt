use Rattle.std.proofs.Common.{◌≡◌, take}
use Rattle.kb_term.specs.View.{entries_of_list}
use Rattle.kb_match.specs.Binding.{bindings_of_list}
use Rattle.kb_match.proofs.matcher.copied.Given as goal

-- the entries are the bindings so far
abbrev pub invariant-loop-binding : goal.invariant-loop-binding
invariant-loop-binding l = entries_of_list l.entries.items ≡ bindings_of_list (take l.binding-index l.bindings)
