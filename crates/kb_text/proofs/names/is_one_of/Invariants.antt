use Rattle.std.proofs.Common.{◌≡◌}
use Rattle.kb_text.specs.Names.{is_among}
use Rattle.kb_text.proofs.NameLists.{names_from}
use Rattle.kb_text.proofs.names.is_one_of.Given as goal

-- the name is one of all exactly where it is one of those that are left
abbrev pub invariant-loop-other : goal.invariant-loop-other
invariant-loop-other l = is_among (names_from l.names 0) l.name ≡ is_among (names_from l.names l.other-index) l.name
