use Rattle.std.proofs.Common.{◌≡◌, ◌+◌}
use Rattle.kb_text.specs.Names.{number_of}
use Rattle.kb_text.proofs.NameLists.{names_from}
use Rattle.kb_text.proofs.names.place_of.Given as goal

-- the name's place is that among those that are left, and how many were passed
abbrev pub invariant-loop-i : goal.invariant-loop-i
invariant-loop-i l = number_of (names_from l.names 0) l.name ≡ number_of (names_from l.names l.i) l.name + l.i
