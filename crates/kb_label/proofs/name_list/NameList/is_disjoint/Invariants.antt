use Rattle.std.proofs.Common.{◌≡◌, drop}
use Rattle.kb_label.specs.Names.{is_empty, meet}
use Rattle.kb_label.proofs.name_list.NameList.is_disjoint.Given as goal

-- whether a name is in both is up to those that are left
abbrev pub invariant-loop-i : goal.invariant-loop-i
invariant-loop-i l = is_empty (meet (drop l.i l.self-inside.names.items) l.other) ≡ is_empty (meet l.self l.other)
