use Rattle.std.proofs.Common.{◌≡◌, drop}
use Rattle.kb_label.specs.Names.{is_empty, minus}
use Rattle.kb_label.proofs.name_list.NameList.includes.Given as goal

-- whether a name is missing is up to those that are left
abbrev pub invariant-loop-i : goal.invariant-loop-i
invariant-loop-i l = is_empty (minus (drop l.i l.other-inside.names.items) l.self) ≡ is_empty (minus l.other l.self)
