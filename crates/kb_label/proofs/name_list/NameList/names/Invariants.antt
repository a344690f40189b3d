use Rattle.std.proofs.Common.{◌≡◌, take}
use Rattle.kb_label.proofs.name_list.NameList.names.Given as goal

abbrev pub invariant-loop-kept : goal.invariant-loop-kept
invariant-loop-kept l = l.names.items ≡ take l.kept-index l.kept-items
