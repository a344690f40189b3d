use Rattle.std.proofs.Common.{◌≡◌, ◌∙◌, sym, ap, arith, true}
use Rattle.std.proofs.lemmas.List.{drop_all}
use Rattle.kb_label.specs.Names.{is_empty, minus}
use Rattle.kb_label.proofs.Compared.{joined_all}
use Rattle.kb_label.proofs.name_list.NameList.includes.Goals as goal
use Rattle.kb_label.proofs.name_list.NameList.includes.Goals.{After-loop-i}

none_missing : (c : After-loop-i) → is_empty (minus c.args.other.now c.args.self.now) ≡ true
none_missing c = sym c.loop-i.invariant ∙ ap (λ l. is_empty (minus l c.args.self.now)) (drop_all c.loop-i.i c.other.inside.names.items (omega (arith, c.loop-i-test.false, c.len-i-end.ensures)))

pub returns-clause-same : goal.returns-clause-same
returns-clause-same c = λ t. joined_all c.args.self.now c.args.other.now (rw (← c.self.view_is) c.self.invariant) (rw (← c.other.view_is) c.other.invariant) (none_missing c)
