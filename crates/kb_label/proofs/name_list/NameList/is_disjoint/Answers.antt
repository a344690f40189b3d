use Rattle.std.proofs.Common.{◌≡◌, ◌∙◌, sym, ap, arith, true}
use Rattle.std.proofs.lemmas.List.{drop_all}
use Rattle.kb_label.specs.Names.{is_empty, meet}
use Rattle.kb_label.proofs.Compared.{left_all}
use Rattle.kb_label.proofs.name_list.NameList.is_disjoint.Goals as goal
use Rattle.kb_label.proofs.name_list.NameList.is_disjoint.Goals.{After-loop-i}

none_in_both : (c : After-loop-i) → is_empty (meet c.args.self.now c.args.other.now) ≡ true
none_in_both c = sym c.loop-i.invariant ∙ ap (λ l. is_empty (meet l c.args.other.now)) (drop_all c.loop-i.i c.self.inside.names.items (omega (arith, c.loop-i-test.false, c.len-i-end.ensures)))

pub returns-clause-same : goal.returns-clause-same
returns-clause-same c = λ t. left_all c.args.other.now c.args.self.now (rw (← c.other.view_is) c.other.invariant) (none_in_both c)
