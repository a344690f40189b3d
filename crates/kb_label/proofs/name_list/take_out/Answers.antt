use Rattle.std.proofs.Common.{List, ap, sym, ◌∙◌}
use Rattle.kb_label.specs.Names.{Name, has}
use Rattle.kb_label.proofs.Ordered.{minus-absent}
use Rattle.kb_label.proofs.name_list.take_out.Goals as goal

pub returns-in_default-clause-items : goal.returns-in_default-clause-items
returns-in_default-clause-items c =
    let p = c.args.name.now in
    let l = c.args.names.now.items in
    sym (minus-absent p l (sym (c.in_default.ensures.found ∙ ap (λ (m : List Name). has m p) c.as_slice.ensures.value)))
