use Rattle.std.proofs.Common.{ap, sym, ◌∙◌}
use Rattle.kb_label.specs.Names.{has}
use Rattle.kb_label.proofs.Ordered.{minus-absent}
use Rattle.kb_label.proofs.list_labels.take_out.Goals as goal

pub returns-in_default-clause-items : goal.returns-in_default-clause-items
returns-in_default-clause-items c =
    let p = c.args.name.now in
    let l = c.args.names.now.items in
    sym (minus-absent p l (sym (c.in_default.ensures.found ∙ ap (λ m. has m p) c.as_slice.ensures.value)))
