use Rattle.std.proofs.Common.{List, ap, sym, ◌∙◌}
use Rattle.kb_label.specs.Names.{has}
use Rattle.kb_label.proofs.Ordered.{minus-absent}
use Rattle.mkb_board.specs.Working.{processes_in}
use Rattle.mkb_board.specs.declared.working.Placed.{Placed}
use Rattle.mkb_board.proofs.working.take_out.Goals as goal

pub returns-in_default-clause-items : goal.returns-in_default-clause-items
returns-in_default-clause-items c =
    let p = c.args.process.now in
    let l = processes_in c.args.working.now.items in
    sym (minus-absent p l (ap (λ (m : List Placed). has (processes_in m) p) (sym c.as_slice.ensures.value) ∙ c.in_default.ensures.none))
