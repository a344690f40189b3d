use Rattle.std.proofs.Common.{◌≡◌, ◌∙◌, ap, rules}
use Rattle.std.specs.Prelude.{insert}
use Rattle.kb_label.specs.Names.{add}
use Rattle.kb_label.proofs.Ordered.{ordered-add}
use Rattle.kb_label.proofs.name_list.NameList.add_kept.Goals as goal

pub invariant_of-self-in-Err : goal.invariant_of-self-in-Err
invariant_of-self-in-Err c =
    let same : c.in_ok-kept-in-Err.kept ≡ c.args.name.now = search rules in
    let added : insert c.args.self.now c.in-Err.place c.in_ok-kept-in-Err.kept ≡ add c.args.name.now c.args.self.now = ap (insert c.args.self.now c.in-Err.place) same ∙ c.in-Err.ensures.place.absent in
    rw (c.in_ok-insert-in-Err.ensures.items, c.self.view_is, added) (ordered-add c.args.name.now c.args.self.now (rw (← c.self.view_is) c.self.invariant))
