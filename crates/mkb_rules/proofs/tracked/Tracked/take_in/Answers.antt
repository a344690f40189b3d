use Rattle.std.proofs.Common.{List, sym, subst}
use Rattle.std.specs.Prelude.{All}
use Rattle.kb_label.specs.Names.{Name}
use Rattle.kb_node.specs.Labelled.{Node}
use Rattle.mkb_rules.specs.Accounts.{IsAccountOf}
use Rattle.mkb_rules.specs.Parts.{plain_nodes}
use Rattle.mkb_rules.proofs.tracked.Tracked.take_in.Goals as goal

pub invariant_of-self : goal.invariant_of-self
invariant_of-self c = (
  c.self.invariant.0,
  c.put_all_in.ensures (plain_nodes c.self.inside.table) c.self.invariant.1
      (subst {A = List (Node (List Name))} (λ t. All (IsAccountOf (plain_nodes t)) c.args.others.items) (sym c.self.view_is) c.requires),
  c.self.invariant.2,
)
