use Rattle.std.proofs.Common.{ℕ, ◌≡◌, ◌<◌}
use Rattle.std.specs.Prelude.{IsTrue}
use Rattle.kb_node.specs.declared.node.LabelKind.{LabelKind}
use Rattle.mkb_model.specs.Plain.{label_at}
use Rattle.mkb_rules.specs.Accounts.{Inherits}
use Rattle.mkb_rules.proofs.Forks.{fork_front}
use Rattle.mkb_rules.proofs.effects.forking.fork_nodes.Given as goal

-- the first nodes are forked
abbrev pub invariant-loop-i : goal.invariant-loop-i
invariant-loop-i l = record {
  now : l.nodes.now ≡ fork_front l.p l.i l.fn.nodes.now;
  before : l.nodes.before ≡ l.fn.nodes.before;
  inherit : IsTrue l.all_inherit → (m : ℕ) → m < l.i → (k : LabelKind) → Inherits l.p (label_at l.fn.nodes.now m k);
}
