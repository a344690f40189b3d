use Rattle.std.proofs.Common.{List, ◌∙◌, sym, ap, subst, length, arith}
use Rattle.std.proofs.lemmas.List.{take-map}
use Rattle.mkb_model.specs.Plain.{PlainNode}
use Rattle.mkb_rules.specs.Parts.{plain_node, plain_nodes}
use Rattle.mkb_rules.specs.Constrained.{is_free_node, AreConstraintsMarked}
use Rattle.mkb_rules.specs.Sizes.{is_dead_node, AreMarked}
use Rattle.mkb_rules.proofs.Paying.{marked_first}
use Rattle.mkb_rules.proofs.tracked.Tracked.truncate.Goals as goal

pub invariant_of-self : goal.invariant_of-self
invariant_of-self c = (
  subst {A = List PlainNode} (λ xs. AreMarked xs c.self.inside.used)
      (take-map plain_node c.args.len c.self.inside.table ∙ ap plain_nodes (sym c.truncate.ensures))
      (marked_first is_dead_node (plain_nodes c.self.inside.table) c.self.inside.used c.args.len c.self.invariant.0),
  λ k d h. absurd (omega (arith, h, ap length c.clear.ensures.items)),
  subst {A = List PlainNode} (λ xs. AreConstraintsMarked xs c.self.inside.constrained)
      (take-map plain_node c.args.len c.self.inside.table ∙ ap plain_nodes (sym c.truncate.ensures))
      (marked_first is_free_node (plain_nodes c.self.inside.table) c.self.inside.constrained c.args.len c.self.invariant.2),
)
