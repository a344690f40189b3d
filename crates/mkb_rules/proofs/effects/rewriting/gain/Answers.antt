use Rattle.std.proofs.Common.{refl}
use Rattle.mkb_rules.proofs.Leading.{pair_gained}
use Rattle.mkb_rules.proofs.SamePairs.{node-there}
use Rattle.mkb_rules.proofs.Moving.{there-put, there-rule}
use Rattle.mkb_rules.proofs.effects.rewriting.gain.Goals as goal

pub gains_rule-requires : goal.gains_rule-requires
gains_rule-requires c = node-there _ _ _ c.find_or_add.new.self.now c.in_ok-n.n.0 c.in_ok-n.ensures.ok c.in_ok-n.ensures.node

pub gains_equation-requires : goal.gains_equation-requires
gains_equation-requires c =
    there-rule c.in_ok-n.n.0 _ _ c.find_or_add.new.self.now c.gains_rule.new.self.now c.in_ok-gains_rule.ensures.ok
    (node-there _ _ _ c.find_or_add.new.self.now c.in_ok-n.n.0 c.in_ok-n.ensures.ok c.in_ok-n.ensures.node)

pub gains_equation-requires-2 : goal.gains_equation-requires-2
gains_equation-requires-2 c =
    there-put c.in_ok-n.n.0 c.in_ok-n.n.0 _ _ c.gains_rule.new.self.now c.gains_equation.new.self.now c.in_ok-gains_equation.ensures.ok
    (there-rule c.in_ok-n.n.0 _ _ c.find_or_add.new.self.now c.gains_rule.new.self.now c.in_ok-gains_rule.ensures.ok
    (node-there _ _ _ c.find_or_add.new.self.now c.in_ok-n.n.0 c.in_ok-n.ensures.ok c.in_ok-n.ensures.node))

pub returns-clause-node : goal.returns-clause-node
returns-clause-node c = (
  c.in_ok-n.n,
  refl,
  pair_gained _ _ _ _ _ _ c.in_ok-n.n.0 _ c.find_or_add.new.self.now c.gains_rule.new.self.now c.gains_equation.new.self.now c.gains_equation-2.new.self.now
      c.in_ok-n.ensures.ok c.in_ok-n.ensures.node c.in_ok-gains_rule.ensures.ok c.in_ok-gains_equation.ensures.ok c.in_ok-gains_equation-2.ensures.ok,
)
