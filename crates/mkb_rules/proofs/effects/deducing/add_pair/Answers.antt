use Rattle.mkb_rules.proofs.SamePairs.{node-there, room-add_one}
use Rattle.mkb_rules.proofs.effects.deducing.add_pair.Goals as goal

pub gains_equation-requires : goal.gains_equation-requires
gains_equation-requires c = node-there _ _ _ c.find_or_add.new.self.now c.in_ok-n.n.0 c.in_ok-n.ensures.ok c.in_ok-n.ensures.node

pub returns-clause-few : goal.returns-clause-few
returns-clause-few c =
    room-add_one c.in_ok-clone-2.field-0 _ c.args.nodes.now.now c.find_or_add.new.self.now c.gains_equation.new.self.now c.in_ok-n.n.0 c.args.names.now c.in_ok-n.ensures.ok c.in_ok-gains_equation.ensures.ok c.requires.few (λ h. let e = c.in_ok-n.ensures.full.1 h in absurd (cc))
