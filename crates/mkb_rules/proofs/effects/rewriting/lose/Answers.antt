use Rattle.mkb_rules.proofs.Moving.{there-put}
use Rattle.mkb_rules.proofs.effects.rewriting.lose.Goals as goal

pub loses-requires-2 : goal.loses-requires-2
loses-requires-2 c = there-put c.args.n.0 c.args.n.0 _ _ c.args.nodes.now.now c.loses.new.self.now c.in_ok-loses.ensures.ok c.requires

pub loses-requires-3 : goal.loses-requires-3
loses-requires-3 c = there-put c.args.n.0 c.args.n.0 _ _ c.loses.new.self.now c.loses-2.new.self.now c.in_ok-loses-2.ensures.ok (there-put c.args.n.0 c.args.n.0 _ _ c.args.nodes.now.now c.loses.new.self.now c.in_ok-loses.ensures.ok c.requires)
