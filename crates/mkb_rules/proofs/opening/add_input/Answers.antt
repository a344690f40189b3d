use Rattle.std.proofs.Common.{length, ap, arith}
use Rattle.kb_term.specs.declared.origin.Origin.TheVariants.{Input}
use Rattle.mkb_rules.proofs.SamePairs.{node-there}
use Rattle.mkb_rules.proofs.Relabelled.{length_equation, one_more}
use Rattle.mkb_rules.proofs.opening.add_input.Goals as goal

pub gains_equation-requires : goal.gains_equation-requires
gains_equation-requires c =
    node-there c.in-Some.pair (Input c.args.number) c.args.nodes.now.now c.find_or_add.new.self.now c.in-Ok.n.0 c.in-Ok.ensures.ok c.in-Ok.ensures.node

pub returns-in_ok-gains_equation-in-Ok-clause-few : goal.returns-in_ok-gains_equation-in-Ok-clause-few
returns-in_ok-gains_equation-in-Ok-clause-few c =
    omega (
      arith,
      ap length c.in_ok-gains_equation-in-Ok.ensures.ok,
      length_equation c.in-Ok.n.0 c.args.names.now c.find_or_add.new.self.now,
      ap length c.in-Ok.ensures.ok,
      one_more c.in-Some.pair (Input c.args.number) c.args.nodes.now.now,
    )
