use Rattle.rules_in_use.proofs.Indexed.{on_ok, put_both, sides_kept}
use Rattle.rules_in_use.proofs.in_use.RulesInUse.look_at_node.Goals as goal

pub returns : goal.returns
returns c = on_ok c.look_at-2.result (λ second sides.
    let first = c.in_ok-look_at.ensures sides in
    put_both c.args.state.now c.args.n.0 c.args.self.now c.look_at.new.self c.look_at-2.new.self first (second (sides_kept c.args.state.now _ c.args.self.now c.look_at.new.self sides first))) c.look_at-2.ensures
