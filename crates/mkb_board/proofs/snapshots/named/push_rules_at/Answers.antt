use Rattle.std.proofs.Common.{◌<◌, length, arith}
use Rattle.mkb_board.proofs.Viewed.{rules_more}
use Rattle.mkb_board.proofs.snapshots.named.push_rules_at.Goals as goal

pub loop-i-preserved : goal.loop-i-preserved
loop-i-preserved c =
    let names = c.args.names.now in
    let inside : c.loop-i.i < length names = omega (arith, c.loop-i-test.true, c.loop-i.auto.i-end) in
    record {
      rules = rules_more c.args.state.now names c.loop-i.i (record { node = 0; dir = 0 }) c.in_ok-rule_at.field-0 c.args.rules.now.items c.loop-i.rules.items c.push.new.self.items inside c.in_ok-rule_at.ensures.rule c.loop-i.invariant.rules c.in_ok-push.ensures.items;
      shelf = c.rule_at.ensures.holds;
    }
