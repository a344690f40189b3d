use Rattle.mkb_rules.proofs.RowKept.{held_whole, rules_whole}
use Rattle.mkb_rules.proofs.state.State.whole_row.Goals as goal

pub returns-then-is_whole-clause-held : goal.returns-then-is_whole-clause-held
returns-then-is_whole-clause-held c = held_whole c.args.self.now c.args.p.now c.in_ok-row.row.now c.in_ok-row.ensures (c.is_whole.ensures c.if-is_whole.true)

pub returns-then-is_whole-clause-rules : goal.returns-then-is_whole-clause-rules
returns-then-is_whole-clause-rules c = rules_whole c.args.self.now c.args.p.now c.in_ok-row.row.now c.in_ok-row.ensures (c.is_whole.ensures c.if-is_whole.true)
