use Rattle.std.proofs.Common.{sym}
use Rattle.kb_label.proofs.Searched.{between-absent}
use Rattle.mkb_rules.proofs.sleepers.Sleepers.has_from.Goals as goal

pub returns-then-are_after : goal.returns-then-are_after
returns-then-are_after c = sym (between-absent c.args.self.now c.args.p.now c.args.place.now (c.are_before.ensures c.if-are_before.true) (c.are_after.ensures c.if-are_after.true))
