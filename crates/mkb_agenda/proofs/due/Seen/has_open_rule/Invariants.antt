use Rattle.std.proofs.Common.{◌≡◌, ◌-◌, length, take}
use Rattle.std.specs.List.{list_any}
use Rattle.mkb_agenda.specs.Open.{is_open_to}
use Rattle.mkb_agenda.proofs.due.Seen.has_open_rule.Given as goal

-- the node is open to no rule of those at the end that were asked about
abbrev pub invariant-loop-i : goal.invariant-loop-i
invariant-loop-i l = list_any (is_open_to l.node.known.now.board l.node.roles l.node.known.now.node.0) l.self.rules.now ≡ list_any (is_open_to l.node.known.now.board l.node.roles l.node.known.now.node.0) (take (length l.self.rules.now - l.i) l.self.rules.now)
