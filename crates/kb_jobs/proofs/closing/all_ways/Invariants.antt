use Rattle.std.proofs.Common.{take, map, flat_map}
use Rattle.mkb_model.specs.Proposals.{NamedRule}
use Rattle.kb_jobs.specs.Rules.{listed}
use Rattle.kb_jobs.specs.Groups.{AreGroupsOf}
use Rattle.kb_jobs.proofs.closing.all_ways.Given as goal

-- the groups of the rules so far as outer
abbrev pub invariant-loop-i : goal.invariant-loop-i
invariant-loop-i l = AreGroupsOf (flat_map (λ (x : NamedRule). map (λ y. (x, y)) (listed l.rules)) (take l.i (listed l.rules))) l.groups.items
