use Rattle.std.proofs.Common.{◌≡◌, ◌-◌, length, true, get_or}
use Rattle.kb_linear.specs.Numbers.{shape_of, low_of}
use Rattle.kb_linear.proofs.Searching.{IsTrying}
use Rattle.kb_linear.proofs.search.+search.Given as goal

abbrev pub decreases-search : goal.decreases-search
decreases-search l = length l.bounds.now.least.items - l.k

-- what is tried so far doesn't orient the rules, and only the first value can be that of start
abbrev pub invariant-loop-value : goal.invariant-loop-value
invariant-loop-value l =
    IsTrying l.rules (shape_of (low_of l.fn.space)) l.bounds l.fn.space l.space l.k l.value
    × (l.tight ≡ true → (l.is_tight ≡ true) × (l.value ≡ get_or l.bounds.start.items l.k 0))
