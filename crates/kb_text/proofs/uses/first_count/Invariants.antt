use Rattle.std.proofs.Common.{◌≡◌, drop}
use Rattle.std.specs.Prelude.{map}
use Rattle.kb_text.specs.Problems.{arity_in}
use Rattle.kb_text.proofs.uses.first_count.Given as goal

-- the first use is among those that are left
abbrev pub invariant-loop-usage : goal.invariant-loop-usage
invariant-loop-usage l = arity_in (map (λ u. (u.name.items, u.count)) l.uses) l.name ≡ arity_in (map (λ u. (u.name.items, u.count)) (drop l.usage-index l.uses)) l.name
