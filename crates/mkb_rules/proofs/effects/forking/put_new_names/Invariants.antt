use Rattle.std.proofs.Common.{◌≡◌, drop}
use Rattle.mkb_rules.specs.Forking.{with_new_names}
use Rattle.mkb_rules.proofs.effects.forking.put_new_names.Given as goal

-- what is left to put in
abbrev pub invariant-loop-i : goal.invariant-loop-i
invariant-loop-i l = with_new_names l.fn.new.items l.fn.done ≡ with_new_names (drop l.i l.new.items) l.done
