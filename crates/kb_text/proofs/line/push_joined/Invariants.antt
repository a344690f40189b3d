use Rattle.std.proofs.Common.{◌≡◌, ◌++◌}
use Rattle.std.specs.Prelude.{map, take}
use Rattle.std.specs.List.{join_with_byte}
use Rattle.kb_text.proofs.line.push_joined.Given as goal

-- the fields so far were added
abbrev pub invariant-loop-i : goal.invariant-loop-i
invariant-loop-i l = l.out.items ≡ l.fn.out.items ++ join_with_byte l.separator (map (λ f. f.items) (take l.i l.fields))
