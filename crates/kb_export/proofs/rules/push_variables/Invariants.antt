use Rattle.std.proofs.Common.{◌≡◌, ◌∷◌, ◌++◌}
use Rattle.std.specs.Prelude.{flat_map}
use Rattle.std.specs.List.{range_with_len}
use Rattle.kb_text.specs.Terms.{names_of, variable_text}
use Rattle.kb_export.proofs.rules.push_variables.Given as goal

-- so many variables were added
abbrev pub invariant-loop-n : goal.invariant-loop-n
invariant-loop-n l = l.out.items ≡ l.fn.out.items ++ flat_map (λ n. 32 ∷ variable_text (names_of l.signature) n) (range_with_len 0 l.n)
