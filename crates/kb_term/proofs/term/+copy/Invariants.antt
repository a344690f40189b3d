use Rattle.std.proofs.Common.{◌≡◌}
use Rattle.std.specs.Prelude.{map, take}
use Rattle.kb_term.specs.View.{tree_of}
use Rattle.kb_term.specs.declared.term.Term.TheVariants.{App}
use Rattle.kb_term.proofs.term.+copy.Given as goal

-- the arguments so far are copied
abbrev pub invariant-loop-argument : goal.invariant-loop-argument
invariant-loop-argument l =
    (l.items.items ≡ take l.argument-index l.argument-items)
    × (l.t ≡ App l.f (map tree_of l.argument-items))
