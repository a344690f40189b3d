-- The sides of a rule, whoever holds them.
use Rattle.kb_term.specs.Rule.{Rule}
use Rattle.kb_term.specs.View.{tree_of}
use Rattle.kb_term.specs.declared.rule.Sides.{Sides}
use Rattle.kb_term.specs.declared.rule.Held.{Held}
use Rattle.kb_term.specs.declared.rule.Held.TheVariants.{Alone, Together}

-- the sides
abbrev pub sides_in : Held → Sides
sides_in (Alone s) = s
sides_in (Together s) = s.value

-- the rule between them
abbrev pub rule_in : Held → Rule
rule_in h = record { left = tree_of (sides_in h).left; right = tree_of (sides_in h).right }
