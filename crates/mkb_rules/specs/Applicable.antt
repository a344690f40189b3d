-- Which proposals can be applied.
use Rattle.kb_term.specs.View.{tree_of}
use Rattle.mkb_model.specs.Plain.{Plain}
use Rattle.mkb_model.specs.declared.proposed.Proposed.{Proposed}
use Rattle.mkb_model.specs.declared.proposed.Proposed.TheVariants.{Rewrite}
use Rattle.mkb_rules.specs.Named.{HasNamed}
use Rattle.mkb_rules.specs.Rewriting.{HasFewVariables}

-- the result of a rewriting has few enough variables beside the other side
abbrev pub HasFewVariablesAfter : Plain → Proposed → Type 0
HasFewVariablesAfter b (Rewrite n w at a found t) = HasFewVariables b n.0 w (tree_of t)
HasFewVariablesAfter b x = Unit {0}

-- what the proposal names is there, and what a rewriting results in has few enough variables
abbrev pub IsApplicable : Plain → Proposed → Type 0
IsApplicable b x = HasNamed b x × HasFewVariablesAfter b x
