-- What the answers of normalising stand for.
use Rattle.std.specs.Prelude.{◌≡◌, List, false}
use Rattle.kb_term.specs.Tree.{Tree}
use Rattle.kb_term.specs.Rule.{Rule}
use Rattle.kb_term.specs.View.{tree_of}
use Rattle.kb_rewrite.specs.NormalForm.{HasNoRedex, StrategyStep, Normalised, form, long, large}
use Rattle.kb_rewrite.specs.declared.normalising.Normal.{Normal}
use Rattle.kb_rewrite.specs.declared.normalising.Normal.TheVariants.{Form, Long, Large}
use Rattle.kb_rewrite.specs.declared.normalising.Tried.{Tried}
use Rattle.kb_rewrite.specs.declared.normalising.Tried.TheVariants.{Rewritten, Same}

-- what the value of the program says, with the tree that its term is
abbrev pub normalised : Normal → Normalised
normalised (Form u n) = form (tree_of u) n
normalised (Long n) = long n
normalised (Large l) = large l

-- what one step of the strategy makes of t; or t itself, where it has no redex
abbrev pub IsTried : List Rule → Tree → Tried → Type 0
IsTried rules t (Rewritten u) = StrategyStep rules t (tree_of u)
IsTried rules t (Same u) = HasNoRedex rules false t × (tree_of u ≡ t)
