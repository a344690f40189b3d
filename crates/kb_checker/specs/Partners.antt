-- Rules that may overlap.
use Rattle.std.specs.Prelude.{ℕ, ◌<◌, ◌≡◌, List, Contains, Some, slice_get}
use Rattle.kb_term.specs.Tree.{Tree}
use Rattle.kb_term.specs.Position.{subtree_at, function_positions_of}
use Rattle.kb_term.specs.Rule.{Rule}
use Rattle.rule_index.specs.declared.mark.Mark.{Mark}
use Rattle.rule_index.specs.declared.index.RuleIndex.{RuleIndex}
use Rattle.rule_index.specs.Marks.{marks_of}
use Rattle.rule_index.specs.Index.{Holds, MayOverlap}

-- the index holds the left side of each rule below n under the number of the rule, and no other key
pub record HoldsLeftSides (n : ℕ) (rules : List Rule) (index : RuleIndex) : Type 0 where
  pub below : (key : ℕ) (marks : List Mark) → Holds index key marks → key < n
  pub held : (i : ℕ) (rule : Rule) → i < n → slice_get rules i ≡ Some rule → Holds index i (marks_of rule.left)

-- at one of the positions, a left side that is held under the key may overlap
abbrev pub IsPartnerAt : RuleIndex → Tree → List (List ℕ) → ℕ → Type 0
IsPartnerAt index left ps key = (p : List ℕ) × (u : Tree) × Contains ps p × (subtree_at left p ≡ Some u) × MayOverlap index u key

-- it may where no variable stands
abbrev pub IsPartner : RuleIndex → Tree → ℕ → Type 0
IsPartner index left key = IsPartnerAt index left (function_positions_of left) key
