-- Rules that are found by their fingerprints or by an index of their left sides, and the roots of these.
use Rattle.std.specs.Prelude.{ℕ, ◌≤◌, ◌<◌, ◌≡◌, List, length, All, Some, slice_get}
use Rattle.kb_term.specs.Tree.{Tree}
use Rattle.kb_term.specs.Rule.{Rule}
use Rattle.rule_index.specs.declared.mark.Mark.{Mark}
use Rattle.rule_index.specs.declared.index.RuleIndex.{RuleIndex}
use Rattle.rule_index.specs.Marks.{marks_of}
use Rattle.rule_index.specs.Index.{Holds}
use Rattle.kb_rewrite.specs.declared.system.Lookup.{Lookup}
use Rattle.kb_rewrite.specs.declared.system.Lookup.TheVariants.{Scan, Index}
use Rattle.kb_rewrite.specs.declared.roots.Roots.{Roots}
use Rattle.kb_rewrite.specs.Roots.{IsNoted}
use Rattle.kb_rewrite.specs.Fingerprints.{AreFingerprints}

-- each key is the number of a rule, whose left side has the marks
abbrev pub IsNumbered : List Rule → RuleIndex → Type 0
IsNumbered rules index = (key : ℕ) (marks : List Mark) → Holds index key marks → (rule : Rule) × (slice_get rules key ≡ Some rule) × (marks ≡ marks_of rule.left)

-- the index holds the rule with the number j, whose left side this is
pub record IsHeld (rules : List Rule) (index : RuleIndex) (left : Tree) (j : ℕ) : Type 0 where
  pub rule : Rule
  pub there : slice_get rules j ≡ Some rule
  pub same : rule.left ≡ left
  pub held : Holds index j (marks_of left)

-- a rule in the index has the left side
abbrev pub IsRepeated : List Rule → RuleIndex → Tree → Type 0
IsRepeated rules index left = (j : ℕ) × IsHeld rules index left j

-- keys are numbers of rules, and each left side of the rules below n is held under the number of the first rule that has it
pub record IsIndexOf (n : ℕ) (rules : List Rule) (index : RuleIndex) : Type 0 where
  pub numbered : IsNumbered rules index
  pub below : (key : ℕ) (marks : List Mark) → Holds index key marks → key < n
  pub firsts : (i : ℕ) (rule : Rule) → i < n → slice_get rules i ≡ Some rule → (j : ℕ) × (j ≤ i) × IsHeld rules index rule.left j

-- a scan has fingerprints of left sides; an index finds the first rule of each left side
abbrev pub Finds : List Rule → Lookup → Type 0
Finds rules (Scan prints) = AreFingerprints rules prints.now
Finds rules (Index index) = IsIndexOf (length rules) rules index

-- the rules are found so, and the root of each left side is noted
pub record IsPrepared (rules : List Rule) (lookup : Lookup) (roots : Roots) : Type 0 where
  pub found : Finds rules lookup
  pub noted : All (λ (rule : Rule). IsNoted roots rule.left) rules
