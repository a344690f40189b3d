-- The index of the rules that some process has.
use Rattle.std.specs.Prelude.{ℕ, ◌≡◌, ◌+◌, ◌*◌, ◌<◌, ◌↔◌, List, Bool, false, get_or, IsTrue}
use Rattle.std.specs.declared.option.Option.TheVariants.{Some}
use Rattle.kb_term.specs.Rule.{Rule}
use Rattle.kb_term.specs.declared.origin.RuleRef.{RuleRef}
use Rattle.mkb_model.specs.Plain.{Plain, rule_at}
use Rattle.mkb_moves.specs.Changes.{is_in_use}
use Rattle.rule_index.specs.declared.index.RuleIndex.{RuleIndex}
use Rattle.rule_index.specs.declared.mark.Mark.{Mark}
use Rattle.rule_index.specs.Index.{Holds, IsThere}
use Rattle.rule_index.specs.Marks.{marks_of}

-- the key of a rule
abbrev pub key_of : RuleRef → ℕ
key_of a = 2 * a.node + a.dir

-- the rule is in use, stands under this key, and has a left side of these marks
pub record IsUsedUnder (b : Plain) (key : ℕ) (marks : List Mark) : Type 0 where
  pub name : RuleRef
  pub bit : name.dir < 2
  pub is_key : key ≡ key_of name
  pub used : IsTrue (is_in_use b name)
  pub rule : Rule
  pub named : rule_at b name ≡ Some rule
  pub left : marks ≡ marks_of rule.left

-- the index holds the rules that some process has, each under its key, and no other
abbrev pub IsIndexOf : Plain → RuleIndex → Type 0
IsIndexOf b index = (key : ℕ) (marks : List Mark) → Holds index key marks ↔ IsUsedUnder b key marks

-- the list tells under which keys the index holds anything
abbrev pub TellsKeys : RuleIndex → List Bool → Type 0
TellsKeys index told = (key : ℕ) → IsThere index key ↔ IsTrue (get_or told key false)

-- under the key of the rule the index holds what it should, and else what it did
pub record IsPutRight (b : Plain) (a : RuleRef) (old new : RuleIndex) : Type 0 where
  pub own : (marks : List Mark) → Holds new (key_of a) marks ↔ IsUsedUnder b (key_of a) marks
  pub others : (key : ℕ) (marks : List Mark) → ¬ (key ≡ key_of a) → Holds new key marks ↔ Holds old key marks

-- the same of both rules of the node
pub record IsPutRightAt (b : Plain) (n : ℕ) (old new : RuleIndex) : Type 0 where
  pub own : (d : ℕ) (marks : List Mark) → d < 2 → Holds new (2 * n + d) marks ↔ IsUsedUnder b (2 * n + d) marks
  pub others : (key : ℕ) (marks : List Mark) → ((d : ℕ) → d < 2 → ¬ (key ≡ 2 * n + d)) → Holds new key marks ↔ Holds old key marks

-- what the index holds under the key of a rule is the rule's left side, whether or not the rule is in use
abbrev pub HoldsLeftSides : Plain → RuleIndex → Type 0
HoldsLeftSides b index = (a : RuleRef) (marks : List Mark) → a.dir < 2 → Holds index (key_of a) marks → (rule : Rule) × (rule_at b a ≡ Some rule) × (marks ≡ marks_of rule.left)
