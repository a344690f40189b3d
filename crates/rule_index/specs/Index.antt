-- What the index holds.
use Rattle.std.specs.Prelude.{ℕ, ◌≡◌, ◌⊎◌, ◌↔◌, List}
use Rattle.kb_term.specs.Tree.{Tree}
use Rattle.kb_match.specs.Fitting.{Fits}
use Rattle.rule_index.specs.Agreeing.{Agree}
use Rattle.rule_index.specs.declared.mark.Mark.{Mark}
use Rattle.rule_index.specs.Marks.{marks_of}
use Rattle.rule_index.specs.Branches.{HasEntry}
use Rattle.rule_index.specs.declared.index.RuleIndex.{RuleIndex}

-- the index holds under the key a left side of these marks
abbrev pub Holds : RuleIndex → ℕ → List Mark → Type 0
Holds index key marks = HasEntry index.root key marks

-- some left side is held under the key
abbrev pub IsThere : RuleIndex → ℕ → Type 0
IsThere index key = (marks : List Mark) × Holds index key marks

-- the left side comes in under the key, and what was there stays
abbrev pub IsWith : ℕ → Tree → RuleIndex → RuleIndex → Type 0
IsWith key left old new = (k : ℕ) (marks : List Mark) → Holds new k marks ↔ (((k ≡ key) × (marks ≡ marks_of left)) ⊎ Holds old k marks)

-- nothing is left under the key, and what was there under another stays
abbrev pub IsWithout : ℕ → RuleIndex → RuleIndex → Type 0
IsWithout key old new = (k : ℕ) (marks : List Mark) → Holds new k marks ↔ (Holds old k marks × ¬ (k ≡ key))

-- some left side that is held under the key fits the term
abbrev pub IsCandidate : RuleIndex → Tree → ℕ → Type 0
IsCandidate index t key = (left : Tree) × Holds index key (marks_of left) × Fits left t

-- some left side that is held under the key agrees with the term
abbrev pub MayOverlap : RuleIndex → Tree → ℕ → Type 0
MayOverlap index t key = (left : Tree) × Holds index key (marks_of left) × Agree left t
