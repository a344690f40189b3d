-- What branches have.
use Rattle.std.specs.Prelude.{ℕ, ◌≡◌, ◌⊎◌, ◌↔◌, List, [], ◌∷◌}
use Rattle.rule_index.specs.declared.mark.Mark.{Mark}
use Rattle.rule_index.specs.declared.branch.Branch.{Branch, End, Key', Node'}

-- the branch has the marks with the key
abbrev pub HasEntry : Branch → ℕ → List Mark → Type 0
HasEntry End key marks = ⊥
HasEntry (Key' stored p rest) key marks = ((key ≡ stored) × (marks ≡ [])) ⊎ HasEntry rest key marks
HasEntry (Node' mark p inner q rest) key marks = ((others : List Mark) × (marks ≡ mark ∷ others) × HasEntry inner key others) ⊎ HasEntry rest key marks

-- some marks are there with the key
abbrev pub IsKeyThere : Branch → ℕ → Type 0
IsKeyThere branch key = (marks : List Mark) × HasEntry branch key marks

-- the branch has the marks with the key, and nothing else
abbrev pub IsChain : List Mark → ℕ → Branch → Type 0
IsChain marks key branch = (k : ℕ) (ms : List Mark) → HasEntry branch k ms ↔ ((k ≡ key) × (ms ≡ marks))

-- the marks come in with the key, and what was there stays
abbrev pub IsAdded : List Mark → ℕ → Branch → Branch → Type 0
IsAdded marks key old new = (k : ℕ) (ms : List Mark) → HasEntry new k ms ↔ (((k ≡ key) × (ms ≡ marks)) ⊎ HasEntry old k ms)

-- what was there stays, but for the marks with the key
abbrev pub IsRemoved : ℕ → Branch → Branch → Type 0
IsRemoved key old new = (k : ℕ) (ms : List Mark) → HasEntry new k ms ↔ (HasEntry old k ms × ¬ (k ≡ key))

-- nothing comes in and nothing goes
abbrev pub IsSame : Branch → Branch → Type 0
IsSame old new = (k : ℕ) (ms : List Mark) → HasEntry new k ms ↔ HasEntry old k ms
