-- What is kept of what jobs read: rules under their names, and pairs under the numbers of their nodes.
use Rattle.std.specs.Prelude.{ℕ, ◌+◌, ◌*◌, ◌≡◌, ◌≤◌, ◌⊎◌, List, [], ◌∷◌, slice_get, Option, Some, IfSome, ⊤}
use Rattle.kb_term.specs.Pair.{Pair}
use Rattle.kb_term.specs.Rule.{Rule}
use Rattle.kb_term.specs.declared.origin.RuleRef.{RuleRef}
use Rattle.mkb_model.specs.Plain.{Plain, pair_at, rule_at}
use Rattle.mkb_board.specs.declared.shelf.Shelf.{Shelf}

-- the place of a rule: those of a node stand side by side
abbrev pub place_of : RuleRef → ℕ
place_of a = 2 * a.node + a.dir

-- each name names the rule at its place on the board, and there are as many of both
abbrev pub AreRulesAt : Plain → List RuleRef → List Rule → Type 0
AreRulesAt b [] [] = ⊤
AreRulesAt b [] (r ∷ rules) = ⊥
AreRulesAt b (a ∷ names) [] = ⊥
AreRulesAt b (a ∷ names) (r ∷ rules) = (rule_at b a ≡ Some r) × AreRulesAt b names rules

-- each value in the new list was there in the old one, or is this one at this place
abbrev pub IsPutAt : {X : Type 0} → ℕ → X → List (Option X) → List (Option X) → Type 0
IsPutAt {X} place value old new = (i : ℕ) (x : X) → slice_get new i ≡ Some (Some x) → (slice_get old i ≡ Some (Some x)) ⊎ ((i ≡ place) × (value ≡ x))

-- each rule that is kept is the one that its name names on the board, and so are those of the last list; each pair is that of its node
pub record HoldsRead (b : Plain) (k : Shelf) : Type 0 where
  pub each : (a : RuleRef) (r : Rule) → a.dir ≤ 1 → slice_get k.rules.items (place_of a) ≡ Some (Some r) → rule_at b a ≡ Some r
  pub last : IfSome k.last (λ l. AreRulesAt b l.names.items l.rules)
  pub pairs : (n : ℕ) (q : Pair) → slice_get k.pairs.items n ≡ Some (Some q) → pair_at b n ≡ Some q
