-- What is left of a process that failed.
use Rattle.std.specs.Prelude.{ℕ, List, [], ◌≡◌, ◌≢◌, ◌⊎◌, Contains}
use Rattle.std.specs.declared.option.Option.TheVariants.{Some, None}
use Rattle.kb_term.specs.Tree.{Tree}
use Rattle.kb_term.specs.Pair.{Pair}
use Rattle.kb_term.specs.Rule.{Rule}
use Rattle.kb_term.specs.Proving.{RewritesAt}
use Rattle.kb_term.specs.declared.origin.RuleRef.{RuleRef}
use Rattle.kb_overlap.specs.Trace.{side}
use Rattle.kb_label.specs.Names.{Name}
use Rattle.mkb_model.specs.Plain.{Plain, equations_of, rules_of, pair_at, rule_at}
use Rattle.mkb_model.specs.Proposals.{OrientsBy}

-- no order of the run's family orders the constraints of the process and the equation in either direction
abbrev pub IsUnorientable : Plain → Name → ℕ → Type 0
IsUnorientable b p n = OrientsBy b p n 0 None × OrientsBy b p n 1 None

-- no rule of the process rewrites a side of the pair of the node at any position
abbrev pub IsNormalNode : Plain → Name → ℕ → Type 0
IsNormalNode b p n =
    (pair : Pair) (a : RuleRef) (rule : Rule) (w : ℕ) (at : List ℕ) (t : Tree) → pair_at b n ≡ Some pair → Contains (rules_of b p) a → rule_at b a ≡ Some rule → (w ≡ 0) ⊎ (w ≡ 1)
    → ¬ RewritesAt rule at (side pair w) t

-- the process has an equation, and can neither orient nor rewrite any that it has
pub record IsStuck (b : Plain) (p : Name) : Type 0 where
  pub some_equation : equations_of b p ≢ []
  pub unorientable : (n : ℕ) → Contains (equations_of b p) n → IsUnorientable b p n
  pub normal : (n : ℕ) → Contains (equations_of b p) n → IsNormalNode b p n
