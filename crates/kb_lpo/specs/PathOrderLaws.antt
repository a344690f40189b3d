-- Laws of the path order and of first precedences.
use Rattle.std.specs.Prelude.{ℕ, List, ◌≡◌, ◌⊎◌, Some, None, All, Contains}
use Rattle.kb_term.specs.Tree.{Tree}
use Rattle.kb_term.specs.Substitution.{instance}
use Rattle.kb_term.specs.Position.{replace_at}
use Rattle.kb_term.specs.Rule.{Rule, IsRule}
use Rattle.kb_term.specs.Signature.{Signature, IsRuleOver}
use Rattle.kb_term.specs.Proving.{Step, IsTerminating}
use Rattle.kb_term.specs.First.{IsFirst}
use Rattle.kb_lpo.specs.PathOrder.{LpoGreater}
use Rattle.kb_lpo.specs.Precedences.{precedences, LpoOrients, IsLowerBound}

-- what is above what is above t is above t
abbrev pub IsTransitive : (Tree → Tree → Type 0) → Type 0
IsTransitive R = (s t u : Tree) → R s t → R t u → R s u

-- no term is above itself
abbrev pub IsIrreflexive : (Tree → Tree → Type 0) → Type 0
IsIrreflexive R = (s : Tree) → ¬ R s s

-- of any two terms, the first is above the second or it is not
abbrev pub IsDecided : (Tree → Tree → Type 0) → Type 0
IsDecided R = (s t : Tree) → R s t ⊎ (R s t → ⊥)

-- instances under one substitution stay in order
abbrev pub IsClosedUnderSubstitutions : (Tree → Tree → Type 0) → Type 0
IsClosedUnderSubstitutions R = (m : ℕ → Tree) (s t : Tree) → R s t → R (instance m s) (instance m t)

-- terms stay in order when both are put at one position of one term
abbrev pub IsClosedUnderContexts : (Tree → Tree → Type 0) → Type 0
IsClosedUnderContexts R = (u : Tree) (p : List ℕ) (s t v w : Tree) → R s t → replace_at u p s ≡ Some v → replace_at u p t ≡ Some w → R v w

-- what rules rewrite becomes smaller, where the path order orients them
abbrev pub RewritingDescends : List ℕ → Type 0
RewritingDescends prec = (rules : List Rule) → LpoOrients prec rules → (s t : Tree) → Step rules s t → LpoGreater prec s t

-- what the path order orients is a rule
abbrev pub OrientsRulesOnly : List ℕ → Type 0
OrientsRulesOnly prec = (rule : Rule) → LpoGreater prec rule.left rule.right → IsRule rule

-- rules over the signature that the path order orients halt on each well-formed term, with a bound on the steps of every chain
abbrev pub HaltsWhatItOrients : List ℕ → Type 0
HaltsWhatItOrients prec = (signature : Signature) (rules : List Rule) → All (IsRuleOver signature) rules → LpoOrients prec rules → IsTerminating signature rules

-- the first precedence for some of the rules is a lower bound of the search for all of them
abbrev pub FirstBoundsMore : ℕ → Type 0
FirstBoundsMore count = (some rules : List Rule) (start : List ℕ) → All (Contains rules) some → IsFirst (λ prec. LpoOrients prec some) (precedences count) (Some start) → IsLowerBound count rules start

-- where no precedence orients some of the rules, none orients all
abbrev pub NoneForMore : ℕ → Type 0
NoneForMore count = (some rules : List Rule) → All (Contains rules) some → IsFirst (λ prec. LpoOrients prec some) (precedences count) None → IsFirst (λ prec. LpoOrients prec rules) (precedences count) None
