-- What the checker says of an answer.
use Rattle.std.specs.Prelude.{ℕ, zero, suc, ◌≡◌, ◌+◌, ◌≤◌, ◌⊎◌, ◌==◌, List, [], ◌∷◌, ◌++◌, length, All, Some, Ok, Err, slice_get}
use Rattle.kb_term.specs.Tree.{Tree}
use Rattle.kb_term.specs.Rule.{Rule}
use Rattle.kb_term.specs.declared.limit.Limit.{Limit}
use Rattle.kb_rewrite.specs.NormalForm.{NormalisesTo, form, long, large}
use Rattle.kb_overlap.specs.Overlap.{Overlap, IsOverlapList}
use Rattle.kb_overlap.specs.Trace.{IsRightTrace}
use Rattle.kb_laws.specs.Overlaps.{HaveOneNormalForm, OverlapsClose}
use Rattle.kb_trace.specs.Steps.{IsFirstBadStep}
use Rattle.kb_checker.specs.Answers.{Answer, rules_of, IsTraced, IsOriented}
use Rattle.kb_checker.specs.declared.joining.Failure.{Failure}
use Rattle.kb_checker.specs.declared.joining.Failure.TheVariants.{Large, Steps, Different}
use Rattle.kb_checker.specs.declared.closing.Row.{Row}
use Rattle.kb_checker.specs.declared.closing.Row.TheVariants.{Closed, Open}
use Rattle.kb_checker.specs.declared.verdict.Reject.{Reject}
use Rattle.kb_checker.specs.declared.verdict.Reject.TheVariants.{BadStep, Untraced, UntracedConstraint, ConstraintNotOriented, NotOriented, PairLarge, PairSteps, NotJoined, EquationLarge, EquationSteps, NotProved}
use Rattle.kb_checker.specs.declared.verdict.Checked.{Checked}
use Rattle.kb_checker.specs.declared.verdict.Checked.TheVariants.{Accepted, Rejected}

-- the member with the number n, from 1, fails, and those before it are good
abbrev pub FailsFirst : {X : Type 0} → (X → Type 0) → (X → Type 0) → List X → ℕ → Type 0
FailsFirst {X} IsGood Fails xs n = (before : List X) × (x : X) × (after : List X) × (xs ≡ before ++ x ∷ after) × (n ≡ length before + 1) × All IsGood before × Fails x

-- ---- two terms

-- normalising the term passes a limit; it passes none and takes too many steps; it has a normal form
abbrev pub IsLarge : List Rule → Tree → Type 0
IsLarge rules t = (limit : Limit) × NormalisesTo rules t (large limit)

abbrev pub IsLong : List Rule → Tree → Type 0
IsLong rules t = (n : ℕ) × NormalisesTo rules t (long n)

abbrev pub HasForm : List Rule → Tree → Type 0
HasForm rules t = (u : Tree) × (n : ℕ) × NormalisesTo rules t (form u n)

-- why two terms don't normalise to one: the first of them that has no normal form says so, else the normal forms differ
abbrev pub FailToJoin : List Rule → Tree → Tree → Failure → Type 0
FailToJoin rules s t Large = IsLarge rules s ⊎ (HasForm rules s × IsLarge rules t)
FailToJoin rules s t Steps = IsLong rules s ⊎ (HasForm rules s × IsLong rules t)
FailToJoin rules s t Different = (u v : Tree) × (m n : ℕ) × NormalisesTo rules s (form u m) × NormalisesTo rules t (form v n) × ¬ (u ≡ v)

-- ---- overlaps

-- the overlap passes no limit, and its terms normalise to one
abbrev pub Closes : List Rule → Overlap → Type 0
Closes rules o = (s t : Tree) × (o.sides ≡ Ok (s, t)) × HaveOneNormalForm rules s t

-- why it doesn't: the limit that the overlap itself passes comes first
abbrev pub FailsToClose : List Rule → Failure → Overlap → Type 0
FailsToClose rules failure o = ((limit : Limit) × (o.sides ≡ Err limit) × (failure ≡ Large)) ⊎ ((s t : Tree) × (o.sides ≡ Ok (s, t)) × FailToJoin rules s t failure)

-- all overlaps of the outer rule i with the inner rule j, in order
abbrev pub AreOverlapsOf : List Rule → ℕ → ℕ → List Overlap → Type 0
AreOverlapsOf rules i j os = (outer inner : Rule) × (slice_get rules i ≡ Some outer) × (slice_get rules j ≡ Some inner) × IsOverlapList outer inner (i == j) os

-- those of the outer rule i with the inner rules below j
abbrev pub AreInnerOverlaps : List Rule → ℕ → ℕ → List Overlap → Type 0
AreInnerOverlaps rules i zero os = os ≡ []
AreInnerOverlaps rules i (suc j) os = (before more : List Overlap) × (os ≡ before ++ more) × AreInnerOverlaps rules i j before × AreOverlapsOf rules i j more

-- those of the outer rules below i with every rule
abbrev pub AreOuterOverlaps : List Rule → ℕ → List Overlap → Type 0
AreOuterOverlaps rules zero os = os ≡ []
AreOuterOverlaps rules (suc i) os = (before more : List Overlap) × (os ≡ before ++ more) × AreOuterOverlaps rules i before × AreInnerOverlaps rules i (length rules) more

-- what a look at the overlaps of one outer rule says: how many overlaps there are so far, which all close; or the first that doesn't, and why
abbrev pub IsRowAnswer : List Rule → ℕ → ℕ → Row → Type 0
IsRowAnswer rules i start (Closed count) = (os : List Overlap) × AreInnerOverlaps rules i (length rules) os × All (Closes rules) os × (count ≡ start + length os) × (count ≤ start + 2097152)
IsRowAnswer rules i start (Open failure n) = (j : ℕ) × (os : List Overlap) × (m : ℕ) × AreInnerOverlaps rules i j os × FailsFirst (Closes rules) (FailsToClose rules failure) os m × (n ≡ start + m)

-- the overlaps of the rules, outer rule by outer rule and inner rule by inner rule, as far as some two rules; the one with the number n is the first that doesn't close, for this reason
abbrev pub FirstUnclosed : List Rule → Failure → ℕ → Type 0
FirstUnclosed rules failure n =
    (i j : ℕ) × (before more : List Overlap) × AreOuterOverlaps rules i before × AreInnerOverlaps rules i j more × FailsFirst (Closes rules) (FailsToClose rules failure) (before ++ more) n

-- ---- equations

abbrev pub IsProved : List Rule → Tree × Tree → Type 0
IsProved rules e = HaveOneNormalForm rules e.0 e.1

abbrev pub FailsToProve : List Rule → Failure → Tree × Tree → Type 0
FailsToProve rules failure e = FailToJoin rules e.0 e.1 failure

-- the equation with the number n, from 1, is the first that isn't proved, for this reason
abbrev pub FirstUnproved : List Rule → Failure → List (Tree × Tree) → ℕ → Type 0
FirstUnproved rules failure equations n = FailsFirst (IsProved rules) (FailsToProve rules failure) equations n

-- ---- the whole

-- each trace step is right
abbrev pub PassesSteps : Answer → Type 0
PassesSteps a = IsRightTrace a.problem.equations a.trace

-- so is each rule's citation
abbrev pub PassesCitations : Answer → Type 0
PassesCitations a = PassesSteps a × All (IsTraced a.trace) a.rules

-- and each constraint's
abbrev pub PassesConstraintCitations : Answer → Type 0
PassesConstraintCitations a = PassesCitations a × All (IsTraced a.trace) a.constraints

-- the certificate orders each constraint too
abbrev pub PassesConstraints : Answer → Type 0
PassesConstraints a = PassesConstraintCitations a × All (IsOriented a.cert) a.constraints

-- and each rule
abbrev pub PassesOrder : Answer → Type 0
PassesOrder a = PassesConstraints a × All (IsOriented a.cert) a.rules

-- each overlap closes too
abbrev pub PassesOverlaps : Answer → Type 0
PassesOverlaps a = PassesOrder a × OverlapsClose (rules_of a.rules)

-- the reasons of overlaps and of equations
abbrev pub pair_reason : Failure → Reject
pair_reason Large = PairLarge
pair_reason Steps = PairSteps
pair_reason Different = NotJoined

abbrev pub equation_reason : Failure → Reject
equation_reason Large = EquationLarge
equation_reason Steps = EquationSteps
equation_reason Different = NotProved

-- n is the number of the first item that fails, which is of the group of the reason, and that is why it fails
abbrev pub IsRejected : Answer → Reject → ℕ → Type 0
IsRejected a BadStep n = IsFirstBadStep a.problem.equations a.trace n
IsRejected a Untraced n = PassesSteps a × FailsFirst (IsTraced a.trace) (λ r. ¬ IsTraced a.trace r) a.rules n
IsRejected a UntracedConstraint n = PassesCitations a × FailsFirst (IsTraced a.trace) (λ r. ¬ IsTraced a.trace r) a.constraints n
IsRejected a ConstraintNotOriented n = PassesConstraintCitations a × FailsFirst (IsOriented a.cert) (λ r. ¬ IsOriented a.cert r) a.constraints n
IsRejected a NotOriented n = PassesConstraints a × FailsFirst (IsOriented a.cert) (λ r. ¬ IsOriented a.cert r) a.rules n
IsRejected a PairLarge n = PassesOrder a × FirstUnclosed (rules_of a.rules) Large n
IsRejected a PairSteps n = PassesOrder a × FirstUnclosed (rules_of a.rules) Steps n
IsRejected a NotJoined n = PassesOrder a × FirstUnclosed (rules_of a.rules) Different n
IsRejected a EquationLarge n = PassesOverlaps a × FirstUnproved (rules_of a.rules) Large a.problem.equations n
IsRejected a EquationSteps n = PassesOverlaps a × FirstUnproved (rules_of a.rules) Steps a.problem.equations n
IsRejected a NotProved n = PassesOverlaps a × FirstUnproved (rules_of a.rules) Different a.problem.equations n

-- no item fails
pub record IsAccepted (a : Answer) : Type 0 where
  pub steps : IsRightTrace a.problem.equations a.trace
  pub citations : All (IsTraced a.trace) a.rules
  pub constraint_citations : All (IsTraced a.trace) a.constraints
  pub constraints : All (IsOriented a.cert) a.constraints
  pub orders : All (IsOriented a.cert) a.rules
  pub overlaps : OverlapsClose (rules_of a.rules)
  pub equations : All (IsProved (rules_of a.rules)) a.problem.equations

-- what the checker answers: the first item that fails, group by group, or that none does
abbrev pub IsVerdict : Answer → Checked → Type 0
IsVerdict a Accepted = IsAccepted a
IsVerdict a (Rejected reason n) = IsRejected a reason n
