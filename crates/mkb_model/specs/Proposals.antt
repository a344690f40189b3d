-- What each kind of job proposes.
use Rattle.std.specs.Prelude.{ℕ, List, [], ◌∷◌, ◌++◌, map, Bool, if◌then◌else◌, ◌≡◌, ◌≢◌, ◌⊎◌, filter, is_none, Contains, option_map, option_to_list, IsTrue}
use Rattle.std.specs.Ordering.{ordering_then, nat_cmp}
use Rattle.std.specs.List.{filter_map, flat_map}
use Rattle.std.specs.declared.cmp.Ordering.{Ordering}
use Rattle.std.specs.declared.cmp.Ordering.TheVariants.{Greater}
use Rattle.std.specs.declared.option.Option.{Option}
use Rattle.std.specs.declared.result.Result.{Result}
use Rattle.std.specs.declared.result.Result.TheVariants.{Ok, Err}
use Rattle.std.specs.declared.option.Option.TheVariants.{Some, None}
use Rattle.kb_term.specs.Tree.{Tree}
use Rattle.kb_term.specs.View.{tree_of}
use Rattle.kb_term.specs.Pair.{Pair, canonical_pair, term_limit}
use Rattle.kb_term.specs.Rule.{Rule}
use Rattle.kb_overlap.specs.Trace.{side}
use Rattle.kb_term.specs.Proving.{RewritesAt}
use Rattle.kb_cert.specs.Family.{IsFirstOrder}
use Rattle.kb_rewrite.specs.NormalForm.{IsFound, Normalised, form, long, large, NormalisesTo}
use Rattle.kb_overlap.specs.Overlap.{IsOverlapList, Overlap as Listed}
use Rattle.mkb_model.specs.Jobs.{numbers_cmp, ref_eq}
use Rattle.kb_label.specs.Names.{Name}
use Rattle.mkb_model.specs.Plain.{Plain, other, equations_of, rules_of, constraints_of, known, pair_at, rule_at, rules_at, equations_at}
use Rattle.mkb_model.specs.DueJobs.{reducers, is_usable}
use Rattle.kb_term.specs.declared.origin.RuleRef.{RuleRef}
use Rattle.kb_term.specs.declared.origin.Found.{Found}
use Rattle.kb_term.specs.declared.limit.Limit.{Limit as TermLimit}
use Rattle.kb_term.specs.declared.limit.Limit.TheVariants.{Size as PastSize, Depth as PastDepth, Variables as PastVariables}
use Rattle.kb_cert.specs.declared.certificate.Certificate.{Certificate}
use Rattle.kb_label.specs.declared.verdict.Reason.{Reason}
use Rattle.kb_label.specs.declared.verdict.Reason.TheVariants.{Size, Depth, Variables, Steps}
use Rattle.kb_node.specs.declared.job.Job.{Job}
use Rattle.kb_node.specs.declared.job.Job.TheVariants.{Reduce, Orient, Overlap, Close}
use Rattle.kb_node.specs.declared.job.Fact.{Fact}
use Rattle.kb_node.specs.declared.job.Deduced.{Deduced}
use Rattle.kb_node.specs.declared.job.LimitCause.{LimitCause}
use Rattle.mkb_model.specs.declared.proposed.Proposed.{Proposed}
use Rattle.mkb_model.specs.declared.proposed.Proposed.TheVariants.{Facts, Rewrite, One, Both, Refuse, Deduce, Unjoined, Closed, Limit}

-- the reason that a limit on terms gives
abbrev pub reason_of : TermLimit → Reason
reason_of PastSize = Size
reason_of PastDepth = Depth
reason_of PastVariables = Variables

-- ---- what a job reads

-- a rule with its name on the board
pub record NamedRule : Type 0 where
  pub ref : RuleRef
  pub rule : Rule

-- the rules that the references name, with their names
abbrev pub named_rules : Plain → List RuleRef → List NamedRule
named_rules b refs = filter_map (λ a. option_map (λ r. record { ref = a; rule = r }) (rule_at b a)) refs

-- the rules alone
abbrev pub as_rules : List NamedRule → List Rule
as_rules rs = map (λ (r : NamedRule). r.rule) rs

-- ---- reducing

-- a redex that may be rewritten: side w of the pair, a position, one of the rules, and the result
pub record IsUsableRedex (rules : List NamedRule) (pair : Pair) (usable : ℕ → Found → Bool) (w : ℕ) (at : List ℕ) (a : RuleRef) (kind : Found) (result : Tree) : Type 0 where
  pub rule : Rule
  pub listed : Contains rules (record { ref = a; rule = rule })
  pub is_side : (w ≡ 0) ⊎ (w ≡ 1)
  pub rewrites : RewritesAt rule at (side pair w) result
  pub found : IsFound (side pair w) rule kind
  pub may_be : IsTrue (usable w kind)

-- side 0 before side 1, positions in preorder, rules by node, then direction
abbrev pub redex_cmp : ℕ → List ℕ → RuleRef → ℕ → List ℕ → RuleRef → Ordering
redex_cmp v at a w pos c =
    ordering_then (nat_cmp v w) (ordering_then (numbers_cmp at pos) (ordering_then (nat_cmp a.node c.node) (nat_cmp a.dir c.dir)))

-- the first redex that may be rewritten
pub record IsFirstRedex (rules : List NamedRule) (pair : Pair) (usable : ℕ → Found → Bool) (w : ℕ) (at : List ℕ) (a : RuleRef) (kind : Found) (result : Tree) : Type 0 where
  pub is_redex : IsUsableRedex rules pair usable w at a kind result
  pub is_first : (v : ℕ) (pos : List ℕ) (c : RuleRef) (k : Found) (t : Tree) → IsUsableRedex rules pair usable v pos c k t → redex_cmp w at a v pos c ≢ Greater

-- there is no redex that may be rewritten
abbrev pub IsIrreducible : List NamedRule → Pair → (ℕ → Found → Bool) → Type 0
IsIrreducible rules pair usable = (w : ℕ) (at : List ℕ) (a : RuleRef) (k : Found) (t : Tree) → ¬ IsUsableRedex rules pair usable w at a k t

-- the fact names one of the rules, and is true of it and its side of the pair
abbrev pub IsFactOf : List NamedRule → Pair → Fact → Type 0
IsFactOf rules pair f = (rule : Rule) × Contains rules (record { ref = f.rule; rule = rule }) × IsFound (side pair f.side) rule f.found

-- the first redex gives a result within the limits
pub record IsRewriting (rules : List NamedRule) (pair : Pair) (usable : ℕ → Found → Bool) (w : ℕ) (at : List ℕ) (a : RuleRef) (kind : Found) (result : Tree) : Type 0 where
  pub first : IsFirstRedex rules pair usable w at a kind result
  pub fits : term_limit result ≡ None

-- the first redex gives a result that passes a limit
pub record IsLargeRewriting (rules : List NamedRule) (pair : Pair) (usable : ℕ → Found → Bool) (cause : LimitCause) : Type 0 where
  pub side : ℕ
  pub at : List ℕ
  pub rule : RuleRef
  pub kind : Found
  pub result : Tree
  pub limit : TermLimit
  pub first : IsFirstRedex rules pair usable side at rule kind result
  pub passes : term_limit result ≡ Some limit
  pub redex_is : cause.redex ≡ Some (side, rule, kind)
  pub reason_is : cause.reason ≡ reason_of limit

-- there is no redex, and the facts, all true, are about each side and rule of which nothing was known, in order
pub record AreMissingFacts (rules : List NamedRule) (pair : Pair) (usable : ℕ → Found → Bool) (n : ℕ) (unknown : List (ℕ × RuleRef)) (fs : List Fact) : Type 0 where
  pub none_usable : IsIrreducible rules pair usable
  pub at_node : (f : Fact) → Contains fs f → f.node.0 ≡ n
  pub are_unknown : map (λ (f : Fact). (f.side, f.rule)) fs ≡ unknown
  pub are_true : (f : Fact) → Contains fs f → IsFactOf rules pair f

-- ---- overlapping

-- an overlap of two named rules
pub record NamedOverlap : Type 0 where
  pub outer : RuleRef
  pub inner : RuleRef
  pub overlap : Listed

-- the overlaps of the first rule as outer with the second as inner, in order
abbrev pub OverlapsOf : NamedRule → NamedRule → List NamedOverlap → Type 0
OverlapsOf x y os = (found : List Listed) × IsOverlapList x.rule y.rule (ref_eq x.ref y.ref) found × (os ≡ map (λ o. record { outer = x.ref; inner = y.ref; overlap = o }) found)

-- the overlaps of all these pairs of rules, one pair after the other
abbrev pub OverlapsOfAll : List (NamedRule × NamedRule) → List NamedOverlap → Type 0
OverlapsOfAll [] os = os ≡ []
OverlapsOfAll (x ∷ xs) os = (here : List NamedOverlap) × (later : List NamedOverlap) × OverlapsOf x.0 x.1 here × OverlapsOfAll xs later × (os ≡ here ++ later)

-- the first rule as outer with the second, then the other way round where they differ
abbrev pub both_ways : NamedRule → NamedRule → List (NamedRule × NamedRule)
both_ways x y = if ref_eq x.ref y.ref then (x, y) ∷ [] else (x, y) ∷ (y, x) ∷ []

-- each rule as outer with each as inner
abbrev pub all_ways : List NamedRule → List (NamedRule × NamedRule)
all_ways rs = flat_map (λ x. map (λ y. (x, y)) rs) rs

-- the overlaps of the rules of a list, in order
abbrev pub AllOverlaps : List NamedRule → List NamedOverlap → Type 0
AllOverlaps rules = OverlapsOfAll (all_ways rules)

-- the limit that the overlap itself passes
abbrev pub own_limit : Result (Tree × Tree) TermLimit → Option Reason
own_limit (Ok sides) = None
own_limit (Err l) = Some (reason_of l)

-- some member meets the second condition, and each one before it the first
abbrev pub FirstThat : {A : Type 0} → (A → Type 0) → (A → Type 0) → List A → Type 0
FirstThat {A} Clear Meets xs = (before : List A) × (x : A) × (after : List A) × (xs ≡ before ++ x ∷ after) × ((y : A) → Contains before y → Clear y) × Meets x

-- the canonical pair of an overlap with its origin, where it is not trivial
abbrev pub deduced_pair : NamedOverlap → Result (Tree × Tree) TermLimit → List (RuleRef × RuleRef × List ℕ × Pair)
deduced_pair o (Err l) = []
deduced_pair o (Ok sides) = map (λ q. (o.outer, o.inner, o.overlap.position, q)) (option_to_list (canonical_pair sides.0 sides.1))

-- the proposal names the non-trivial canonical pairs of the overlaps, in order
abbrev pub AreDeduced : List Deduced → List NamedOverlap → Type 0
AreDeduced ds os = map (λ (d : Deduced). (d.outer, d.inner, d.position, d.pair)) ds ≡ flat_map (λ (o : NamedOverlap). deduced_pair o o.overlap.sides) os

-- no overlap of the two rules passes a limit, and their non-trivial pairs are proposed
pub record IsDeducing (x y : NamedRule) (pairs : List Deduced) : Type 0 where
  pub overlaps : List NamedOverlap
  pub all : OverlapsOfAll (both_ways x y) overlaps
  pub within : (o : NamedOverlap) → Contains overlaps o → own_limit o.overlap.sides ≡ None
  pub proposed : AreDeduced pairs overlaps

-- some overlap of the two rules passes a limit, the first of them this one
pub record IsLargeOverlap (x y : NamedRule) (r : Reason) : Type 0 where
  pub overlaps : List NamedOverlap
  pub all : OverlapsOfAll (both_ways x y) overlaps
  pub first : FirstThat (λ (o : NamedOverlap). own_limit o.overlap.sides ≡ None) (λ (o : NamedOverlap). own_limit o.overlap.sides ≡ Some r) overlaps

-- ---- closing: the rules and the equations of a process, and the input equations

-- u is the normal form of t, within the limits
abbrev pub HasForm : List NamedRule → Tree → Tree → Type 0
HasForm rules t u = (n : ℕ) × NormalisesTo (as_rules rules) t (form u n)

-- the limit that a normalising comes to
abbrev pub form_limit : Normalised → Option Reason
form_limit (form t n) = None
form_limit (long n) = Some Steps
form_limit (large l) = Some (reason_of l)

-- normalising the term passes this limit
abbrev pub PassesLimit : List NamedRule → Tree → Reason → Type 0
PassesLimit rules t r = (f : Normalised) × NormalisesTo (as_rules rules) t f × (form_limit f ≡ Some r)

-- normalising the two terms, the first before the second, passes this limit
abbrev pub PassesFirst : List NamedRule → Tree × Tree → Reason → Type 0
PassesFirst rules e r = PassesLimit rules e.0 r ⊎ ((u : Tree) × HasForm rules e.0 u × PassesLimit rules e.1 r)

-- both terms have normal forms
abbrev pub HaveForms : List NamedRule → Tree × Tree → Type 0
HaveForms rules e = ((u : Tree) × HasForm rules e.0 u) × ((v : Tree) × HasForm rules e.1 v)

-- the terms are equal, or their canonical pair is one of the equations
abbrev pub IsJoinedBy : List (Tree × Tree) → Tree → Tree → Type 0
IsJoinedBy equations u v = (u ≡ v) ⊎ ((q : Pair) × (canonical_pair u v ≡ Some q) × Contains equations (q.first, q.second))

-- both terms have normal forms, of which this holds
abbrev pub FormsMeet : List NamedRule → (Tree → Tree → Type 0) → Tree × Tree → Type 0
FormsMeet rules Meet e = (u : Tree) × (v : Tree) × HasForm rules e.0 u × HasForm rules e.1 v × Meet u v

-- the overlap passes no limit, and this holds of its sides
abbrev pub OfSides : (Tree × Tree → Type 0) → NamedOverlap → Type 0
OfSides P o = (e : Tree × Tree) × (o.overlap.sides ≡ Ok e) × P e

-- both sides of the overlap have normal forms
abbrev pub IsFormed : List NamedRule → NamedOverlap → Type 0
IsFormed rules = OfSides (HaveForms rules)

-- both sides of the overlap have normal forms, which are equal or an equation of the process
abbrev pub IsJoined : List NamedRule → List (Tree × Tree) → NamedOverlap → Type 0
IsJoined rules equations = OfSides (FormsMeet rules (IsJoinedBy equations))

-- both sides of the overlap have normal forms, which differ and are no equation of the process
abbrev pub IsUnjoined : List NamedRule → List (Tree × Tree) → NamedOverlap → Type 0
IsUnjoined rules equations = OfSides (FormsMeet rules (λ u v. ¬ IsJoinedBy equations u v))

-- the overlap, or normalising its sides, passes this limit
abbrev pub IsStopped : List NamedRule → Reason → NamedOverlap → Type 0
IsStopped rules r o = (own_limit o.overlap.sides ≡ Some r) ⊎ OfSides (λ e. PassesFirst rules e r) o

-- a closed process: each overlap of its rules joins or is an equation that it has; without equations each input equation has normal forms
pub record IsClosed (rules : List NamedRule) (equations inputs : List (Tree × Tree)) : Type 0 where
  pub overlaps : List NamedOverlap
  pub all : AllOverlaps rules overlaps
  pub joined : (o : NamedOverlap) → Contains overlaps o → IsJoined rules equations o
  pub formed : equations ≡ [] → (e : Tree × Tree) → Contains inputs e → HaveForms rules e

-- the members of which the first holds are these, in their order
abbrev pub Picks : {A : Type 0} → (A → Type 0) → List A → List A → Type 0
Picks P [] ys = ys ≡ []
Picks {A} P (x ∷ xs) ys = ((¬ P x) × Picks P xs ys) ⊎ (P x × ((zs : List A) × Picks P xs zs × (ys ≡ x ∷ zs)))

-- some overlaps of the rules do not join, and their pairs before normalising are proposed
pub record IsUnjoining (rules : List NamedRule) (equations : List (Tree × Tree)) (pairs : List Deduced) : Type 0 where
  pub overlaps : List NamedOverlap
  pub all : AllOverlaps rules overlaps
  pub formed : (o : NamedOverlap) → Contains overlaps o → IsFormed rules o
  pub listed : List NamedOverlap
  pub picked : Picks (IsUnjoined rules equations) overlaps listed
  pub some : listed ≢ []
  pub proposed : AreDeduced pairs listed

-- the first overlap that passes a limit, or whose normalising does, passes this one
pub record IsOverlapStop (rules : List NamedRule) (r : Reason) : Type 0 where
  pub overlaps : List NamedOverlap
  pub all : AllOverlaps rules overlaps
  pub first : FirstThat (IsFormed rules) (IsStopped rules r) overlaps

-- all overlaps join, there is no equation, and normalising the input equations in order passes this limit first
pub record IsInputStop (rules : List NamedRule) (equations inputs : List (Tree × Tree)) (r : Reason) : Type 0 where
  pub overlaps : List NamedOverlap
  pub all : AllOverlaps rules overlaps
  pub joined : (o : NamedOverlap) → Contains overlaps o → IsJoined rules equations o
  pub no_equation : equations ≡ []
  pub first : FirstThat (HaveForms rules) (λ e. PassesFirst rules e r) inputs

-- ---- the proposal of a job on a board

-- each side and each rule of p elsewhere of which nothing is known
abbrev pub unknown : Plain → Name → ℕ → List (ℕ × RuleRef)
unknown b p n = flat_map (λ w. map (λ a. (w, a)) (filter (λ a. is_none (known b n w a)) (reducers b p n))) (0 ∷ 1 ∷ [])

-- this holds of what a Reduce of the process at the node reads: the rules elsewhere, the pair, and which redexes are usable
abbrev pub OnReduce : Plain → Name → ℕ → (List NamedRule → Pair → (ℕ → Found → Bool) → Type 0) → Type 0
OnReduce b p n P = (pair : Pair) × (pair_at b n ≡ Some pair) × P (named_rules b (reducers b p n)) pair (is_usable b p n)

-- this holds of the two rules that an Overlap reads
abbrev pub OnRules : Plain → RuleRef → RuleRef → (NamedRule → NamedRule → Type 0) → Type 0
OnRules b a c P =
    (x : Rule) × (y : Rule) × (rule_at b a ≡ Some x) × (rule_at b c ≡ Some y) × P (record { ref = a; rule = x }) (record { ref = c; rule = y })

-- the first member of the run's family that orders the constraints of the process with this direction of the node is this, or there is none
abbrev pub OrientsBy : Plain → Name → ℕ → ℕ → Option Certificate → Type 0
OrientsBy b p n d = IsFirstOrder b.settings.family b.problem.signature (rules_at b (constraints_of b p ++ record { node = n; dir = d } ∷ []))

-- the rules of the process on the board
abbrev pub rules_on : Plain → Name → List NamedRule
rules_on b p = named_rules b (rules_of b p)

-- the equations of the process on the board
abbrev pub equations_on : Plain → Name → List (Tree × Tree)
equations_on b p = equations_at b (equations_of b p)

-- the process is closed on the board
abbrev pub IsClosedOn : Plain → Name → Type 0
IsClosedOn b p = IsClosed (rules_on b p) (equations_on b p) b.problem.equations

-- a limit for which no redex is named, and that comes so
abbrev pub IsPlainCause : LimitCause → (Reason → Type 0) → Type 0
IsPlainCause cause Comes = (cause.redex ≡ None) × Comes cause.reason

-- what a job proposes on the board from which it was taken
abbrev pub Proposes : Plain → Job → Proposed → Type 0
Proposes b (Reduce p n) (Facts fs) = OnReduce b p n.0 (λ rules pair usable. AreMissingFacts rules pair usable n.0 (unknown b p n.0) fs)
Proposes b (Reduce p n) (Rewrite m w at a kind t) = (m ≡ n) × OnReduce b p n.0 (λ rules pair usable. IsRewriting rules pair usable w at a kind (tree_of t))
Proposes b (Reduce p n) (Limit j cause) = (j ≡ Reduce p n) × OnReduce b p n.0 (λ rules pair usable. IsLargeRewriting rules pair usable cause)
Proposes b (Orient p n) (One q m d c) = (q ≡ p) × (m ≡ n) × ((d ≡ 0) ⊎ (d ≡ 1)) × OrientsBy b p n.0 d (Some c) × OrientsBy b p n.0 (other d) None
Proposes b (Orient p n) (Both q m c0 c1) = (q ≡ p) × (m ≡ n) × OrientsBy b p n.0 0 (Some c0) × OrientsBy b p n.0 1 (Some c1)
Proposes b (Orient p n) (Refuse q m) = (q ≡ p) × (m ≡ n) × OrientsBy b p n.0 0 None × OrientsBy b p n.0 1 None
Proposes b (Overlap p a c) (Deduce d e pairs) = (d ≡ a) × (e ≡ c) × OnRules b a c (λ x y. IsDeducing x y pairs)
Proposes b (Overlap p a c) (Limit j cause) = (j ≡ Overlap p a c) × IsPlainCause cause (λ r. OnRules b a c (λ x y. IsLargeOverlap x y r))
Proposes b (Close p) (Unjoined q pairs) = (q ≡ p) × IsUnjoining (rules_on b p) (equations_on b p) pairs
Proposes b (Close p) (Closed q) = (q ≡ p) × IsClosedOn b p
Proposes b (Close p) (Limit j cause) = (j ≡ Close p) × IsPlainCause cause (λ r. IsOverlapStop (rules_on b p) r ⊎ IsInputStop (rules_on b p) (equations_on b p) b.problem.equations r)
Proposes b j x = ⊥
