-- When a commit is right for what the board has become since the ticket was taken.
use Rattle.std.specs.Prelude.{ℕ, List, [], ◌∷◌, ◌++◌, Bool, true, false, ◌≡◌, ◌≢◌, IsTrue, Contains, ⊤, Some}
use Rattle.kb_term.specs.Tree.{Tree}
use Rattle.kb_term.specs.View.{tree_of}
use Rattle.kb_term.specs.Pair.{Pair, IsSameEquation}
use Rattle.kb_term.specs.Rule.{rule_of}
use Rattle.kb_term.specs.Signature.{Signature, Problem, IsWellFormed}
use Rattle.kb_term.specs.Proving.{RewritesAt}
use Rattle.kb_term.specs.declared.origin.RuleRef.{RuleRef}
use Rattle.kb_term.specs.declared.origin.Found.{Found}
use Rattle.kb_overlap.specs.Trace.{side, other_side}
use Rattle.kb_rewrite.specs.NormalForm.{IsFound}
use Rattle.kb_cert.specs.Family.{IsOrderable}
use Rattle.kb_label.specs.Names.{Name, has, child}
use Rattle.kb_node.specs.declared.node.LabelKind.{LabelKind}
use Rattle.kb_node.specs.declared.node.LabelKind.TheVariants.{R0, R1, E}
use Rattle.kb_node.specs.declared.job.Deduced.{Deduced}
use Rattle.kb_node.specs.declared.job.Job.{Job}
use Rattle.mkb_model.specs.Plain.{Plain, PlainNode, label_at, rule_kind, other, pair_in, sides, rules_at, constraints_of}
use Rattle.mkb_model.specs.Effects.{overlap_label}
use Rattle.mkb_model.specs.Journals.{Moment, Follows, IsRunBy}
use Rattle.mkb_model.specs.declared.proposed.Proposed.{Proposed}
use Rattle.mkb_model.specs.declared.proposed.Proposed.TheVariants.{Facts, Rewrite, One, Both, Refuse, Deduce, Unjoined, Closed, Limit}
use Rattle.mkb_model.specs.declared.entry.Entry.{Entry}
use Rattle.mkb_model.specs.declared.entry.Entry.TheVariants.{Take, Commit, Drop, Abandon, Halt}
use Rattle.mkb_model.specs.declared.settings.Settings.{Settings}

-- ---- nodes

-- the process q has the node m in the role j
abbrev pub IsOn : List PlainNode → Name → ℕ → LabelKind → Type 0
IsOn xs q m j = has (label_at xs m j) q ≡ true

-- each pair stays where it is
abbrev pub KeepsPairs : List PlainNode → List PlainNode → Type 0
KeepsPairs xs ys = (n : ℕ) (q : Pair) → pair_in xs n ≡ Some q → pair_in ys n ≡ Some q

-- the label is one of equations or of rules
abbrev pub IsRole : LabelKind → Type 0
IsRole E = ⊤
IsRole R0 = ⊤
IsRole R1 = ⊤
IsRole k = ⊥

-- the process has each node as an equation, as one of the two rules, or not at all
abbrev pub OneRole : List PlainNode → Name → Type 0
OneRole xs p = (n : ℕ) (j k : LabelKind) → IsRole j → IsRole k → IsOn xs p n j → IsOn xs p n k → j ≡ k

-- no label names a child of p yet
abbrev pub IsNew : List PlainNode → Name → Type 0
IsNew xs p = (bit : Bool) (m : ℕ) (j : LabelKind) → has (label_at xs m j) (child p bit) ≡ false

-- ---- proposals

-- two rules of the process rewrite one well-formed term to the two sides of the pair, up to variants
pub record IsDeducedFrom (signature : Signature) (xs : List PlainNode) (p : Name) (pair : Pair) : Type 0 where
  pub peak : Tree
  pub s : Tree
  pub t : Tree
  pub well : IsWellFormed signature peak
  pub a : RuleRef
  pub a_pair : Pair
  pub a_on : IsOn xs p a.node (rule_kind a.dir)
  pub a_there : pair_in xs a.node ≡ Some a_pair
  pub a_at : List ℕ
  pub a_step : RewritesAt (rule_of a_pair a.dir) a_at peak s
  pub c : RuleRef
  pub c_pair : Pair
  pub c_on : IsOn xs p c.node (rule_kind c.dir)
  pub c_there : pair_in xs c.node ≡ Some c_pair
  pub c_at : List ℕ
  pub c_step : RewritesAt (rule_of c_pair c.dir) c_at peak t
  pub same : IsSameEquation (s, t) (sides pair)

-- rule a, of another node than n, rewrites side w of the pair of n to the result
pub record IsRewriteOn (xs : List PlainNode) (n w : ℕ) (at : List ℕ) (a : RuleRef) (kind : Found) (result : Tree) : Type 0 where
  pub pair : Pair
  pub there : pair_in xs n ≡ Some pair
  pub by : Pair
  pub by_there : pair_in xs a.node ≡ Some by
  pub step : RewritesAt (rule_of by a.dir) at (side pair w) result
  pub found : IsFound (side pair w) (rule_of by a.dir) kind
  pub other_node : a.node ≢ n

-- some member of a family orders the constraints of the process with this direction of the node
abbrev pub CanOrient : Signature → Plain → Name → ℕ → ℕ → Type 0
CanOrient signature b p n d = IsOrderable signature (rules_at b (constraints_of b p ++ record { node = n; dir = d } ∷ []))

-- what the proposal says holds on the board, for each process on which it acts
abbrev pub IsReady : Signature → Plain → Proposed → Type 0
IsReady g b (Facts fs) = ⊤
IsReady g b (Rewrite n w at a kind t) =
    (f : IsRewriteOn b.nodes n.0 w at a kind (tree_of t)) × ((p : Name) → IsOn b.nodes p a.node (rule_kind a.dir) → IsOn b.nodes p n.0 (rule_kind (other w)) → tree_of t ≢ other_side f.pair w)
IsReady g b (One p n d c) = (q : Pair) × (pair_in b.nodes n.0 ≡ Some q) × CanOrient g b p n.0 d
IsReady g b (Both p n c0 c1) = (q : Pair) × (pair_in b.nodes n.0 ≡ Some q) × CanOrient g b p n.0 0 × CanOrient g b p n.0 1
IsReady g b (Refuse p n) = ⊤
IsReady g b (Deduce a c ds) = (p : Name) → IsTrue (has (overlap_label b a c) p) → (d : Deduced) → Contains ds d → IsDeducedFrom g b.nodes p d.pair
IsReady g b (Unjoined p ds) = (d : Deduced) → Contains ds d → IsDeducedFrom g b.nodes p d.pair
IsReady g b (Closed p) = ⊤
IsReady g b (Limit j cause) = ⊤

-- a forked process lives, and no label names its children yet
abbrev pub IsForkable : Plain → Proposed → Type 0
IsForkable b (Both p n c0 c1) = (has b.living p ≡ true) × IsNew b.nodes p
IsForkable b x = ⊤

-- what is committed is ready, and each process has each node in one role
pub record IsFine (signature : Signature) (b : Plain) (x : Proposed) : Type 0 where
  pub ready : IsReady signature b x
  pub one_role : (q : Name) → OneRole b.nodes q
  pub forkable : IsForkable b x

-- ---- runs

-- what a commit commits is fine; the other entries commit nothing
abbrev pub CommitsFine : (May : Plain → Job → Type 0) → Signature → (past : List Moment) (b : Plain) (e : Entry) (c : Plain) → Follows May past b e c → Type 0
CommitsFine May g past b (Take w t j) c f = ⊤
CommitsFine May g past b (Commit w t e) c f = IsFine g b f.proposal
CommitsFine May g past b (Drop w t p) c f = ⊤
CommitsFine May g past b (Abandon w t) c f = ⊤
CommitsFine May g past b Halt c f = ⊤

-- each commit of the run is fine
abbrev pub AllFine : (May : Plain → Job → Type 0) (P : Problem) (n : Settings) (ms : List Moment) (c : Plain) → IsRunBy May P n ms c → Type 0
AllFine May P n [] c run = ⊤
AllFine May P n (m ∷ ms) c run = CommitsFine May P.signature ms m.board m.entry c run.1 × AllFine May P n ms m.board run.0
