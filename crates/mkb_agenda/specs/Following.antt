-- Commits that an agenda follows.
use Rattle.std.specs.Prelude.{ℕ, List, [], ◌∷◌, ◌++◌, true, false, length, ◌<◌, ◌≡◌, ◌⊎◌, All, Contains, IsTrue}
use Rattle.kb_label.specs.Names.{Name, has, child}
use Rattle.kb_label.specs.declared.process.TheConstants.{MAX_BITS}
use Rattle.kb_term.specs.Signature.{Problem, IsWithinLimits}
use Rattle.kb_term.specs.declared.origin.RuleRef.{RuleRef}
use Rattle.kb_node.specs.declared.node.NodeId.{NodeId}
use Rattle.kb_node.specs.declared.job.Deduced.{Deduced}
use Rattle.kb_node.specs.declared.job.Job.{Job}
use Rattle.kb_node.specs.declared.job.Job.TheVariants.{Overlap}
use Rattle.mkb_model.specs.Plain.{Plain, is_equation}
use Rattle.mkb_model.specs.DueJobs.{is_node_of, is_working}
use Rattle.mkb_model.specs.Effects.{acted, effect_label, limit_of}
use Rattle.mkb_model.specs.Journals.{Moment, IsPossibleRun, IsCommitting}
use Rattle.mkb_model.specs.declared.entry.Effect.{Effect}
use Rattle.mkb_model.specs.declared.settings.Settings.{Settings}
use Rattle.mkb_moves.specs.Changes.{IsNodeOfOne}
use Rattle.mkb_model.specs.declared.proposed.Proposed.{Proposed}
use Rattle.mkb_model.specs.declared.proposed.Proposed.TheVariants.{Rewrite, One, Both, Refuse, Deduce}
use Rattle.mkb_rules.specs.Applying.{applied_as}
use Rattle.mkb_rules.specs.Named.{IsThere}
use Rattle.mkb_rules.specs.Rewriting.{LeadsTo}
use Rattle.mkb_rules.specs.declared.applied.Applied.TheVariants.{Done}
use Rattle.mkb_pick.specs.Listings.{Listed}
use Rattle.mkb_agenda.specs.Agendas.{IsListedAs}
use Rattle.mkb_agenda.specs.Looking.{ComesFrom, MayEnd, ReducesBy, jobs_on, overlaps_with, reductions_of}
use Rattle.mkb_agenda.specs.declared.following.Commit.{Commit}
use Rattle.mkb_agenda.specs.declared.following.Overlapped.{Overlapped}

-- ---- commits

-- in some possible run of a problem within the limits the proposal is committed on board b; the commit tells on whom it acts and what it came to, and board c is what it makes, before any process falls asleep or wakes
pub record IsCommitOn (b : Plain) (x : Commit) (c : Plain) : Type 0 where
  pub problem : Problem
  pub settings : Settings
  pub past : List Moment
  pub worker : ℕ
  pub ticket : ℕ
  pub effect : Effect
  pub next : Plain
  pub within : IsWithinLimits problem
  pub run : IsPossibleRun problem settings past b
  pub commit : IsCommitting past b worker ticket effect next
  pub proposal : x.proposal.now ≡ commit.proposal
  pub names : x.names.now ≡ effect_label b commit.proposal
  pub applied : x.applied ≡ applied_as (limit_of b commit.proposal)
  pub target : x.applied ≡ Done → LeadsTo c commit.proposal x.target
  pub makes : c ≡ record (acted b commit.proposal) { flight = [] }

-- the nodes that a proposal names are there
abbrev pub HasNodesOf : Plain → Proposed → Type 0
HasNodesOf b (Rewrite n w at a found t) = IsThere b n.0
HasNodesOf b (One p n d c) = IsThere b n.0
HasNodesOf b (Both p n c0 c1) = IsThere b n.0
HasNodesOf b (Refuse p n) = IsThere b n.0
HasNodesOf b (Deduce a c pairs) = IsThere b a.node × IsThere b c.node
HasNodesOf b x = Unit {0}

-- ---- what may differ

-- the jobs that a new rule of the process may change
abbrev pub jobs_by_rule : Plain → Name → RuleRef → List Job
jobs_by_rule c p a = jobs_on p (record { 0 = a.node } ∷ []) ++ (reductions_of c p ++ (overlaps_with c p (a ∷ []) ++ []))

-- q comes from p, with a new rule
pub record ComesByRule (b : Plain) (p : Name) (c : Plain) (q : Name) (a : RuleRef) : Type 0 where
  pub comes : ComesFrom b p c q (jobs_by_rule c q a)
  pub reduces : ReducesBy b p c q (record { nodes = record { 0 = a.node } ∷ []; rules = a ∷ []; loses = false })

-- both rules of each of two nodes
abbrev pub rules_at_both : NodeId → NodeId → List RuleRef
rules_at_both n m = record { node = n.0; dir = 0 } ∷ record { node = n.0; dir = 1 } ∷ record { node = m.0; dir = 0 } ∷ record { node = m.0; dir = 1 } ∷ []

-- the jobs that a rewriting of node n to node m may change where a rule is rewritten
abbrev pub jobs_by_nodes : Plain → Name → NodeId → NodeId → List Job
jobs_by_nodes c p n m = jobs_on p (n ∷ m ∷ []) ++ (reductions_of c p ++ (overlaps_with c p (rules_at_both n m) ++ []))

-- p's work on the nodes alone may differ where it had n as an equation, and else what a rewritten rule may change
pub record ComesByRewriting (b c : Plain) (n m : NodeId) (p : Name) : Type 0 where
  pub equation : IsTrue (is_equation b p n.0) → ComesFrom b p c p (jobs_on p (n ∷ m ∷ []))
  pub rule : ComesFrom b p c p (jobs_by_nodes c p n m)
  pub reduces : ReducesBy b p c p (record { nodes = n ∷ m ∷ []; rules = rules_at_both n m; loses = true })

-- each node of the pairs is among these
abbrev pub AreNodesOf : Plain → List Deduced → List NodeId → Type 0
AreNodesOf c pairs ns = (m : ℕ) → IsNodeOfOne c pairs m → Contains ns (record { 0 = m })

-- the two rules and the nodes of their pairs are there
pub record AreOverlappedThere (b : Plain) (o : Overlapped) : Type 0 where
  pub first : IsThere b o.first.node
  pub second : IsThere b o.second.node
  pub nodes : All (λ (n : NodeId). IsThere b n.0) o.nodes.now

-- the jobs that the pairs of an overlap may change
abbrev pub jobs_by_overlap : Name → RuleRef → RuleRef → List NodeId → List Job
jobs_by_overlap p a e ns = jobs_on p ns ++ ([] ++ ([] ++ Overlap p a e ∷ []))

-- ---- processes that are brought from one board to the next

-- each process is listed as on one of the two boards
abbrev pub IsBetween : Plain → Plain → List Listed → Type 0
IsBetween b c ps = (p : Name) → IsListedAs b p p ps ⊎ IsListedAs c p p ps

-- of processes that are listed as on one of two boards those that are named are listed as on the second one afterwards, and each other one as before
pub record Brings (b c : Plain) (l : List Name) (ps qs : List Listed) : Type 0 where
  pub named : (p : Name) → has l p ≡ true → IsListedAs c p p qs
  pub others : (x : Plain) (p q : Name) → has l q ≡ false → IsListedAs x p q ps → IsListedAs x p q qs

-- where each process is listed as on some board or as on board c, and comes from there with these changes, those that are named are brought to board c
abbrev pub BringsAll : Plain → List Name → (Plain → Name → Type 0) → List Listed → List Listed → Type 0
BringsAll c l Comes ps qs = (b : Plain) → ((p : Name) → has l p ≡ true → Comes b p) → IsBetween b c ps → Brings b c l ps qs

-- the same of one process
abbrev pub BringsIt : Plain → Name → (Plain → Type 0) → List Listed → List Listed → Type 0
BringsIt c q Comes ps qs = (b : Plain) → Comes b → IsBetween b c ps → Brings b c (q ∷ []) ps qs

-- each process stands as before, but that its reducing of the node may be due no more
abbrev pub AllMayEnd : Plain → Plain → NodeId → Type 0
AllMayEnd b c n = (p : Name) → MayEnd b c p n

-- where each process comes from board b so, each that has the node is brought to board c
abbrev pub BringsHolders : Plain → Plain → NodeId → List Listed → List Listed → Type 0
BringsHolders b c n ps qs = AllMayEnd b c n → IsBetween b c ps → IsBetween b c qs × ((p : Name) → IsTrue (is_node_of c p n.0) → IsListedAs c p p qs)

-- the two children take the place of the process, and each other process is listed as before
pub record BringsChildren (b c : Plain) (p : Name) (ps qs : List Listed) : Type 0 where
  pub parent : IsListedAs c p p qs
  pub first : IsListedAs c (child p false) (child p false) qs
  pub second : IsListedAs c (child p true) (child p true) qs
  pub others : (x : Plain) (r q : Name) → has (p ∷ child p false ∷ child p true ∷ []) q ≡ false → IsListedAs x r q ps → IsListedAs x r q qs

-- p forks: each child has what p had but for its rule of the node; p does not work any more, and its children did not before
pub record ForksFrom (b c : Plain) (p : Name) (n : NodeId) : Type 0 where
  pub short : length p < MAX_BITS
  pub first : ComesByRule b p c (child p false) (record { node = n.0; dir = 0 })
  pub second : ComesByRule b p c (child p true) (record { node = n.0; dir = 1 })
  pub gone : is_working c p ≡ false
  pub new : is_working b (child p false) ≡ false
  pub also_new : is_working b (child p true) ≡ false
