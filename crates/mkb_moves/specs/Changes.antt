-- Which jobs a commit makes due, and which it makes due no more; whose cost it changes, and which rules are in use. Work is reducing, orienting and overlapping.
use Rattle.std.specs.Prelude.{ℕ, Bool, not, true, false, ◌<◌, List, ◌≡◌, ◌≢◌, ⊤, IsTrue, IsFalse, Contains}
use Rattle.std.specs.declared.option.Option.TheVariants.{Some}
use Rattle.kb_term.specs.Tree.{Tree}
use Rattle.kb_term.specs.View.{tree_of}
use Rattle.kb_term.specs.Pair.{Pair}
use Rattle.kb_term.specs.declared.term.Term.{Term}
use Rattle.kb_term.specs.declared.origin.RuleRef.{RuleRef}
use Rattle.kb_term.specs.declared.origin.Found.{Found}
use Rattle.kb_overlap.specs.Trace.{other_side}
use Rattle.kb_label.specs.Names.{Name, has, child, is_empty}
use Rattle.kb_node.specs.declared.node.NodeId.{NodeId}
use Rattle.kb_node.specs.declared.job.Job.{Job}
use Rattle.kb_node.specs.declared.job.Job.TheVariants.{Reduce, Orient, Overlap}
use Rattle.kb_node.specs.declared.job.Fact.{Fact}
use Rattle.kb_node.specs.declared.job.Deduced.{Deduced}
use Rattle.mkb_model.specs.Jobs.{process_of}
use Rattle.mkb_model.specs.Plain.{Plain, label, rule_kind, other, is_equation, is_rule, pair_at, job_nodes, cost}
use Rattle.mkb_model.specs.DueJobs.{is_work_due, is_due, due_jobs_of}
use Rattle.mkb_model.specs.Effects.{effect_label, overlap_label, rewrite_label}
use Rattle.mkb_model.specs.Runs.{OfEachLimitedCommit}
use Rattle.mkb_model.specs.declared.entry.Effect.TheVariants.{Made}
use Rattle.mkb_model.specs.declared.proposed.Proposed.{Proposed}
use Rattle.mkb_model.specs.declared.proposed.Proposed.TheVariants.{Facts, Rewrite}
use Rattle.mkb_moves.specs.Moves.{IsNodeOf}

-- ---- whose jobs are as before

-- the proposal is none of facts
abbrev pub IsNotOfFacts : Proposed → Type 0
IsNotOfFacts (Facts fs) = ⊥
IsNotOfFacts x = ⊤

-- each living process that the effect label does not name has the jobs due that it had
abbrev pub OthersKeepJobs : Plain → Plain → Proposed → Type 0
OthersKeepJobs b c x = (p : Name) → IsTrue (has b.living p) → IsFalse (has (effect_label b x) p) → due_jobs_of c p ≡ due_jobs_of b p

-- ---- which work is as before

-- the work is due after the commit just where it was before
abbrev pub IsDueAsBefore : Plain → Plain → Job → Type 0
IsDueAsBefore b c j = is_work_due c j ≡ is_work_due b j

-- all work of every process is due just where it was before
abbrev pub KeepsWork : Plain → Plain → Type 0
KeepsWork b c = (j : Job) → IsDueAsBefore b c j

-- work that was due still is
abbrev pub IsStillDue : Plain → Plain → Job → Type 0
IsStillDue b c j = IsTrue (is_work_due b j) → IsTrue (is_work_due c j)

-- no work of any process is due that was not due before
abbrev pub OpensNoWork : Plain → Plain → Type 0
OpensNoWork b c = (j : Job) → IsTrue (is_work_due c j) → IsTrue (is_work_due b j)

-- ---- what ends

-- the job reduces a node that one of the facts names
abbrev pub ReducesNodeOf : List Fact → Job → Type 0
ReducesNodeOf facts (Reduce p n) = (f : Fact) × Contains facts f × (f.node ≡ n)
ReducesNodeOf facts j = ⊥

-- the job is not due afterwards, and all other work of every process is due just where it was before
abbrev pub EndsOneJob : Plain → Plain → Job → Type 0
EndsOneJob b c i = IsFalse (is_work_due c i) × ((j : Job) → j ≢ i → IsDueAsBefore b c j)

-- no job of the process is due, of whatever kind
abbrev pub HasNoJob : Plain → Name → Type 0
HasNoJob c p = (j : Job) → process_of j ≡ p → IsFalse (is_due c j)

-- ---- what new pairs open

-- the node is that of one of the pairs
abbrev pub IsNodeOfOne : Plain → List Deduced → ℕ → Type 0
IsNodeOfOne c pairs m = (d : Deduced) × Contains pairs d × (pair_at c m ≡ Some d.pair)

-- the job reduces or orients the node of one of the pairs
abbrev pub IsOnPairs : Plain → List Deduced → Job → Type 0
IsOnPairs c pairs (Reduce p n) = IsNodeOfOne c pairs n.0
IsOnPairs c pairs (Orient p n) = IsNodeOfOne c pairs n.0
IsOnPairs c pairs j = ⊥

-- the process gains pairs: its work, but for that on their nodes, is due just where it was, and that on their nodes stays due
pub record OpensPairs (b c : Plain) (p : Name) (pairs : List Deduced) : Type 0 where
  pub elsewhere : (j : Job) → process_of j ≡ p → ¬ IsOnPairs c pairs j → IsDueAsBefore b c j
  pub there : (j : Job) → process_of j ≡ p → IsOnPairs c pairs j → IsStillDue b c j

-- the same, where the pairs are those of two rules, of which the overlap is not due afterwards
pub record EndsOverlap (b c : Plain) (p : Name) (a e : RuleRef) (pairs : List Deduced) : Type 0 where
  pub ended : IsFalse (is_work_due c (Overlap p a e))
  pub elsewhere : (j : Job) → process_of j ≡ p → j ≢ Overlap p a e → ¬ IsOnPairs c pairs j → IsDueAsBefore b c j
  pub there : (j : Job) → process_of j ≡ p → IsOnPairs c pairs j → IsStillDue b c j

-- this holds of each process that has both rules and has not overlapped them yet
abbrev pub EndsOverlapByBoth : Plain → Plain → RuleRef → RuleRef → List Deduced → Type 0
EndsOverlapByBoth b c a e pairs = (p : Name) → IsTrue (has (overlap_label b a e) p) → EndsOverlap b c p a e pairs

-- ---- what a new rule opens

-- the reference, with one of the two directions, names another rule than a
abbrev pub IsAnother : RuleRef → RuleRef → Type 0
IsAnother a e = (e.dir < 2) × (e ≢ a)

-- q has the work that p had, but that the new rule's node is not to be oriented any more, and only other nodes may open to be reduced; nothing is said of overlaps with the new rule
pub record LeavesOtherWork (b : Plain) (p : Name) (c : Plain) (q : Name) (a : RuleRef) : Type 0 where
  pub oriented : (n : NodeId) → n.0 ≡ a.node → IsFalse (is_work_due c (Orient q n))
  pub orients : (n : NodeId) → n.0 ≢ a.node → is_work_due c (Orient q n) ≡ is_work_due b (Orient p n)
  pub overlaps : (e f : RuleRef) → IsAnother a e → IsAnother a f → is_work_due c (Overlap q e f) ≡ is_work_due b (Overlap p e f)
  pub reduced : (n : NodeId) → n.0 ≡ a.node → IsTrue (is_work_due c (Reduce q n)) → IsTrue (is_work_due b (Reduce p n))
  pub reduces : (n : NodeId) → n.0 ≢ a.node → IsTrue (is_work_due b (Reduce p n)) → IsTrue (is_work_due c (Reduce q n))

-- the forked process has no job, and each of its two children has the other work that it had, with the rule of its direction
pub record SharesWork (b : Plain) (p : Name) (c : Plain) (n : ℕ) : Type 0 where
  pub gone : HasNoJob c p
  pub first : LeavesOtherWork b p c (child p false) (record { node = n; dir = 0 })
  pub second : LeavesOtherWork b p c (child p true) (record { node = n; dir = 1 })

-- ---- what a rewriting ends

-- the node is neither the rewritten one nor that of the equation of the result and the rest
abbrev pub IsElsewhere : Plain → ℕ → Tree → Tree → ℕ → Type 0
IsElsewhere c n rest result k = (k ≢ n) × ¬ IsNodeOf c result rest k

-- p has no work on the rewritten node; orienting and overlapping elsewhere stays, and so do overlaps with rules of the new equation, but where a rule is composed; reducing elsewhere stays where an equation is simplified, and opens nowhere where a rule is collapsed
pub record LeavesWorkElsewhere (b c : Plain) (p : Name) (n w : ℕ) (rest result : Tree) : Type 0 where
  pub ended : (j : Job) → process_of j ≡ p → Contains (job_nodes j) n → IsFalse (is_work_due c j)
  pub orients : (k : NodeId) → IsElsewhere c n rest result k.0 → IsDueAsBefore b c (Orient p k)
  pub overlaps : (e f : RuleRef) → IsElsewhere c n rest result e.node → IsElsewhere c n rest result f.node → IsDueAsBefore b c (Overlap p e f)
  pub uncomposed : IsFalse (is_rule b p (record { node = n; dir = other w })) → (e f : RuleRef) → e.node ≢ n → f.node ≢ n → IsDueAsBefore b c (Overlap p e f)
  pub simplified : IsTrue (is_equation b p n) → (k : NodeId) → IsElsewhere c n rest result k.0 → IsDueAsBefore b c (Reduce p k)
  pub collapsed : IsTrue (is_rule b p (record { node = n; dir = w })) → (k : NodeId) → IsElsewhere c n rest result k.0 → IsTrue (is_work_due c (Reduce p k)) → IsTrue (is_work_due b (Reduce p k))

-- the node has a pair, of which this holds for each process of the label of the rewriting
abbrev pub LeavesLabelsWork : Plain → Plain → NodeId → ℕ → RuleRef → Found → Term → Type 0
LeavesLabelsWork b c n w a found result =
    (pair : Pair) × (pair_at b n.0 ≡ Some pair) × ((p : Name) → IsTrue (has (rewrite_label b n.0 w a found) p) → LeavesWorkElsewhere b c p n.0 w (other_side pair w) (tree_of result))

-- in each possible run of a problem within the limits, this holds of each commit of this rewriting
abbrev pub LeavesWorkAtEach : NodeId → ℕ → List ℕ → RuleRef → Found → Term → Type 0
LeavesWorkAtEach n w at a found result = OfEachLimitedCommit (Made (Rewrite n w at a found result)) (λ board next _. LeavesLabelsWork board next n w a found result)

-- ---- whose cost is as before

-- each process costs what it did
abbrev pub KeepsCosts : Plain → Plain → Type 0
KeepsCosts b c = (p : Name) → cost c p ≡ cost b p

-- each living process that the effect label does not name costs what it did
abbrev pub OthersKeepCosts : Plain → Plain → Proposed → Type 0
OthersKeepCosts b c x = (p : Name) → IsTrue (has b.living p) → IsFalse (has (effect_label b x) p) → cost c p ≡ cost b p

-- ---- which rules are in use

-- some process has the rule
abbrev pub is_in_use : Plain → RuleRef → Bool
is_in_use b a = not (is_empty (label b a.node (rule_kind a.dir)))

-- the rule is in use after the commit just where it was before
abbrev pub IsUsedAsBefore : Plain → Plain → RuleRef → Type 0
IsUsedAsBefore b c a = is_in_use c a ≡ is_in_use b a

-- each rule is in use just where it was
abbrev pub KeepsRulesInUse : Plain → Plain → Type 0
KeepsRulesInUse b c = (a : RuleRef) → IsUsedAsBefore b c a

-- each rule of other nodes than the rewritten one and that of the result is in use just where it was
abbrev pub KeepsRulesElsewhere : Plain → Plain → NodeId → ℕ → Term → Type 0
KeepsRulesElsewhere b c n w result =
    (pair : Pair) → pair_at b n.0 ≡ Some pair → (a : RuleRef) → IsElsewhere c n.0 (other_side pair w) (tree_of result) a.node → IsUsedAsBefore b c a
