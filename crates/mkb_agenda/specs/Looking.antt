-- Which jobs of a process are looked at again.
use Rattle.std.specs.Prelude.{ℕ, ◌≡◌, ◌≢◌, ◌⊎◌, ◌↔◌, List, [], ◌∷◌, ◌++◌, map, if◌then◌else◌, Bool, ◌&&◌, All, Contains, IsFalse, IsTrue, Option, Some, None}
use Rattle.std.specs.List.{flat_map, list_any}
use Rattle.std.specs.Option.{option_map_or}
use Rattle.kb_label.specs.Names.{Name, has}
use Rattle.kb_node.specs.declared.node.NodeId.{NodeId}
use Rattle.kb_node.specs.declared.job.Job.{Job}
use Rattle.kb_node.specs.declared.job.Job.TheVariants.{Reduce, Orient, Overlap, Close}
use Rattle.kb_term.specs.declared.origin.RuleRef.{RuleRef}
use Rattle.mkb_model.specs.Jobs.{process_of, ref_le}
use Rattle.mkb_model.specs.Plain.{Plain, cost, is_rule, rules_of, weight}
use Rattle.mkb_model.specs.DueJobs.{is_working, is_work_due}
use Rattle.mkb_rules.specs.Named.{IsThere, IsRuleThere}
use Rattle.mkb_rules.specs.Roles.{AreRolesOf, held_of, roles_of}
use Rattle.mkb_pick.specs.Tasks.{job_of, work_of}
use Rattle.mkb_pick.specs.Listings.{Listed, HasJob}
use Rattle.mkb_agenda.specs.Agendas.{IsDueJob, IsListedAs, ListsJobsAs}
use Rattle.mkb_agenda.specs.Open.{is_open_to}
use Rattle.mkb_agenda.specs.declared.due.Seen.{Seen}
use Rattle.mkb_agenda.specs.declared.looking.Touched.{Touched}

-- ---- what is looked at

-- the nodes, the roles and the rules are those of the process
pub record IsSeen (s : Seen) : Type 0 where
  pub nodes : map (λ (n : NodeId). n.0) s.nodes.now ≡ held_of s.state.now s.process.now
  pub roles : AreRolesOf s.state.now.nodes s.process.now s.roles.now
  pub rules : s.rules.now ≡ rules_of s.state.now s.process.now

-- the nodes and rules that the job names are there
abbrev pub HasJobThere : Plain → Job → Type 0
HasJobThere b (Reduce p n) = IsThere b n.0
HasJobThere b (Orient p n) = IsThere b n.0
HasJobThere b (Overlap p a c) = IsThere b a.node × IsThere b c.node
HasJobThere b (Close p) = Unit {0}

-- ---- jobs that are looked at again

-- the overlap of two rules, in their order
abbrev pub overlap_of : Name → RuleRef → RuleRef → Job
overlap_of p a e = if ref_le a e then Overlap p a e else Overlap p e a

-- reducing and orienting each of the nodes
abbrev pub jobs_on : Name → List NodeId → List Job
jobs_on p ns = flat_map (λ (n : NodeId). Reduce p n ∷ Orient p n ∷ []) ns

-- reducing each node that the process has
abbrev pub reductions_of : Plain → Name → List Job
reductions_of b p = map (λ n. Reduce p (record { 0 = n })) (held_of b p)

-- the overlaps of each of the rules with each of the process's, and with each other
abbrev pub overlaps_with : Plain → Name → List RuleRef → List Job
overlaps_with b p rules = flat_map (λ (a : RuleRef). map (overlap_of p a) (rules_of b p ++ rules)) rules

-- the overlap of two rules, if there are two
abbrev pub overlap_if : Name → Option (RuleRef × RuleRef) → List Job
overlap_if p overlap = option_map_or (λ (o : RuleRef × RuleRef). Overlap p o.0 o.1 ∷ []) overlap []

-- what a wide look knows: nodes whose jobs are looked at besides, the rules that may be new, and whether a rule may be lost
pub record Reach : Type 0 where
  pub nodes : List NodeId
  pub rules : List RuleRef
  pub loses : Bool

abbrev pub reach_of : Touched → Reach
reach_of t = record { nodes = t.nodes.now; rules = t.rules.now; loses = t.loses_rule }

-- the same with no node that is looked at besides
abbrev pub bare_reach_of : Touched → Reach
bare_reach_of t = record { nodes = []; rules = t.rules.now; loses = t.loses_rule }

-- some of these rules is one of the process, and open to the node
abbrev pub is_gained : Plain → Name → List RuleRef → ℕ → Bool
is_gained b p rules n = list_any (λ (a : RuleRef). is_rule b p a && is_open_to b (roles_of b p n) n a) rules

-- the jobs, but for closing, that are looked at again
abbrev pub touched_jobs : Plain → Touched → List Job
touched_jobs b t =
    jobs_on t.process.now t.nodes.now
    ++ ((if t.is_wide then reductions_of b t.process.now else [])
    ++ (overlaps_with b t.process.now t.rules.now
    ++ overlap_if t.process.now t.overlap))

-- the rules of the overlap, if there is one, are there
abbrev pub HasOverlapThere : Plain → Option (RuleRef × RuleRef) → Type 0
HasOverlapThere b None = Unit {0}
HasOverlapThere b (Some o) = IsRuleThere b o.0 × IsRuleThere b o.1

-- the nodes and the rules that are named are there
pub record AreThere (b : Plain) (t : Touched) : Type 0 where
  pub nodes : All (λ (n : NodeId). IsThere b n.0) t.nodes.now
  pub rules : All (IsRuleThere b) t.rules.now
  pub overlap : HasOverlapThere b t.overlap

-- ---- what looking again changes

-- of these jobs those that are due by what their process sees are listed, each under its weight, and no other; each other job is listed as before
abbrev pub ListsAnew : Plain → List Job → List Listed → List Listed → Type 0
ListsAnew b js ps qs = (j : Job) (w : ℕ) → HasJob qs j w ↔ ((Contains js j × (IsTrue (is_work_due b j) × (w ≡ weight b j))) ⊎ (HasJob ps j w × ¬ (Contains js j × (w ≡ weight b j))))

-- of the reducings of nodes beyond these what is due is listed, or one of the rules makes it due; and where no rule is lost, what is listed is due
pub record IsNearlyListed (c : Plain) (q : Name) (r : Reach) (ps : List Listed) : Type 0 where
  pub gained : (n : NodeId) → ¬ Contains r.nodes n → IsTrue (is_work_due c (Reduce q n)) → HasJob ps (Reduce q n) (weight c (Reduce q n)) ⊎ IsTrue (is_gained c q r.rules n.0)
  pub kept : IsFalse r.loses → (n : NodeId) → ¬ Contains r.nodes n → HasJob ps (Reduce q n) (weight c (Reduce q n)) → IsTrue (is_work_due c (Reduce q n))

-- no job of another process changes
abbrev pub KeepsOthers : Name → List Listed → List Listed → Type 0
KeepsOthers q ps qs = (j : Job) (w : ℕ) → process_of j ≢ q → HasJob qs j w ↔ HasJob ps j w

-- the work that is due for the process is listed, each job under its weight; nothing is said of its closing
abbrev pub ListsWork : Plain → Name → List Listed → Type 0
ListsWork b p ps = (j : Job) (w : ℕ) → process_of j ≡ p → j ≢ Close p → HasJob ps j w ↔ (IsDueJob b j × (w ≡ weight b j))

-- q has the jobs due on board c that p has on board b, but for these and for closing; and each weighs what it did
pub record DiffersAt (b : Plain) (p : Name) (c : Plain) (q : Name) (js : List Job) : Type 0 where
  pub jobs : (j : Job) → process_of j ≡ q → j ≢ Close q → ¬ Contains js j → IsDueJob c j ↔ IsDueJob b (job_of p (work_of j))
  pub weights : (j : Job) → IsDueJob b j → weight c j ≡ weight b j

-- q works and sleeps on board c where p does on board b, and has the jobs that p had but for these and its closing
pub record ComesFrom (b : Plain) (p : Name) (c : Plain) (q : Name) (js : List Job) : Type 0 where
  pub working : is_working c q ≡ is_working b p
  pub asleep : has c.asleep q ≡ has b.asleep p
  pub differs : DiffersAt b p c q js

-- q's reducing of each node beyond these comes to be due by one of the rules alone, and where no rule is lost it stays due
pub record ReducesBy (b : Plain) (p : Name) (c : Plain) (q : Name) (r : Reach) : Type 0 where
  pub gained : (n : NodeId) → ¬ Contains r.nodes n → IsTrue (is_work_due c (Reduce q n)) → IsTrue (is_work_due b (Reduce p n)) ⊎ IsTrue (is_gained c q r.rules n.0)
  pub kept : IsFalse r.loses → (n : NodeId) → ¬ Contains r.nodes n → IsTrue (is_work_due b (Reduce p n)) → IsTrue (is_work_due c (Reduce q n))

-- the process comes from p on board b with what is touched
pub record ComesTouched (b : Plain) (p : Name) (c : Plain) (t : Touched) : Type 0 where
  pub comes : ComesFrom b p c t.process.now (touched_jobs c t)
  pub reduces : IsTrue t.is_wide → ReducesBy b p c t.process.now (reach_of t)

-- p stands on board c as it does on board b, but that its reducing of the node may be due no more
pub record MayEnd (b c : Plain) (p : Name) (n : NodeId) : Type 0 where
  pub working : is_working c p ≡ is_working b p
  pub asleep : has c.asleep p ≡ has b.asleep p
  pub closed : has c.closed p ≡ has b.closed p
  pub cost : IsTrue (is_working b p) → cost c p ≡ cost b p
  pub work : (j : Job) → process_of j ≡ p → j ≢ Reduce p n → is_work_due c j ≡ is_work_due b j
  pub ended : IsTrue (is_work_due c (Reduce p n)) → IsTrue (is_work_due b (Reduce p n))
  pub weights : (j : Job) → IsDueJob b j → weight c j ≡ weight b j

-- a process that is listed as it was on some board, or as its parent was, comes to be listed as on board c, where it comes from there so
abbrev pub BringsOne : Plain → Name → (Plain → Name → Type 0) → List Listed → List Listed → Type 0
BringsOne c q Comes ps qs = (b : Plain) (p : Name) → IsListedAs b p q ps → Comes b p → IsListedAs c q q qs

-- where the other work of a working process is listed, and its closing at most without weight, its closing comes to be listed as it is due
abbrev pub ListsClosing : Plain → Name → List Listed → List Listed → Type 0
ListsClosing b p ps qs = IsTrue (is_working b p) → ListsWork b p ps → ((w : ℕ) → HasJob ps (Close p) w → w ≡ 0) → ListsJobsAs b p p qs
