-- What holds of every board that a legal journal leads to.
use Rattle.std.specs.Prelude.{ℕ, ◌≤◌, ◌<◌, List, take, length, ◌≡◌, ◌≢◌, IsTrue, IsFalse, Contains, AllPairs, slice_get}
use Rattle.std.specs.declared.option.Option.TheVariants.{Some}
use Rattle.kb_term.specs.Tree.{Tree}
use Rattle.kb_term.specs.Pair.{Pair, IsCanonical, IsTrivial}
use Rattle.kb_term.specs.Rule.{Rule}
use Rattle.kb_term.specs.Signature.{Problem}
use Rattle.kb_term.specs.Proving.{IsChain}
use Rattle.kb_cert.specs.Family.{IsFirstOrder}
use Rattle.kb_overlap.specs.Trace.{FollowsBy, side}
use Rattle.kb_term.specs.declared.origin.Found.TheVariants.{Strict}
use Rattle.kb_term.specs.declared.origin.RuleRef.{RuleRef}
use Rattle.kb_cert.specs.declared.certificate.Certificate.{Certificate}
use Rattle.mkb_model.specs.Jobs.{clashes}
use Rattle.kb_label.specs.Names.{Name, has, is_beginning, IsInNameOrder}
use Rattle.kb_label.specs.Forks.{IsForked}
use Rattle.mkb_model.specs.Plain.{Plain, PlainNode, Done, GivenUp, label_in, pair_in, pair_at, rule_at, rules_at, is_equation, is_rule, constraints_of, is_over, certificate_of}
use Rattle.mkb_model.specs.DueJobs.{work_of, is_work_due}
use Rattle.mkb_model.specs.Effects.{most_living}
use Rattle.mkb_model.specs.Sleeping.{most_awake, is_active, working}
use Rattle.kb_rewrite.specs.NormalForm.{IsFound}
use Rattle.mkb_model.specs.Proposals.{IsClosedOn}
use Rattle.kb_node.specs.declared.job.Job.{Job}
use Rattle.kb_node.specs.declared.job.Job.TheVariants.{Orient, Close}
use Rattle.kb_node.specs.declared.node.NodeId.{NodeId}
use Rattle.kb_node.specs.declared.node.LabelKind.{LabelKind}
use Rattle.kb_node.specs.declared.job.Fact.{Fact}
use Rattle.mkb_model.specs.declared.entry.Ticket.{Ticket}
use Rattle.mkb_model.specs.declared.settings.Settings.{Settings}

-- the label names living processes, each once, in name order
pub record IsLabel (b : Plain) (l : List Name) : Type 0 where
  pub ordered : IsInNameOrder l
  pub living : (p : Name) → IsTrue (has l p) → IsTrue (has b.living p)

-- every label of the board is one
pub record LabelsAreLabels (b : Plain) : Type 0 where
  pub alive : IsInNameOrder b.living
  pub of_nodes : (x : PlainNode) (kind : LabelKind) → Contains b.nodes x → IsLabel b (label_in x kind)
  pub of_done : (d : Done) → Contains b.done d → IsLabel b d.names
  pub of_closed : IsLabel b b.closed
  pub of_over : (g : GivenUp) → Contains b.over g → IsLabel b g.names
  pub of_asleep : IsLabel b b.asleep

-- 1: a process has a node as an equation, as one of the two rules, or not at all
pub record HasOneRole (b : Plain) (p : Name) (n : ℕ) : Type 0 where
  pub not_both_rules : IsTrue (is_rule b p (record { node = n; dir = 0 })) → IsFalse (is_rule b p (record { node = n; dir = 1 }))
  pub no_rule : IsTrue (is_equation b p n) → IsFalse (is_rule b p (record { node = n; dir = 0 })) × IsFalse (is_rule b p (record { node = n; dir = 1 }))

-- 2: the certificate of the process is the first of the run's family that orders its constraints
pub record IsCertified (b : Plain) (p : Name) : Type 0 where
  pub certificate : Certificate
  pub there : certificate_of b p ≡ Some certificate
  pub first : IsFirstOrder b.settings.family b.problem.signature (rules_at b (constraints_of b p)) (Some certificate)

-- 3: each rule of the process leads from its left to its right side by its constraints, in one step or more
abbrev pub RulesFollow : Plain → Name → Type 0
RulesFollow b p =
    (a : RuleRef) (rule : Rule) → IsTrue (is_rule b p a) → rule_at b a ≡ Some rule
    → (path : List Tree) × (1 ≤ length path) × IsChain (rules_at b (constraints_of b p)) path rule.left rule.right

-- the fact holds of the terms on the board
pub record IsTrueFact (b : Plain) (f : Fact) : Type 0 where
  pub pair : Pair
  pub rule : Rule
  pub pair_there : pair_at b f.node.0 ≡ Some pair
  pub rule_there : rule_at b f.rule ≡ Some rule
  pub found : IsFound (side pair f.side) rule f.found

-- 4: the facts are true, and none is of a strict redex
abbrev pub FactsHold : Plain → Type 0
FactsHold b = (f : Fact) → Contains b.facts f → IsTrueFact b f × (f.found ≢ Strict)

-- 5: no ticket in flight clashes with one that was taken before it
abbrev pub FlightIsClear : Plain → Type 0
FlightIsClear b = AllPairs (λ (t u : Ticket). IsFalse (clashes u.job t.job)) b.flight

-- the job is in flight
abbrev pub IsFlying : Plain → Job → Type 0
IsFlying b j = (t : Ticket) × Contains b.flight t × (t.job ≡ j)

-- the process has not given up, and nothing but a close is due for it
pub record IsAtRest (b : Plain) (p : Name) : Type 0 where
  pub not_over : IsFalse (is_over b p)
  pub no_work : (j : Job) → Contains (work_of b p) j → IsFalse (is_work_due b j)

-- 6: a process that is closed or being closed is at rest, and a closed one is neither oriented nor closed again
pub record ClosedIsAtRest (b : Plain) (p : Name) : Type 0 where
  pub closed : IsTrue (has b.closed p) → IsAtRest b p
  pub closing : IsFlying b (Close p) → IsAtRest b p
  pub no_orient : IsTrue (has b.closed p) → (n : NodeId) → ¬ IsFlying b (Orient p n)
  pub no_close : IsTrue (has b.closed p) → ¬ IsFlying b (Close p)

-- 7: each pair is canonical and not trivial, and no two are the same
pub record PairsDiffer (b : Plain) : Type 0 where
  pub canonical : (x : PlainNode) → Contains b.nodes x → IsCanonical x.pair × ¬ IsTrivial x.pair
  pub distinct : AllPairs (λ (x y : PlainNode). x.pair ≢ y.pair) b.nodes

-- 7, besides: each pair follows from the input and earlier pairs as its origin says
abbrev pub PairsFollow : Plain → Type 0
PairsFollow b = (n : ℕ) (x : PlainNode) → slice_get b.nodes n ≡ Some x → FollowsBy b.problem.equations (pair_in (take n b.nodes)) x.origin x.pair

-- no name of the list begins another
abbrev pub AreApart : List Name → Type 0
AreApart l = (p q : Name) → IsTrue (has l p) → IsTrue (has l q) → IsTrue (is_beginning p q) → p ≡ q

-- 9: the living names are what forks make of the first, none begins another, and they are at most 1,024
pub record LivingIsForked (b : Plain) : Type 0 where
  pub forked : IsForked b.living
  pub apart : AreApart b.living
  pub few : length b.living ≤ most_living

-- 10: the tickets in flight have different numbers, from 1 to the number of takes
pub record FlightIsNumbered (taken : ℕ) (b : Plain) : Type 0 where
  pub distinct : AllPairs (λ (t u : Ticket). t.number ≢ u.number) b.flight
  pub numbers : (t : Ticket) → Contains b.flight t → (1 ≤ t.number) × (t.number ≤ taken)

-- 11: the board is of the problem and the settings, and its commits are within the budget
pub record IsWithinBudget (P : Problem) (s : Settings) (b : Plain) : Type 0 where
  pub problem : b.problem ≡ P
  pub settings : b.settings ≡ s
  pub commits : b.commits ≤ s.budget

-- 12: at most 64 processes are active and awake; where fewer are, no active one sleeps
pub record SleepersWait (b : Plain) : Type 0 where
  pub few : length (working b b.asleep) ≤ most_awake
  pub none_waits : length (working b b.asleep) < most_awake → (p : Name) → IsTrue (has b.asleep p) → IsFalse (is_active b p)

-- all of it, after so many takes
pub record IsSound (taken : ℕ) (b : Plain) : Type 0 where
  pub labels : LabelsAreLabels b
  pub one_role : (p : Name) (n : ℕ) → HasOneRole b p n
  pub certified : (p : Name) → IsTrue (has b.living p) → IsCertified b p
  pub rules_follow : (p : Name) → IsTrue (has b.living p) → RulesFollow b p
  pub facts_hold : FactsHold b
  pub flight_clear : FlightIsClear b
  pub at_rest : (p : Name) → ClosedIsAtRest b p
  pub pairs_differ : PairsDiffer b
  pub pairs_follow : PairsFollow b
  -- 8: what is closed is closed
  pub closed : (p : Name) → IsTrue (has b.closed p) → IsClosedOn b p
  pub living : LivingIsForked b
  pub flight_numbered : FlightIsNumbered taken b
  pub sleepers_wait : SleepersWait b
