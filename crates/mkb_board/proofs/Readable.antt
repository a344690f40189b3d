-- What a job reads of a legal board it may read, and what the first job names is there.
use Rattle.mkb_model.specs.Effects.{most_living}
use Rattle.mkb_model.proofs.labels.LivingLabels.{labels_live}
use Rattle.mkb_model.proofs.labels.AtMostSixtyFour.{sleepers_run}
use Rattle.std.proofs.Common.{ℕ, zero, suc, ◌≤◌, ◌<◌, ◌≡◌, true, refl, sym, ap, ◌∙◌, subst, arith, List, [], ◌∷◌, ◌++◌, map, flat_map, length, Contains, All, Option, Some, None, ⊎_elim}
use Rattle.std.specs.Prelude.{option_map, IsTrue, IsSome}
use Rattle.std.specs.List.{cons_option}
use Rattle.std.proofs.lemmas.List.Elements.{Contains-append_cases}
use Rattle.mkb_model.proofs.commits.Views.{there_pair}
use Rattle.kb_lemmas.proofs.Membership.{contains_cases, contains_flat_map_back, contains_mapped, none_in}
use Rattle.kb_lemmas.proofs.Options.{some_is, none_some}
use Rattle.kb_term.proofs.FewArguments.{few_from_arities}
use Rattle.kb_term.proofs.RuleBelow.{numbered-below}
use Rattle.kb_term.specs.FewArguments.{HasFewArguments}
use Rattle.kb_term.specs.Tree.{Tree, Trees, variable, apply, no_trees, more_trees, variables_of, HasVariablesBelow}
use Rattle.kb_term.specs.Substitution.{rename, instances}
use Rattle.kb_term.specs.Pair.{Pair, ArePairWithin, numbered, variables_of_pair, place_in}
use Rattle.kb_term.specs.Rule.{Rule, rule_of}
use Rattle.kb_term.specs.Signature.{Signature, SymbolEntry, Problem, HasArity, IsWellFormed, AreWellFormed, IsWithinLimits}
use Rattle.kb_term.specs.declared.origin.RuleRef.{RuleRef}
use Rattle.kb_linear.specs.Limits.{IsMeasurable, AreMeasurable}
use Rattle.kb_label.specs.Names.{Name, has, IsInNameOrder}
use Rattle.kb_label.proofs.Forked.{leaves-forked}
use Rattle.kb_laws.proofs.Cleaning.{length-instances}
use Rattle.kb_laws.proofs.Complete.{all_from}
use Rattle.kb_node.specs.declared.job.Job.{Job}
use Rattle.kb_node.specs.declared.job.Job.TheVariants as jobs
use Rattle.mkb_model.specs.Plain.{Plain, constraints_of, node_numbers, pair_at, rule_at, rules_at, rules_of, is_rule}
use Rattle.mkb_model.specs.DueJobs.{work_of, is_due, due_jobs, due_jobs_of, awake, flying_jobs, first_job}
use Rattle.mkb_model.specs.Jobs.{is_free, process_of}
use Rattle.mkb_model.specs.Limits.{AreLimited, IsLimitedPair}
use Rattle.mkb_model.specs.Proposals.{as_rules, named_rules}
use Rattle.mkb_model.specs.Journals.{Moment, IsPossibleRun, IsFirstJob, IsFreeJob}
use Rattle.mkb_model.proofs.runs.KnownFacts.{facts_hold}
use Rattle.mkb_model.specs.declared.entry.Ticket.{Ticket}
use Rattle.mkb_model.specs.declared.entry.Entry.{Entry}
use Rattle.mkb_model.proofs.Lists.{filter_in, filter_map_in, numbers_in}
use Rattle.mkb_model.proofs.labels.LivingNames.{within_budget, living_forked}
use Rattle.mkb_model.proofs.runs.Selections.{legal-possible, first-free}
use Rattle.mkb_model.proofs.nodes.Sizes.{limited_run, numbered_within, turned}
use Rattle.mkb_model.proofs.runs.AllFine.{states_ordered, commits_fine}
use Rattle.mkb_model.proofs.tickets.InFlight.{free_lives}
use Rattle.mkb_model.proofs.runs.Certificates.{certified_run}
use Rattle.mkb_model.specs.Invariants.{FactsHold, IsCertified, SleepersWait, IsLabel}
use Rattle.kb_jobs.specs.Groups.{IsOverlappable}
use Rattle.kb_cert.specs.Family.{IsFirstOrder}
use Rattle.kb_cert.specs.declared.certificate.Certificate.{Certificate}
use Rattle.kb_jobs.specs.Taken.{IsTakenOrient, IsTakenClose}
use Rattle.kb_jobs.specs.Orienting.{AreOneMore}
use Rattle.kb_jobs.specs.declared.orienting.OrientSnapshot.{OrientSnapshot}
use Rattle.kb_jobs.specs.Working.{IsReadable, IsTaken, job_of}
use Rattle.kb_jobs.specs.declared.closing.CloseSnapshot.{CloseSnapshot}
use Rattle.kb_jobs.specs.declared.working.Snapshot.{Snapshot}
use Rattle.kb_jobs.specs.declared.working.Snapshot.TheVariants.{Reduce, Orient, Overlap, Close}
use Rattle.kb_jobs.proofs.Settling.{as_listed}
use Rattle.mkb_board.specs.Boards.{seen, IsLegalBoard}
use Rattle.mkb_board.specs.Snapshots.{HasJobNodes, HasOrder, IsWhole}
use Rattle.mkb_board.proofs.Flying.{taken_flying}
use Rattle.mkb_board.proofs.Viewed.{passing_there, rules_before}
use Rattle.mkb_model.specs.declared.settings.Settings.{Settings}

-- ---- rules of pairs within the limits

mutual
  well_renamed : (g : Signature) (f : ℕ → ℕ) (t : Tree) → IsWellFormed g t → IsWellFormed g (rename f t)
  well_renamed g f (variable n) w = tt
  well_renamed g f (apply h ts) w = (subst {A = ℕ} (HasArity g h) (sym (length-instances (λ x. variable (f x)) ts)) w.0, wells_renamed g f ts w.1)

  wells_renamed : (g : Signature) (f : ℕ → ℕ) (ts : Trees) → AreWellFormed g ts → AreWellFormed g (instances (λ x. variable (f x)) ts)
  wells_renamed g f no_trees w = tt
  wells_renamed g f (more_trees t ts) w = (well_renamed g f t w.0, wells_renamed g f ts w.1)

module _ (g : Signature) (small : All (λ (f : SymbolEntry). f.arity ≤ 8) g) where
  few : (t : Tree) → IsWellFormed g t → HasFewArguments t
  few = few_from_arities g (λ k d l. omega (arith, small k d l))

  overlappable_rule : (q : Pair) (d : ℕ) → IsLimitedPair g q → IsOverlappable (rule_of q d)
  overlappable_rule q zero l =
      let u = numbered-below q.first q.second 64 l.within.few in
      record { variables = (u.left, u.right); arguments = few (rule_of q 0).left (well_renamed g (place_in (variables_of_pair q.first q.second)) q.first l.first) }
  overlappable_rule q (suc d) l =
      let u = numbered-below q.second q.first 64 (turned q.first q.second l.within).few in
      record { variables = (u.left, u.right); arguments = few (rule_of q 1).left (well_renamed g (place_in (variables_of_pair q.second q.first)) q.second l.second) }

below_all : (t : Tree) → HasVariablesBelow 64 t → All (λ n. n < 64) (variables_of t)
below_all t h = all_from (λ n. n < 64) (variables_of t) h

measured : (s t : Tree) → ArePairWithin s t → IsMeasurable (numbered s t).first × IsMeasurable (numbered s t).second
measured s t l =
    let u = numbered-below s t 64 l.few in
    let w = numbered_within s t l in
    (record { variables = below_all (numbered s t).first u.left; size = w.first.size; depth = w.first.depth }, record { variables = below_all (numbered s t).second u.right; size = w.second.size; depth = w.second.depth })

measured_rule : (g : Signature) (q : Pair) (d : ℕ) → IsLimitedPair g q → IsMeasurable (rule_of q d).left × IsMeasurable (rule_of q d).right
measured_rule g q zero l = measured q.first q.second l.within
measured_rule g q (suc d) l = measured q.second q.first (turned q.first q.second l.within)

rule_from : (b : Plain) (a : RuleRef) (r : Rule) → rule_at b a ≡ Some r → (q : Pair) × (pair_at b a.node ≡ Some q) × (rule_of q a.dir ≡ r)
rule_from b a r e = go (pair_at b a.node) refl e
  where
    go : (o : Option Pair) → pair_at b a.node ≡ o → option_map (λ (q : Pair). rule_of q a.dir) o ≡ Some r → (q : Pair) × (pair_at b a.node ≡ Some q) × (rule_of q a.dir ≡ r)
    go None h k = none_some k
    go (Some q) h k = (q, h, some_is k)

as_named : (b : Plain) (names : List RuleRef) → as_rules (named_rules b names) ≡ rules_at b names
as_named b [] = refl
as_named b (a ∷ names) = go (rule_at b a) (as_named b names)
  where
    go : (o : Option Rule) → as_rules (named_rules b names) ≡ rules_at b names → as_rules (cons_option (option_map (λ (r : Rule). record { ref = a; rule = r }) o) (named_rules b names)) ≡ cons_option o (rules_at b names)
    go None h = h
    go (Some r) h = ap (λ (l : List Rule). r ∷ l) h

-- ---- what is read

module _ (P : Problem) (n : Settings) (ms : List Moment) (b : Plain) (within : IsWithinLimits P) (run : IsPossibleRun P n ms b) where
  limited : AreLimited P.signature b.nodes
  limited = limited_run P n ms b within run

  overlappable : (a : RuleRef) (r : Rule) → rule_at b a ≡ Some r → IsOverlappable r
  overlappable a r e = let q = rule_from b a r e in subst {A = Rule} IsOverlappable q.2 (overlappable_rule P.signature within.arities q.0 a.dir (limited a.node q.0 q.1))

  measurable : (names : List RuleRef) → AreMeasurable (rules_at b names)
  measurable names = all_from (λ (r : Rule). IsMeasurable r.left × IsMeasurable r.right) (rules_at b names)
      (λ r i.
      let f = filter_map_in (rule_at b) names r i in
      let q = rule_from b f.0 r f.2 in
      subst {A = Rule} (λ (z : Rule). IsMeasurable z.left × IsMeasurable z.right) q.2 (measured_rule P.signature q.0 f.0.dir (limited f.0.node q.0 q.1)))

  closing_rules : (s : CloseSnapshot) → IsTakenClose b s → length s.rules.names.items ≡ length s.rules.rules → s.rules.rules ≡ rules_at b (rules_of b s.process)
  closing_rules s h w = sym (as_listed s.rules.names.items s.rules.rules w) ∙ ap as_rules h.rules ∙ as_named b (rules_of b s.process)

  -- the order in force is the first for the constraints
  first_taken : (s : OrientSnapshot) → IsTakenOrient b s → has b.living s.process ≡ true → IsFirstOrder s.family s.signature (rules_at b (constraints_of b s.process)) (Some s.in_force)
  first_taken s h lives =
      let k = certified_run P n ms b within run s.process lives in
      let same : k.certificate ≡ s.in_force = some_is (sym k.there ∙ h.in_force) in
      subst (λ z. z) (λ i. IsFirstOrder (sym h.family i) (sym h.signature i) (rules_at b (constraints_of b s.process)) (Some (same i))) k.first

  -- the rule of a direction of the node with the constraints behind it
  one_more : (s : OrientSnapshot) → IsTakenOrient b s → has b.living s.process ≡ true → s.node.0 < length b.nodes → (rules : List Rule) (d : ℕ) → rules ≡ rules_at b (record { node = s.node.0; dir = d } ∷ constraints_of b s.process) → AreOneMore s rules
  one_more s h lives there rules d e =
      let q = there_pair b.nodes s.node.0 there in
      let a : RuleRef = record { node = s.node.0; dir = d } in
      let r : rule_at b a ≡ Some (rule_of q.0 d) = ap (option_map (λ (z : Pair). rule_of z d)) q.1 in
      (rules_at b (constraints_of b s.process), rule_of q.0 d, e ∙ rules_before b (constraints_of b s.process) a (rule_of q.0 d) r, first_taken s h lives)

  -- a whole snapshot of the board may be read
  pub readable : (s : Snapshot) → IsTaken b s → IsWhole s → has b.living (process_of (job_of s)) ≡ true → HasJobNodes b (job_of s) → IsReadable s
  readable (Reduce s) h w lives there =
      let l = limited s.node.0 s.pair h.pair in
      record { rules = w.rules; few = w.few; first = few P.signature within.arities s.pair.first l.first; second = few P.signature within.arities s.pair.second l.second; unknown = w.unknown }
  readable (Orient s) h w lives there =
      let of_problem : b.problem ≡ P = (within_budget IsFreeJob P n ms b run).problem in
      record {
        few = omega (arith, ap length h.signature, ap (λ (z : Problem). length z.signature) of_problem, within.symbols);
        forth = subst {A = List Rule} AreMeasurable (sym h.forth) (measurable (record { node = s.node.0; dir = 0 } ∷ constraints_of b s.process));
        back = subst {A = List Rule} AreMeasurable (sym h.back) (measurable (record { node = s.node.0; dir = 1 } ∷ constraints_of b s.process));
        forth_more = one_more s h lives there s.forth.items 0 h.forth;
        back_more = one_more s h lives there s.back.items 1 h.back;
      }
  readable (Overlap s) h w lives there = record { first = overlappable s.first s.first_rule h.first; second = overlappable s.second s.second_rule h.second }
  readable (Close s) h w lives there =
      let e = closing_rules s h w in
      record {
        overlappable = record {
          as_many = w;
          each = λ r i. let f = filter_map_in (rule_at b) (rules_of b s.process) r (subst {A = List Rule} (λ rs. Contains rs r) e i) in overlappable f.0 r f.2;
        };
        held = λ r i. (((states_ordered P n ms b within run (commits_fine P n ms b within run)) s.process).sound.rules r (subst {A = List Rule} (λ rs. Contains rs r) e i)).is_rule.holds_variables;
      }

-- the pairs of a legal board are within the limits
pub limited_on : (state : Plain) (flight : List Ticket) (J : List Entry) → IsLegalBoard (seen state flight J) → AreLimited state.problem.signature state.nodes
limited_on state flight J legal =
    let c = seen state flight J in
    let r = legal.after in
    limited_run c.plain.problem c.plain.settings r.0 c.plain legal.within (legal-possible c.plain.problem c.plain.settings r.0 c.plain r.2)

-- the facts hold
pub facts_on : (state : Plain) (flight : List Ticket) (J : List Entry) → IsLegalBoard (seen state flight J) → FactsHold state
facts_on state flight J legal f i =
    let c = seen state flight J in
    let r = legal.after in
    let h = facts_hold IsFirstJob c.plain.problem c.plain.settings r.0 c.plain r.2 f i in
    (record { pair = h.0.pair; rule = h.0.rule; pair_there = h.0.pair_there; rule_there = h.0.rule_there; found = h.0.found }, h.1)

-- and its living processes are in the order of names
pub ordered_on : (state : Plain) (flight : List Ticket) (J : List Entry) → IsLegalBoard (seen state flight J) → IsInNameOrder state.living
ordered_on state flight J legal =
    let c = seen state flight J in
    let r = legal.after in
    (leaves-forked state.living (living_forked IsFreeJob c.plain.problem c.plain.settings r.0 c.plain (legal-possible c.plain.problem c.plain.settings r.0 c.plain r.2)).forked).in_order

-- of which there are at most 1,024
pub few_on : (state : Plain) (flight : List Ticket) (J : List Entry) → IsLegalBoard (seen state flight J) → length state.living ≤ most_living
few_on state flight J legal =
    let c = seen state flight J in
    let r = legal.after in
    (living_forked IsFreeJob c.plain.problem c.plain.settings r.0 c.plain (legal-possible c.plain.problem c.plain.settings r.0 c.plain r.2)).few

-- at most 64 processes are active and awake, and where fewer are none waits
pub waits_on : (state : Plain) (flight : List Ticket) (J : List Entry) → IsLegalBoard (seen state flight J) → SleepersWait (record state { flight = flight })
waits_on state flight J legal =
    let c = seen state flight J in
    let r = legal.after in
    sleepers_run c.plain.problem c.plain.settings r.0 c.plain (legal-possible c.plain.problem c.plain.settings r.0 c.plain r.2)

-- the sleepers are living processes, in the order of names
pub sleepers_on : (state : Plain) (flight : List Ticket) (J : List Entry) → IsLegalBoard (seen state flight J) → IsLabel state state.asleep
sleepers_on state flight J legal =
    let c = seen state flight J in
    let r = legal.after in
    let k = (labels_live c.plain.problem c.plain.settings r.0 c.plain (legal-possible c.plain.problem c.plain.settings r.0 c.plain r.2)).of_asleep in
    record { ordered = k.ordered; living = k.living }

-- the certificate of a living process is of the run's family and orders its constraints
pub certified_on : (state : Plain) (flight : List Ticket) (J : List Entry) → IsLegalBoard (seen state flight J) → (p : Name) → IsTrue (has state.living p) → IsCertified (seen state flight J).plain p
certified_on state flight J legal p lives =
    let c = seen state flight J in
    let r = legal.after in
    certified_run c.plain.problem c.plain.settings r.0 c.plain legal.within (legal-possible c.plain.problem c.plain.settings r.0 c.plain r.2) p lives

-- ---- what is named

work_there : (b : Plain) (p : Name) (j : Job) → Contains (work_of b p ++ jobs.Close p ∷ []) j → HasJobNodes b j
work_there b p j i =
    ⊎_elim
    (λ k. ⊎_elim reduces (λ l. ⊎_elim orients overlaps (Contains-append_cases (map (λ n. jobs.Orient p (record { 0 = n })) (node_numbers b)) _ j l)) (Contains-append_cases (map (λ n. jobs.Reduce p (record { 0 = n })) (node_numbers b)) _ j k))
    (λ k. subst {A = Job} (HasJobNodes b) (⊎_elim (λ e. e) (λ l. none_in l) (contains_cases (jobs.Close p) [] j k)) tt)
    (Contains-append_cases (work_of b p) (jobs.Close p ∷ []) j i)
  where
    numbered_there : (m : ℕ) → Contains (node_numbers b) m → m < length b.nodes
    numbered_there m k = let l = numbers_in 0 (length b.nodes) m k in omega (arith, l.1)

    reduces : Contains (map (λ n. jobs.Reduce p (record { 0 = n })) (node_numbers b)) j → HasJobNodes b j
    reduces k = let m = contains_mapped (λ n. jobs.Reduce p (record { 0 = n })) (node_numbers b) j k in subst {A = Job} (HasJobNodes b) m.2 (numbered_there m.0 m.1)

    orients : Contains (map (λ n. jobs.Orient p (record { 0 = n })) (node_numbers b)) j → HasJobNodes b j
    orients k = let m = contains_mapped (λ n. jobs.Orient p (record { 0 = n })) (node_numbers b) j k in subst {A = Job} (HasJobNodes b) m.2 (numbered_there m.0 m.1)

    overlaps : Contains (flat_map (λ (a : RuleRef). map (jobs.Overlap p a) (rules_of b p)) (rules_of b p)) j → HasJobNodes b j
    overlaps k =
        let m = contains_flat_map_back (λ (a : RuleRef). map (jobs.Overlap p a) (rules_of b p)) (rules_of b p) j k in
        let l = contains_mapped (jobs.Overlap p m.0) (rules_of b p) j m.2 in
        subst {A = Job} (HasJobNodes b) l.2 (passing_there b (is_rule b p) m.0 m.1, passing_there b (is_rule b p) l.0 l.1)

free_there : (b : Plain) (j : Job) → IsFreeJob b j → HasJobNodes b j
free_there b j i =
    let f = filter_in (is_free (flying_jobs b)) (due_jobs b) j i in
    let m = contains_flat_map_back (due_jobs_of b) (awake b) j f.0 in
    work_there b m.0 j (filter_in (is_due b) (work_of b m.0 ++ jobs.Close m.0 ∷ []) j m.2).0

grounded : (state : Plain) (flight : List Ticket) (j : Job) → HasJobNodes (record state { flight = flight }) j → HasJobNodes state j
grounded state flight (jobs.Reduce p n) h = h
grounded state flight (jobs.Orient p n) h = h
grounded state flight (jobs.Overlap p a c) h = h
grounded state flight (jobs.Close p) h = h

-- the nodes that the first job names are there
pub first_there : (state : Plain) (flight : List Ticket) (j : Job) → first_job (record state { flight = flight }) ≡ Some j → HasJobNodes state j
first_there state flight j e = let b : Plain = record state { flight = flight } in grounded state flight j (free_there b j (first-free b j e))

-- a whole snapshot of the first job may be read
pub readable_on : (state : Plain) (flight : List Ticket) (J : List Entry) → IsLegalBoard (seen state flight J) → (j : Job) → first_job (record state { flight = flight }) ≡ Some j → (s : Snapshot) → job_of s ≡ j → IsTaken state s → IsWhole s → IsReadable s
readable_on state flight J legal j first s job h w =
    let c = seen state flight J in
    let r = legal.after in
    let free = first-free c.plain j first in
    readable c.plain.problem c.plain.settings r.0 c.plain legal.within (legal-possible c.plain.problem c.plain.settings r.0 c.plain r.2) s (taken_flying state flight s h) w
    (subst {A = Job} (λ z. has c.plain.living (process_of z) ≡ true) (sym job) (free_lives c.plain j free))
    (subst {A = Job} (HasJobNodes c.plain) (sym job) (free_there c.plain j free))

-- the process of an Orient that is the first job lives and has an order
pub first_ordered : (state : Plain) (flight : List Ticket) (J : List Entry) → IsLegalBoard (seen state flight J) → (j : Job) → first_job (record state { flight = flight }) ≡ Some j → HasOrder state j
first_ordered state flight J legal (jobs.Reduce p n) e = tt
first_ordered state flight J legal (jobs.Overlap p a c) e = tt
first_ordered state flight J legal (jobs.Close p) e = tt
first_ordered state flight J legal (jobs.Orient p n) e =
    let b : Plain = record state { flight = flight } in
    let lives = free_lives b (jobs.Orient p n) (first-free b (jobs.Orient p n) e) in
    (lives, subst {A = Option Certificate} IsSome (sym (certified_on state flight J legal p lives).there) refl)
