-- What a job reads of a board.
use Rattle.std.specs.Prelude.{ℕ, ◌≡◌, ◌<◌, ◌≤◌, ◌^◌, List, map, length, filter, is_none, slice_get, All, IsSome, ⊤}
use Rattle.std.specs.Option.{option_map_or}
use Rattle.kb_term.specs.declared.origin.RuleRef.{RuleRef}
use Rattle.kb_node.specs.declared.job.Job.{Job}
use Rattle.kb_node.specs.declared.job.Job.TheVariants as jobs
use Rattle.kb_label.specs.Names.{Name}
use Rattle.mkb_model.specs.Plain.{Plain, certificate_of, known, rules_of}
use Rattle.mkb_rules.specs.Named.{IsRuleThere, Lives}
use Rattle.mkb_rules.specs.Roles.{roles_of}
use Rattle.mkb_agenda.specs.Open.{is_open_to}
use Rattle.kb_jobs.specs.Rules.{AreNamed}
use Rattle.kb_jobs.specs.Reducing.{no_name}
use Rattle.kb_jobs.specs.declared.reducing.ReduceSnapshot.{ReduceSnapshot}
use Rattle.kb_jobs.specs.declared.working.Snapshot.{Snapshot}
use Rattle.kb_jobs.specs.declared.working.Snapshot.TheVariants.{Reduce, Orient, Overlap, Close}

-- the nodes that the job names are there
abbrev pub HasJobNodes : Plain → Job → Type 0
HasJobNodes b (jobs.Reduce p n) = n.0 < length b.nodes
HasJobNodes b (jobs.Orient p n) = n.0 < length b.nodes
HasJobNodes b (jobs.Overlap p a c) = IsRuleThere b a × IsRuleThere b c
HasJobNodes b (jobs.Close p) = ⊤

-- the process of an Orient lives and has an order
abbrev pub HasOrder : Plain → Job → Type 0
HasOrder b (jobs.Reduce p n) = ⊤
HasOrder b (jobs.Orient p n) = Lives b p × IsSome (certificate_of b p)
HasOrder b (jobs.Overlap p a c) = ⊤
HasOrder b (jobs.Close p) = ⊤

-- the rules of p in nodes other than n to which some side of n is open
abbrev pub open_rules : Plain → Name → ℕ → List RuleRef
open_rules b p n = filter (is_open_to b (roles_of b p n) n) (rules_of b p)

-- sides with the names of rules, for sides with the numbers of rules
abbrev pub with_names : List RuleRef → List (ℕ × ℕ) → List (ℕ × RuleRef)
with_names names us = map (λ (u : ℕ × ℕ). (u.0, option_map_or (λ a. a) (slice_get names u.1) no_name)) us

-- the side with each of the rules of which nothing is known on it
abbrev pub unknown_on : Plain → ℕ → List RuleRef → ℕ → List (ℕ × RuleRef)
unknown_on b n names w = map (λ a. (w, a)) (filter (λ a. is_none (known b n w a)) names)

-- each names a side and one of so many rules
abbrev pub AreWithin : ℕ → List (ℕ × ℕ) → Type 0
AreWithin k us = All (λ (u : ℕ × ℕ). (u.0 ≤ 1) × (u.1 < k)) us

-- the rules have their names in order, and are fewer than 2^32; what is unknown names sides and rules that are there
pub record IsWholeReduce (s : ReduceSnapshot) : Type 0 where
  pub rules : AreNamed s.rules
  pub few : length s.rules.rules < 2 ^ 32
  pub unknown : AreWithin (length s.rules.rules) s.unknown.items

-- the parts of the snapshot fit each other
abbrev pub IsWhole : Snapshot → Type 0
IsWhole (Reduce s) = IsWholeReduce s
IsWhole (Orient s) = ⊤
IsWhole (Overlap s) = ⊤
IsWhole (Close s) = length s.rules.names.items ≡ length s.rules.rules
