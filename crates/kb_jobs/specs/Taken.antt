-- Snapshots that are taken from a board.
use Rattle.std.specs.Prelude.{ℕ, ◌≡◌, ◌⊎◌, ◌||◌, ◌∷◌, Some, Contains, IsFalse}
use Rattle.kb_term.specs.Rule.{Rule}
use Rattle.kb_term.specs.declared.origin.Found.{Found}
use Rattle.kb_overlap.specs.Trace.{side}
use Rattle.kb_rewrite.specs.NormalForm.{IsFound}
use Rattle.mkb_model.specs.Plain.{Plain, certificate_of, pair_at, rule_at, rules_at, constraints_of, is_equation, is_rule}
use Rattle.mkb_model.specs.DueJobs.{reducers, is_usable}
use Rattle.mkb_model.specs.Proposals.{NamedRule, named_rules, unknown, rules_on, equations_on}
use Rattle.kb_jobs.specs.Rules.{listed}
use Rattle.kb_jobs.specs.Reducing.{unknown_of}
use Rattle.kb_jobs.specs.Closing.{equations_of, inputs_of}
use Rattle.kb_jobs.specs.declared.closing.CloseSnapshot.{CloseSnapshot}
use Rattle.kb_jobs.specs.declared.reducing.ReduceSnapshot.{ReduceSnapshot}
use Rattle.kb_jobs.specs.declared.orienting.OrientSnapshot.{OrientSnapshot}
use Rattle.kb_jobs.specs.declared.overlapping.OverlapSnapshot.{OverlapSnapshot}

-- whatever redex the rule has on a side, the process may not rewrite it
abbrev pub IsIdleOn : Plain → ReduceSnapshot → Rule → Type 0
IsIdleOn b s rule = (w : ℕ) (kind : Found) → (w ≡ 0) ⊎ (w ≡ 1) → IsFound (side s.pair w) rule kind → IsFalse (is_usable b s.process s.node.0 w kind)

-- the snapshot has the pair, rules of the process elsewhere, among them all that aren't idle, and what is unknown; on a side any redex may be rewritten where the process has the equation, or the rule with that side on the right
pub record IsTakenReduce (b : Plain) (s : ReduceSnapshot) : Type 0 where
  pub pair : pair_at b s.node.0 ≡ Some s.pair
  pub rules : (x : NamedRule) → Contains (listed s.rules) x → Contains (named_rules b (reducers b s.process s.node.0)) x
  pub others : (x : NamedRule) → Contains (named_rules b (reducers b s.process s.node.0)) x → Contains (listed s.rules) x ⊎ IsIdleOn b s x.rule
  pub any_first : s.any_first ≡ (is_equation b s.process s.node.0 || is_rule b s.process (record { node = s.node.0; dir = 1 }))
  pub any_second : s.any_second ≡ (is_equation b s.process s.node.0 || is_rule b s.process (record { node = s.node.0; dir = 0 }))
  pub unknown : unknown_of s ≡ unknown b s.process s.node.0

-- the snapshot has the run's family, the board's signature, the order in force, and the rule of each direction of the node with the process's constraints behind it
pub record IsTakenOrient (b : Plain) (s : OrientSnapshot) : Type 0 where
  pub family : s.family ≡ b.settings.family
  pub signature : s.signature ≡ b.problem.signature
  pub in_force : certificate_of b s.process ≡ Some s.in_force
  pub forth : s.forth.items ≡ rules_at b (record { node = s.node.0; dir = 0 } ∷ constraints_of b s.process)
  pub back : s.back.items ≡ rules_at b (record { node = s.node.0; dir = 1 } ∷ constraints_of b s.process)

-- the snapshot has the two rules that its names name
pub record IsTakenOverlap (b : Plain) (s : OverlapSnapshot) : Type 0 where
  pub first : rule_at b s.first ≡ Some s.first_rule
  pub second : rule_at b s.second ≡ Some s.second_rule

-- the snapshot has the process's rules and equations, and the input equations
pub record IsTakenClose (b : Plain) (s : CloseSnapshot) : Type 0 where
  pub rules : listed s.rules ≡ rules_on b s.process
  pub equations : equations_of s.equations.items ≡ equations_on b s.process
  pub inputs : inputs_of s ≡ b.problem.equations
