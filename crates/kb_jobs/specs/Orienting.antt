-- What an Orient proposes, by what it reads.
use Rattle.std.specs.Prelude.{ℕ, zero, suc, ◌≡◌, ◌≤◌, ◌⊎◌, List, ◌∷◌, length, Option, Some, None}
use Rattle.kb_term.specs.Rule.{Rule}
use Rattle.kb_linear.specs.Limits.{AreMeasurable}
use Rattle.kb_cert.specs.Family.{IsFirstOrder, IsLowerBound}
use Rattle.kb_cert.specs.declared.certificate.Certificate.{Certificate}
use Rattle.mkb_model.specs.Plain.{other}
use Rattle.mkb_model.specs.declared.proposed.Proposed.{Proposed}
use Rattle.mkb_model.specs.declared.proposed.Proposed.TheVariants.{One, Both, Refuse}
use Rattle.kb_jobs.specs.declared.orienting.OrientSnapshot.{OrientSnapshot}
use Rattle.kb_jobs.specs.declared.orienting.Start.{Start}
use Rattle.kb_jobs.specs.declared.orienting.Start.TheVariants.{Answer, Bound}
use Rattle.kb_term.specs.declared.limits.TheConstants.{MAX_SYMBOLS}

-- the rule of the direction with the constraints behind it
abbrev pub rules_towards : OrientSnapshot → ℕ → List Rule
rules_towards s zero = s.forth.items
rules_towards s (suc d) = s.back.items

-- the first member of the family that orders the rule of the direction and the constraints
abbrev pub OrientsTowards : OrientSnapshot → ℕ → Option Certificate → Type 0
OrientsTowards s d = IsFirstOrder s.family s.signature (rules_towards s d)

-- the rules are one more in front of some, and the order in force is the first of the family for those
abbrev pub AreOneMore : OrientSnapshot → List Rule → Type 0
AreOneMore s rules = (some : List Rule) × (rule : Rule) × (rules ≡ rule ∷ some) × IsFirstOrder s.family s.signature some (Some s.in_force)

-- what an Orient may read: at most 24 symbols, terms within the limits, and the first order for all rules but the first
pub record IsOrientable (s : OrientSnapshot) : Type 0 where
  pub few : length s.signature ≤ MAX_SYMBOLS
  pub forth : AreMeasurable s.forth.items
  pub back : AreMeasurable s.back.items
  pub forth_more : AreOneMore s s.forth.items
  pub back_more : AreOneMore s s.back.items

-- what the order in force says of the rules: it is the first of the family for them, or none before it orders them
abbrev pub IsStart : OrientSnapshot → List Rule → Start → Type 0
IsStart s rules (Answer order) = IsFirstOrder s.family s.signature rules (Some order)
IsStart s rules (Bound order) = IsLowerBound s.family s.signature rules order

-- what an Orient proposes: a rule in one direction, a fork into both, or that there is neither
abbrev pub ProposesOrient : OrientSnapshot → Proposed → Type 0
ProposesOrient s (One p n d c) = (p ≡ s.process) × (n ≡ s.node) × ((d ≡ 0) ⊎ (d ≡ 1)) × OrientsTowards s d (Some c) × OrientsTowards s (other d) None
ProposesOrient s (Both p n c0 c1) = (p ≡ s.process) × (n ≡ s.node) × OrientsTowards s 0 (Some c0) × OrientsTowards s 1 (Some c1)
ProposesOrient s (Refuse p n) = (p ≡ s.process) × (n ≡ s.node) × OrientsTowards s 0 None × OrientsTowards s 1 None
ProposesOrient s x = ⊥
