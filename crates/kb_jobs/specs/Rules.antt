-- Rules with their names.
use Rattle.std.specs.Prelude.{◌≡◌, List, [], ◌∷◌, length, Contains, ⊤}
use Rattle.std.specs.Ordering.{ordering_then, nat_cmp}
use Rattle.std.specs.declared.cmp.Ordering.TheVariants.{Less}
use Rattle.kb_term.specs.Rule.{Rule}
use Rattle.kb_term.specs.declared.origin.RuleRef.{RuleRef}
use Rattle.mkb_model.specs.Proposals.{NamedRule}
use Rattle.kb_jobs.specs.declared.rules.NamedRules.{NamedRules}

-- each rule with its name, as far as there are both
abbrev pub named : List RuleRef → List Rule → List NamedRule
named [] rules = []
named (a ∷ names) [] = []
named (a ∷ names) (r ∷ rules) = record { ref = a; rule = r } ∷ named names rules

-- the first name comes before the second: by node, then direction
abbrev pub ComesBefore : RuleRef → RuleRef → Type 0
ComesBefore a c = ordering_then (nat_cmp a.node c.node) (nat_cmp a.dir c.dir) ≡ Less

-- each name comes before all behind it
abbrev pub AreInOrder : List RuleRef → Type 0
AreInOrder [] = ⊤
AreInOrder (a ∷ names) = ((c : RuleRef) → Contains names c → ComesBefore a c) × AreInOrder names

-- the rules with their names
abbrev pub listed : NamedRules → List NamedRule
listed rs = named rs.names.items rs.rules

-- there are as many names as rules, and the names are in order
pub record AreNamed (rs : NamedRules) : Type 0 where
  pub as_many : length rs.names.items ≡ length rs.rules
  pub ordered : AreInOrder rs.names.items
