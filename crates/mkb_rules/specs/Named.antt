-- The nodes and processes that a proposal names are there.
use Rattle.std.specs.Prelude.{ℕ, length, ◌<◌, ◌≤◌, IsTrue, ⊤, Option, Some, None}
use Rattle.kb_label.specs.Names.{Name, has}
use Rattle.kb_term.specs.declared.origin.RuleRef.{RuleRef}
use Rattle.kb_term.specs.declared.origin.Found.{Found}
use Rattle.kb_node.specs.declared.job.Job.{Job}
use Rattle.kb_node.specs.declared.job.Job.TheVariants.{Reduce, Orient, Overlap, Close}
use Rattle.mkb_model.specs.Plain.{Plain}
use Rattle.mkb_model.specs.declared.proposed.Proposed.{Proposed}
use Rattle.mkb_model.specs.declared.proposed.Proposed.TheVariants.{Facts, Rewrite, One, Both, Refuse, Deduce, Unjoined, Closed, Limit}

-- the node is there
abbrev pub IsThere : Plain → ℕ → Type 0
IsThere b n = n < length b.nodes

-- the rule's node is there, and the rule is of one of its two directions
abbrev pub IsRuleThere : Plain → RuleRef → Type 0
IsRuleThere b a = IsThere b a.node × (a.dir ≤ 1)

-- the process lives
abbrev pub Lives : Plain → Name → Type 0
Lives b p = IsTrue (has b.living p)

-- the rule of a redex, if there is one, is there
abbrev pub HasRedexRule : Plain → Option (ℕ × RuleRef × Found) → Type 0
HasRedexRule b None = ⊤
HasRedexRule b (Some r) = IsThere b r.1.node

-- the nodes that the job names are there, and the process that an Orient or Close names lives
abbrev pub HasNamedJob : Plain → Job → Type 0
HasNamedJob b (Reduce p n) = IsThere b n.0
HasNamedJob b (Orient p n) = IsThere b n.0 × Lives b p
HasNamedJob b (Overlap p a c) = IsThere b a.node × IsThere b c.node
HasNamedJob b (Close p) = Lives b p

-- the nodes that the proposal names are there, and the process that an orienting or a closing names lives
abbrev pub HasNamed : Plain → Proposed → Type 0
HasNamed b (Facts fs) = ⊤
HasNamed b (Rewrite n w at a found t) = IsThere b n.0 × IsThere b a.node
HasNamed b (One p n d c) = IsThere b n.0 × Lives b p
HasNamed b (Both p n c0 c1) = IsThere b n.0 × Lives b p
HasNamed b (Refuse p n) = IsThere b n.0 × Lives b p
HasNamed b (Deduce a c pairs) = IsThere b a.node × IsThere b c.node
HasNamed b (Unjoined p pairs) = Lives b p
HasNamed b (Closed p) = Lives b p
HasNamed b (Limit j cause) = HasNamedJob b j × HasRedexRule b cause.redex
