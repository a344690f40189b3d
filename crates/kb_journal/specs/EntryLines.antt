-- The lines of a journal's entries.
use Rattle.std.specs.Prelude.{ℕ, ◌≤◌, ◌<◌, ◌^◌, ◌≡◌, List, [], ◌∷◌, ◌++◌, length, Option, Some, None, option_map, option_and_then, codes, decimal, ⊤}
use Rattle.kb_term.specs.Tree.{Tree}
use Rattle.kb_term.specs.View.{tree_of}
use Rattle.kb_term.specs.Pair.{Pair, canonical_pair, variables_of_pair}
use Rattle.kb_term.specs.declared.origin.RuleRef.{RuleRef}
use Rattle.kb_overlap.specs.Trace.{other_side}
use Rattle.kb_label.specs.Names.{Name}
use Rattle.kb_node.specs.declared.job.Job.{Job}
use Rattle.kb_node.specs.declared.job.Job.TheVariants as jobs
use Rattle.mkb_model.specs.Plain.{PlainNode, pair_in}
use Rattle.mkb_model.specs.Effects.{node_of}
use Rattle.mkb_model.specs.declared.proposed.Proposed.{Proposed}
use Rattle.mkb_model.specs.declared.proposed.Proposed.TheVariants as proposals
use Rattle.mkb_model.specs.declared.entry.Effect.{Effect}
use Rattle.mkb_model.specs.declared.entry.Effect.TheVariants as effects
use Rattle.mkb_model.specs.declared.entry.Entry.{Entry}
use Rattle.mkb_model.specs.declared.entry.Entry.TheVariants as entries
use Rattle.kb_report.specs.Reports.{reason_word}
use Rattle.kb_report.specs.Summaries.{process_text}
use Rattle.kb_journal.specs.declared.entry_line.EntryLine.{EntryLine}
use Rattle.kb_journal.specs.declared.entry_line.EntryLine.TheVariants.{TakeReduce, TakeOrient, TakeOverlap, TakeClose, Facts, Rewrite, Oriented, Fork, Refused, Deduced, Unjoined, Closed, Over, Drop, Abandon, Halt}
use Rattle.kb_term.specs.declared.limits.TheConstants.{MAX_NODES, MAX_VARIABLES}

-- ---- how a line is written

-- a rule: its node and its direction
abbrev pub rule_text : RuleRef → List ℕ
rule_text a = decimal a.node ++ codes "." ++ decimal a.dir

-- the node of a new pair, or the word for none
abbrev pub target_text : Option ℕ → List ℕ
target_text None = codes "trivial"
target_text (Some n) = decimal n

-- the fields of a take before what the job names
abbrev pub take_fields : ℕ → ℕ → List ℕ → Name → List (List ℕ)
take_fields w t kind p = codes "take" ∷ decimal w ∷ decimal t ∷ kind ∷ process_text p ∷ []

-- the fields of a commit before what it counts or names
abbrev pub commit_fields : ℕ → List ℕ → List (List ℕ)
commit_fields t kind = codes "commit" ∷ decimal t ∷ kind ∷ []

-- the line is of a commit
abbrev pub IsCommitLine : EntryLine → Type 0
IsCommitLine (Facts t k) = ⊤
IsCommitLine (Rewrite t n) = ⊤
IsCommitLine (Oriented t d) = ⊤
IsCommitLine (Fork t) = ⊤
IsCommitLine (Refused t) = ⊤
IsCommitLine (Deduced t k) = ⊤
IsCommitLine (Unjoined t k) = ⊤
IsCommitLine (Closed t) = ⊤
IsCommitLine (Over t r) = ⊤
IsCommitLine l = ⊥

-- the fields of a line
abbrev pub entry_fields : EntryLine → List (List ℕ)
entry_fields (TakeReduce w t p n) = take_fields w t (codes "reduce") p ++ decimal n ∷ []
entry_fields (TakeOrient w t p n) = take_fields w t (codes "orient") p ++ decimal n ∷ []
entry_fields (TakeOverlap w t p a b) = take_fields w t (codes "overlap") p ++ rule_text a ∷ rule_text b ∷ []
entry_fields (TakeClose w t p) = take_fields w t (codes "close") p
entry_fields (Facts t k) = commit_fields t (codes "facts") ++ decimal k ∷ []
entry_fields (Rewrite t n) = commit_fields t (codes "rewrite") ++ target_text n ∷ []
entry_fields (Oriented t d) = commit_fields t (codes "oriented") ++ decimal d ∷ []
entry_fields (Fork t) = commit_fields t (codes "fork")
entry_fields (Refused t) = commit_fields t (codes "refused")
entry_fields (Deduced t k) = commit_fields t (codes "deduced") ++ decimal k ∷ []
entry_fields (Unjoined t k) = commit_fields t (codes "unjoined") ++ decimal k ∷ []
entry_fields (Closed t) = commit_fields t (codes "closed")
entry_fields (Over t r) = commit_fields t (codes "over") ++ reason_word r ∷ []
entry_fields (Drop t p) = codes "drop" ∷ decimal t ∷ process_text p ∷ []
entry_fields (Abandon t) = codes "abandon" ∷ decimal t ∷ []
entry_fields Halt = codes "halt" ∷ []

-- ---- what a line keeps of an entry; a replay computes the rest again

-- the canonical pair of a term and the side of a node's pair that is not this one, if the node is there and the pair is not trivial
abbrev pub pair_with : List PlainNode → ℕ → ℕ → Tree → Option Pair
pair_with xs n w t = option_and_then (λ q. canonical_pair t (other_side q w)) (pair_in xs n)

-- the line of a commit that had its effect, where these are the nodes
abbrev pub made_line : List PlainNode → ℕ → Proposed → EntryLine
made_line xs t (proposals.Facts fs) = Facts t (length fs)
made_line xs t (proposals.Rewrite n w at a found u) = Rewrite t (option_map (node_of xs) (pair_with xs n.0 w (tree_of u)))
made_line xs t (proposals.One p n d c) = Oriented t d
made_line xs t (proposals.Both p n c0 c1) = Fork t
made_line xs t (proposals.Refuse p n) = Refused t
made_line xs t (proposals.Deduce a c pairs) = Deduced t (length pairs)
made_line xs t (proposals.Unjoined p pairs) = Unjoined t (length pairs)
made_line xs t (proposals.Closed p) = Closed t
made_line xs t (proposals.Limit j cause) = Over t cause.reason

-- the line of a take
abbrev pub take_line : ℕ → ℕ → Job → EntryLine
take_line w t (jobs.Reduce p n) = TakeReduce w t p n.0
take_line w t (jobs.Orient p n) = TakeOrient w t p n.0
take_line w t (jobs.Overlap p a b) = TakeOverlap w t p a b
take_line w t (jobs.Close p) = TakeClose w t p

-- the line of a commit
abbrev pub commit_line : List PlainNode → ℕ → Effect → EntryLine
commit_line xs t (effects.Over r) = Over t r
commit_line xs t (effects.Made x) = made_line xs t x

-- the line of an entry of a board that has these nodes
abbrev pub line_of : List PlainNode → Entry → EntryLine
line_of xs (entries.Take w t j) = take_line w t j
line_of xs (entries.Commit w t e) = commit_line xs t e
line_of xs (entries.Drop w t p) = Drop t p
line_of xs (entries.Abandon w t) = Abandon t
line_of xs entries.Halt = Halt

-- ---- the ranges

abbrev pub IsWorker : ℕ → Type 0
IsWorker w = (1 ≤ w) × (w ≤ 16)

abbrev pub IsTicketNumber : ℕ → Type 0
IsTicketNumber t = (1 ≤ t) × (t < 2 ^ 64)

abbrev pub IsNode : ℕ → Type 0
IsNode n = n < MAX_NODES

abbrev pub IsProcess : Name → Type 0
IsProcess p = length p ≤ 1023

-- a rule of a node that may be there, in direction 0 or 1
abbrev pub IsRule : RuleRef → Type 0
IsRule a = IsNode a.node × (a.dir ≤ 1)

abbrev pub IsTarget : Option ℕ → Type 0
IsTarget None = ⊤
IsTarget (Some n) = IsNode n

-- the numbers and the process of a line are within their ranges
abbrev pub IsEntryLine : EntryLine → Type 0
IsEntryLine (TakeReduce w t p n) = IsWorker w × IsTicketNumber t × IsProcess p × IsNode n
IsEntryLine (TakeOrient w t p n) = IsWorker w × IsTicketNumber t × IsProcess p × IsNode n
IsEntryLine (TakeOverlap w t p a b) = IsWorker w × IsTicketNumber t × IsProcess p × IsRule a × IsRule b
IsEntryLine (TakeClose w t p) = IsWorker w × IsTicketNumber t × IsProcess p
IsEntryLine (Facts t k) = IsTicketNumber t × (k < 2 ^ 64)
IsEntryLine (Rewrite t n) = IsTicketNumber t × IsTarget n
IsEntryLine (Oriented t d) = IsTicketNumber t × (d ≤ 1)
IsEntryLine (Fork t) = IsTicketNumber t
IsEntryLine (Refused t) = IsTicketNumber t
IsEntryLine (Deduced t k) = IsTicketNumber t × (k < 2 ^ 64)
IsEntryLine (Unjoined t k) = IsTicketNumber t × (k < 2 ^ 64)
IsEntryLine (Closed t) = IsTicketNumber t
IsEntryLine (Over t r) = IsTicketNumber t
IsEntryLine (Drop t p) = IsTicketNumber t × IsProcess p
IsEntryLine (Abandon t) = IsTicketNumber t
IsEntryLine Halt = ⊤

-- ---- what the board keeps of a rewriting

-- the node with this number has the pair, and no other
pub record IsOnlyNode (xs : List PlainNode) (q : Pair) (n : ℕ) : Type 0 where
  pub there : pair_in xs n ≡ Some q
  pub only : (m : ℕ) → pair_in xs m ≡ Some q → m ≡ n

-- the pair of the rewritten node is there, its other side and the result have at most 64 variables, and the new pair is there, if it is not trivial
pub record IsKept (xs : List PlainNode) (n w : ℕ) (t : Tree) : Type 0 where
  pub pair : Pair
  pub there : pair_in xs n ≡ Some pair
  pub few : length (variables_of_pair t (other_side pair w)) ≤ MAX_VARIABLES
  pub target : (q : Pair) → canonical_pair t (other_side pair w) ≡ Some q → IsOnlyNode xs q (node_of xs q)

-- so for a proposal that had its effect
abbrev pub IsMadeOn : List PlainNode → Proposed → Type 0
IsMadeOn xs (proposals.Rewrite n w at a found t) = IsKept xs n.0 w (tree_of t)
IsMadeOn xs x = ⊤

abbrev pub IsEffectOn : List PlainNode → Effect → Type 0
IsEffectOn xs (effects.Over r) = ⊤
IsEffectOn xs (effects.Made x) = IsMadeOn xs x

-- so for an entry
abbrev pub IsEntryOn : List PlainNode → Entry → Type 0
IsEntryOn xs (entries.Commit w t e) = IsEffectOn xs e
IsEntryOn xs e = ⊤
