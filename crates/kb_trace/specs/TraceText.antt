-- The text of a trace.
use Rattle.std.specs.Prelude.{◌≡◌, ℕ, ◌+◌, ◌≤◌, List, [], ◌∷◌, ◌++◌, map, length, Bool, ◌&&◌, nat_le, codes, decimal, IsTrue, All}
use Rattle.std.specs.List.{list_all, join_with_byte}
use Rattle.kb_term.specs.Signature.{Signature}
use Rattle.kb_term.specs.declared.origin.RuleRef.{RuleRef}
use Rattle.kb_term.specs.declared.origin.Origin.{Origin}
use Rattle.kb_term.specs.declared.origin.Origin.TheVariants.{Input, Rewrite, Overlap}
use Rattle.kb_overlap.specs.Trace.{TraceStep}
use Rattle.kb_text.specs.Names.{Name}
use Rattle.kb_text.specs.Lines.{line}
use Rattle.kb_text.specs.Terms.{names_of, infix_text, IsPairForm}
use Rattle.kb_term.specs.declared.limits.TheConstants.{MAX_ARITY, MAX_EQUATIONS, MAX_NODES}

-- e for the root, else argument numbers joined by dots
abbrev pub position_text : List ℕ → List ℕ
position_text [] = codes "e"
position_text (n ∷ ns) = join_with_byte 46 (map decimal (n ∷ ns))

-- a word, and the number and direction of the rule that is cited behind it
abbrev pub cited_fields : List ℕ → RuleRef → List (List ℕ)
cited_fields word r = word ∷ decimal r.node ∷ codes "dir" ∷ decimal r.dir ∷ []

abbrev pub origin_fields : Origin → List (List ℕ)
origin_fields (Input i) = codes "input" ∷ decimal i ∷ []
origin_fields (Rewrite a w p r) = codes "rewrite" ∷ decimal a ∷ codes "side" ∷ decimal w ∷ codes "at" ∷ position_text p ∷ cited_fields (codes "by") r
origin_fields (Overlap a b p) = cited_fields (codes "overlap") a ++ cited_fields (codes "with") b ++ codes "at" ∷ position_text p ∷ []

abbrev pub step_fields : List Name → ℕ → TraceStep → List (List ℕ)
step_fields names k s = decimal k ∷ (origin_fields s.origin ++ codes ":" ∷ infix_text names (codes "=") s.pair.first s.pair.second)

abbrev pub step_line : List Name → ℕ → TraceStep → List ℕ
step_line names k s = line (step_fields names k s)

-- the steps, numbered from k
abbrev pub step_lines : List Name → ℕ → List TraceStep → List ℕ
step_lines names k [] = []
step_lines names k (s ∷ ss) = step_line names k s ++ step_lines names (k + 1) ss

abbrev pub trace_text : Signature → List TraceStep → List ℕ
trace_text sig t = step_lines (names_of sig) 1 t

-- ---- their forms

-- a number from 1 to the highest
abbrev pub is_up_to : ℕ → ℕ → Bool
is_up_to highest n = nat_le 1 n && nat_le n highest

-- at most 63 argument numbers from 1 to 8
abbrev pub is_position : List ℕ → Bool
is_position p = nat_le (length p) 63 && list_all (is_up_to MAX_ARITY) p

abbrev pub is_cited : RuleRef → Bool
is_cited r = is_up_to MAX_NODES r.node && nat_le r.dir 1

abbrev pub is_origin : Origin → Bool
is_origin (Input i) = is_up_to MAX_EQUATIONS i
is_origin (Rewrite a w p r) = is_up_to MAX_NODES a && nat_le w 1 && is_position p && is_cited r
is_origin (Overlap a b p) = is_cited a && is_cited b && is_position p

-- a step whose numbers a line may have, and whose pair is canonical and within the limits
pub record IsStepForm (sig : Signature) (s : TraceStep) : Type 0 where
  pub origin : IsTrue (is_origin s.origin)
  pub pair : IsPairForm sig s.pair

-- at most 4,096 such steps
pub record IsTraceForm (sig : Signature) (t : List TraceStep) : Type 0 where
  pub count : length t ≤ MAX_NODES
  pub steps : All (IsStepForm sig) t

-- the bytes are the text of such a trace
abbrev pub IsTraceText : Signature → List ℕ → Type 0
IsTraceText sig bytes = (t : List TraceStep) × IsTraceForm sig t × (bytes ≡ trace_text sig t)
