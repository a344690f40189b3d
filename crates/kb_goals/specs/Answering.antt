-- What is said of goals, and its text.
use Rattle.std.specs.Prelude.{ℕ, ◌+◌, List, [], ◌∷◌, ◌++◌, flat_map, length, codes, decimal, ⊤}
use Rattle.std.specs.List.{AllZip}
use Rattle.kb_term.specs.Tree.{Tree}
use Rattle.kb_term.specs.Rule.{Rule}
use Rattle.kb_term.specs.Signature.{Signature}
use Rattle.kb_term.specs.Proving.{Proves}
use Rattle.kb_term.specs.View.{tree_of}
use Rattle.kb_text.specs.Lines.{line}
use Rattle.kb_text.specs.Names.{Name}
use Rattle.kb_text.specs.Terms.{names_of, term_text}
use Rattle.kb_trace.specs.TraceText.{position_text}
use Rattle.kb_report.specs.Answers.{end_line}
use Rattle.kb_decide.specs.Deciding.{IsDecision}
use Rattle.kb_decide.specs.declared.decision.Line.{Line}
use Rattle.kb_decide.specs.declared.decision.Reason.{Reason}
use Rattle.kb_decide.specs.declared.decision.Reason.TheVariants.{Steps, Size, Depth}
use Rattle.kb_decide.specs.declared.decision.Decision.{Decision}
use Rattle.kb_decide.specs.declared.decision.Decision.TheVariants.{Yes, No, Unknown}

-- the decision of each goal, by the rules
abbrev pub AreDecided : List Rule → List (Tree × Tree) → List Decision → Type 0
AreDecided rules goals ds = AllZip (λ (goal : Tree × Tree) (d : Decision). IsDecision rules goal.0 goal.1 d) goals ds

-- what is right of the goal: a yes where the equations prove it, a no where they don't, and unknown always
abbrev pub IsRight : List (Tree × Tree) → Tree × Tree → Decision → Type 0
IsRight equations goal (Yes ls rs) = Proves equations goal.0 goal.1
IsRight equations goal (No s t) = ¬ Proves equations goal.0 goal.1
IsRight equations goal (Unknown reason) = ⊤

-- the decision of each goal is right
abbrev pub AreRight : List (Tree × Tree) → List (Tree × Tree) → List Decision → Type 0
AreRight equations goals ds = AllZip (IsRight equations) goals ds

-- the limit that was passed
abbrev pub reason_word : Reason → List ℕ
reason_word Steps = codes "steps"
reason_word Size = codes "size"
reason_word Depth = codes "depth"

-- a step of a side: where it is made, and by which rule
abbrev pub step_line : List ℕ → Line → List ℕ
step_line side step = line (side ∷ position_text step.position ∷ decimal step.rule ∷ [])

abbrev pub term_line : List Name → Tree → List ℕ
term_line names t = line (term_text names t ∷ [])

-- what is said of the goal with this number
abbrev pub decision_text : List Name → ℕ → Decision → List ℕ
decision_text names i (Yes ls rs) =
    line (decimal i ∷ codes "YES" ∷ decimal (length ls.items) ∷ decimal (length rs.items) ∷ []) ++ flat_map (step_line (codes "left")) ls.items ++ flat_map (step_line (codes "right")) rs.items
decision_text names i (No s t) = line (decimal i ∷ codes "NO" ∷ []) ++ term_line names (tree_of s) ++ term_line names (tree_of t)
decision_text names i (Unknown reason) = line (decimal i ∷ codes "UNKNOWN" ∷ reason_word reason ∷ [])

-- what is said of goals that are numbered from i
abbrev pub decisions_text : List Name → ℕ → List Decision → List ℕ
decisions_text names i [] = []
decisions_text names i (d ∷ ds) = decision_text names i d ++ decisions_text names (i + 1) ds

-- what is said of each goal, between the head and the end
abbrev pub decide_text : Signature → List Decision → List ℕ
decide_text sig ds = line (codes "MKBTT" ∷ codes "DECIDE" ∷ codes "1" ∷ []) ++ decisions_text (names_of sig) 1 ds ++ end_line
