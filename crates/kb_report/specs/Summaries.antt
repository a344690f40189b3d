-- The summary of a run.
use Rattle.std.specs.Prelude.{ℕ, List, [], ◌∷◌, ◌++◌, Bool, cond, Option, Some, None, map, codes}
use Rattle.kb_text.specs.Lines.{line, counted}
use Rattle.kb_label.specs.declared.verdict.Spent.{Spent}
use Rattle.kb_label.specs.declared.verdict.Spent.TheVariants.{Commits, Over}
use Rattle.kb_label.specs.declared.verdict.Verdict.{Verdict}
use Rattle.kb_label.specs.declared.verdict.Verdict.TheVariants.{Complete, AllFailed, Spent as IsSpent}
use Rattle.kb_report.specs.Reports.{reason_word}
use Rattle.kb_report.specs.declared.summary.Summary.{Summary}

-- a bit as a digit
abbrev pub bit_digit : Bool → ℕ
bit_digit bit = cond bit 49 48

-- e for the process without bits, else its bits
abbrev pub process_text : List Bool → List ℕ
process_text [] = codes "e"
process_text (b ∷ bs) = map bit_digit (b ∷ bs)

abbrev pub spent_fields : Spent → List (List ℕ)
spent_fields Commits = codes "spent" ∷ codes "commits" ∷ []
spent_fields (Over reason) = codes "spent" ∷ codes "over" ∷ reason_word reason ∷ []

abbrev pub verdict_fields : Option Verdict → List (List ℕ)
verdict_fields None = codes "none" ∷ []
verdict_fields (Some (Complete p)) = codes "complete" ∷ process_text p ∷ []
verdict_fields (Some AllFailed) = codes "failed" ∷ []
verdict_fields (Some (IsSpent spent)) = spent_fields spent

-- a line for the verdict, and one for each number
abbrev pub summary_text : Summary → List ℕ
summary_text s = line (codes "verdict" ∷ verdict_fields s.verdict)
    ++ counted (codes "commits") s.commits ++ counted (codes "drops") s.drops ++ counted (codes "nodes") s.nodes
    ++ counted (codes "dead") s.dead ++ counted (codes "forks") s.forks ++ counted (codes "living") s.living
    ++ counted (codes "over") s.over ++ counted (codes "rules") s.rules
