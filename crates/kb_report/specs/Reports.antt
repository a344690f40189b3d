-- The text of each report.
use Rattle.std.specs.Prelude.{ℕ, List, [], ◌∷◌, ◌++◌, codes, decimal}
use Rattle.kb_text.specs.Lines.{line}
use Rattle.kb_label.specs.declared.verdict.Reason.{Reason}
use Rattle.kb_label.specs.declared.verdict.Reason.TheVariants.{Nodes, Processes, Size, Depth, Variables, Steps}
use Rattle.kb_report.specs.Answers.{head_line, end_line, system_text}
use Rattle.kb_report.specs.declared.version.Version.TheVariants.{Second}
use Rattle.kb_report.specs.declared.report.Report.{Report}
use Rattle.kb_report.specs.declared.report.Report.TheVariants.{System, AllFailed, SpentCommits, SpentOver}

abbrev pub reason_word : Reason → List ℕ
reason_word Nodes = codes "nodes"
reason_word Processes = codes "processes"
reason_word Size = codes "size"
reason_word Depth = codes "depth"
reason_word Variables = codes "variables"
reason_word Steps = codes "steps"

-- the one line of a report without a system
abbrev pub short_text : List (List ℕ) → List ℕ
short_text fields = head_line Second ++ line fields ++ end_line

abbrev pub report_text : Report → List ℕ
report_text (System a) = system_text Second a
report_text (AllFailed living) = short_text (codes "FAILED" ∷ decimal living ∷ [])
report_text (SpentCommits commits living) = short_text (codes "SPENT" ∷ codes "COMMITS" ∷ decimal commits ∷ decimal living ∷ [])
report_text (SpentOver reason living) = short_text (codes "SPENT" ∷ codes "OVER" ∷ reason_word reason ∷ decimal living ∷ [])
