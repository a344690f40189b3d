-- What a board reports where a verdict stands.
use Rattle.std.specs.Prelude.{ℕ, ◌≡◌, ◌++◌, List, map, length, Some}
use Rattle.kb_term.specs.Pair.{Pair}
use Rattle.kb_term.specs.Rule.{Rule}
use Rattle.kb_term.specs.Signature.{IsWithinLimits}
use Rattle.kb_term.specs.declared.origin.RuleRef.{RuleRef}
use Rattle.kb_term.specs.declared.origin.Origin.{Origin}
use Rattle.kb_trace.specs.Reached.{IsTraceOf, number_in}
use Rattle.kb_checker.specs.Answers.{Answer}
use Rattle.kb_label.specs.Names.{Name}
use Rattle.kb_label.specs.declared.verdict.Verdict.{Verdict}
use Rattle.kb_label.specs.declared.verdict.Verdict.TheVariants as verdicts
use Rattle.kb_label.specs.declared.verdict.Spent.TheVariants.{Commits, Over}
use Rattle.mkb_model.specs.Plain.{Plain, PlainNode, rules_of, constraints_of, rules_at, certificate_of}
use Rattle.mkb_model.specs.Journals.{After}
use Rattle.mkb_model.specs.declared.entry.Ticket.{Ticket}
use Rattle.mkb_model.specs.declared.entry.Entry.{Entry}
use Rattle.kb_report.specs.declared.report.Report.{Report}
use Rattle.kb_report.specs.declared.report.Report.TheVariants as reports

-- whatever is in flight, some legal journal of the board's problem, which is within the limits, leads to the board
pub record IsReached (b : Plain) : Type 0 where
  pub within : IsWithinLimits b.problem
  pub flight : List Ticket
  pub journal : List Entry
  pub after : After b.problem b.settings journal (record b { flight = flight })

-- the pair and the origin of each node
abbrev pub pairs_of : Plain → List (Pair × Origin)
pairs_of b = map (λ (x : PlainNode). (x.pair, x.origin)) b.nodes

-- the nodes of rules, in order
abbrev pub nodes_of : List RuleRef → List ℕ
nodes_of names = map (λ (a : RuleRef). a.node) names

-- the nodes that an answer has to trace: those of the process's rules and of its constraints
abbrev pub wanted_nodes : Plain → Name → List ℕ
wanted_nodes b p = nodes_of (rules_of b p ++ constraints_of b p)

-- the rules with these names, each with the step of its node, where these nodes are kept as steps
pub record AreCited (b : Plain) (kept : List ℕ) (names : List RuleRef) (rules : List (Rule × ℕ)) : Type 0 where
  pub sides : map (λ (r : Rule × ℕ). r.0) rules ≡ rules_at b names
  pub steps : map (λ (r : Rule × ℕ). r.1) rules ≡ map (number_in kept) (nodes_of names)

-- the answer of a process: its rules and its constraints by node, then direction, its certificate, and as trace the nodes that they reach through origins; each cites the step of its node
pub record IsAnswerOf (b : Plain) (p : Name) (a : Answer) : Type 0 where
  pub problem : a.problem ≡ b.problem
  pub cert : certificate_of b p ≡ Some a.cert
  pub trace : IsTraceOf (pairs_of b) (wanted_nodes b p) a.trace
  pub rules : AreCited b trace.kept (rules_of b p) a.rules
  pub constraints : AreCited b trace.kept (constraints_of b p) a.constraints

-- the report of the verdict
abbrev pub IsReportOf : Plain → Verdict → Report → Type 0
IsReportOf b (verdicts.Complete p) r = (a : Answer) × (r ≡ reports.System a) × IsAnswerOf b p a
IsReportOf b verdicts.AllFailed r = r ≡ reports.AllFailed (length b.living)
IsReportOf b (verdicts.Spent Commits) r = r ≡ reports.SpentCommits b.commits (length b.living)
IsReportOf b (verdicts.Spent (Over reason)) r = r ≡ reports.SpentOver reason (length b.living)
