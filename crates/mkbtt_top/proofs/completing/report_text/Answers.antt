use Rattle.std.proofs.Common.{◌≡◌, ℕ, Some, Vec, Global}
use Rattle.std.proofs.lemmas.Result.{IfOk-weaker}
use Rattle.kb_report.specs.Reports.{report_text}
use Rattle.mkbtt_top.specs.Completing.{IsReported}
use Rattle.mkbtt_top.proofs.Reported.{reached, verdict_of_state, reported}
use Rattle.mkbtt_top.proofs.completing.report_text.Goals as goal

pub report_of-requires-clause-reached : goal.report_of-requires-clause-reached
report_of-requires-clause-reached c = reached c.args.board.now c.state.result.now c.state.ensures c.journal_is_legal.ensures

pub report_of-requires-clause-stands : goal.report_of-requires-clause-stands
report_of-requires-clause-stands c = verdict_of_state c.args.board.now c.state.result.now (Some c.args.verdict.now) c.state.ensures c.requires

pub returns : goal.returns
returns c =
    let s = c.args.board.now in
    let v = c.args.verdict.now in
    let r = c.in_ok-report.report in
    IfOk-weaker c.answer_text.result (λ (text : Vec ℕ Global). text.items ≡ report_text r) (λ (text : Vec ℕ Global). IsReported s v text.items)
    (λ text e. reported s c.state.result.now v r text.items c.reports_are_good.ensures.good c.reports_are_good.ensures.accepted c.state.ensures c.journal_is_legal.ensures c.requires c.in_ok-report.ensures.form e c.in_ok-report.ensures.report)
    c.answer_text.ensures
