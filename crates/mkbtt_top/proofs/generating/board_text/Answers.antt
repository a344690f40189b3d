use Rattle.std.proofs.Common.{◌≡◌, ◌∙◌, ℕ, Vec, Global, ap, sym}
use Rattle.std.proofs.lemmas.Result.{IfOk-weaker}
use Rattle.kb_report.specs.Summaries.{summary_text}
use Rattle.mkb_report.specs.Summaries.{summary_of}
use Rattle.mkbtt_top.specs.Generating.{board_text}
use Rattle.mkbtt_top.proofs.Reported.{verdict_of_state, summary_of_board}
use Rattle.mkbtt_top.proofs.generating.board_text.Goals as goal

pub summary_of-summary-requires : goal.summary_of-summary-requires
summary_of-summary-requires c = sym (verdict_of_state c.args.board.now c.state.result.now c.verdict.result c.state.ensures (sym c.verdict.ensures))

pub returns : goal.returns
returns c =
    IfOk-weaker c.summary_text.result (λ (text : Vec ℕ Global). text.items ≡ summary_text c.summary_of-summary.result) (λ (text : Vec ℕ Global). text.items ≡ board_text c.args.board.now)
    (λ text e. e ∙ ap summary_text (c.summary_of-summary.ensures ∙ ap (summary_of c.state.result.now) c.drops.ensures ∙ summary_of_board c.args.board.now c.state.result.now _ c.state.ensures))
    c.summary_text.ensures
