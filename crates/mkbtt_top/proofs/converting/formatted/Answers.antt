use Rattle.std.proofs.Common.{sym, subst}
use Rattle.std.specs.Prelude.{IfOk}
use Rattle.mkbtt_words.specs.declared.format.Format.{Format}
use Rattle.mkbtt_top.specs.Converting.{IsWrittenAs, ListsRules}
use Rattle.mkbtt_top.proofs.Handed.{both_ok}
use Rattle.mkbtt_top.proofs.converting.formatted.Goals as goal

pub returns-in-Trs : goal.returns-in-Trs
returns-in-Trs c =
    let written : IfOk c.trs_text.result (λ text. ListsRules text.items c.args.answer) = both_ok c.trs_text.result _ _ (λ text. ListsRules text.items c.args.answer) (λ text t r. record { text_is = t; read = r }) c.trs_text.ensures.text c.trs_text.ensures.read in
    subst {A = Format} (λ f. IfOk c.trs_text.result (λ text. IsWrittenAs f text.items c.args.answer)) (sym c.in-Trs.is) written
